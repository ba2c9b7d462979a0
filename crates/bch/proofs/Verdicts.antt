-- The checks 1 to 4, one after the other: what a test of the code says of `checked`. And the three codes by their numbers.
-- Assumes nothing.
use mathlib.Core.Path.{◌≡◌, sym, ap}
use mathlib.Core.Bool.{Bool, true, false, true≢false}
use mathlib.Core.Logic.{◌≢◌}
use mathlib.Core.List.{List}
use Prim.Native.Nat.{ℕ, ◌≤◌, ◌<◌}
use native.Mathlib.Decide.{ℕ_discrete}
use borrow.Author.Tests.{eq-eqb, ne_eqb, lt-ltb, le-ltb}
use lib.ListN.{length}
use Rattle.std.specs.Prelude.{cond, ltb, eqb}
use Rattle.bits.specs.Words.{first_bad}
use Rattle.bch.specs.Codes.{Code, Named, known, unknown, named, code1, code2, code3}
use Rattle.answers.specs.Checks.{Checked, fails, passes}
use Rattle.bch.specs.Promise.{checked_by, checked}

module _ (P : Checked Code → Type 0) (size : Code → ℕ) (word out : List ℕ) where
  pub unknown_code : (c : ℕ) → c ≢ 1 → c ≢ 2 → c ≢ 3 → P (fails 1 0) → P (checked c size word out)
  unknown_code c n1 n2 n3 p = rw (ne_eqb c 1 n1, ne_eqb c 2 n2, ne_eqb c 3 n3) p

  module _ (c : Code) where
    pub wrong_length : length word ≢ size c → P (fails 2 0) → P (checked_by (known c) size word out)
    wrong_length n p = rw (ne_eqb (length word) (size c) n) p

    module _ (long : length word ≡ size c) where
      pub no_room : length out < c.n → P (fails 3 0) → P (checked_by (known c) size word out)
      no_room l p = rw (eq-eqb (length word) (size c) long, lt-ltb (length out) c.n l) p

      module _ (room : c.n ≤ length out) where
        pub not_a_bit : first_bad word < length word → P (fails 4 (first_bad word)) → P (checked_by (known c) size word out)
        not_a_bit l p =
            rw (eq-eqb (length word) (size c) long, le-ltb (length out) c.n room, lt-ltb (first_bad word) (length word) l) p

        pub all_pass : length word ≤ first_bad word → P (passes c) → P (checked_by (known c) size word out)
        all_pass l p =
            rw (eq-eqb (length word) (size c) long, le-ltb (length out) c.n room, le-ltb (first_bad word) (length word) l) p

-- ---- the checks pass for the code of the number alone

abbrev is_known : Named → Bool
is_known (known c) = true
is_known unknown = false

abbrev named_out : Checked Code → Named
named_out (passes c) = known c
named_out (fails n p) = unknown

failed : {A : Type 0} {c : Code} (n p : ℕ) → fails n p ≡ passes c → A
failed n p e = absurd (true≢false (sym (ap (λ (k : Checked Code). is_known (named_out k)) e)))

-- where a test leads to a failure, it was not so
was_true : (b : Bool) (x : Checked Code) {c : Code} (n p : ℕ) → cond b x (fails n p) ≡ passes c → x ≡ passes c
was_true true x n p e = e
was_true false x n p e = failed n p e

was_false : (b : Bool) (x : Checked Code) {c : Code} (n p : ℕ) → cond b (fails n p) x ≡ passes c → x ≡ passes c
was_false true x n p e = failed n p e
was_false false x n p e = e

pub passed : (k : Named) (size : Code → ℕ) (word out : List ℕ) {c : Code} → checked_by k size word out ≡ passes c → k ≡ known c
passed unknown size word out e = failed 1 0 e
passed (known d) size word out e =
    ap named_out
    (was_false (ltb (first_bad word) (length word)) _ 4 (first_bad word)
    (was_false (ltb (length out) d.n) _ 3 0 (was_true (eqb (length word) (size d)) _ 2 0 e)))

-- ---- the three codes by their numbers

-- what holds of each of the three holds of the code of a number
pub of_three : (P : Code → Type 0) → P code1 → P code2 → P code3 → (number : ℕ) (c : Code) → named number ≡ known c → P c
of_three P one two three number c e = go (ℕ_discrete number 1) (ℕ_discrete number 2) (ℕ_discrete number 3)
  where
    is : (d : Code) → known d ≡ known c → P d → P c
    is d s holds = let same : d ≡ c = cc in rw same at holds

    go : Dec (number ≡ 1) → Dec (number ≡ 2) → Dec (number ≡ 3) → P c
    go (yes h) _ _ = is code1 (rw (eq-eqb number 1 h) at e) one
    go (no n1) (yes h) _ = is code2 (rw (ne_eqb number 1 n1, eq-eqb number 2 h) at e) two
    go (no n1) (no n2) (yes h) = is code3 (rw (ne_eqb number 1 n1, ne_eqb number 2 n2, eq-eqb number 3 h) at e) three
    go (no n1) (no n2) (no n3) =
        let s : unknown ≡ known c = rw (ne_eqb number 1 n1, ne_eqb number 2 n2, ne_eqb number 3 n3) at e in
        absurd (true≢false (sym (ap is_known s)))
