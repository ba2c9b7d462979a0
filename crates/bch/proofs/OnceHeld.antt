-- What encode and decode stand on leaves one result too: a register is its number, a table is its entries, a code that is held is the code of its
-- number, and what is judged is what the checks find.
-- Assumes nothing.
use mathlib.Core.Path.{◌≡◌, refl, sym, ap, subst, ◌∙◌}
use mathlib.Core.Logic.{by_cases}
use mathlib.Core.Bool.{Bool, true, false, true≢false}
use mathlib.Core.List.{List}
use Prim.Native.Nat.{ℕ, ◌+◌, ◌-◌, ◌*◌, ◌^◌, ◌<◌}
use native.Mathlib.Nat.{add_left_cancel}
use native.Mathlib.Decide.{dec_lt}
use native.Mathlib.Omega.{arith}
use lib.ListN.{length, get_or}
use lib.Seq.{ext_get_or}
use Rattle.answers.specs.Answers.{accepted, refused, because}
use Rattle.answers.specs.Checks.{Checked, fails, passes}
use Rattle.answers.specs.declared.Told.{Told}
use Rattle.bch.specs.Codes.{Code, Named, known, unknown, code1}
use Rattle.bch.specs.Registers.{contents, whole, Remainders}
use Rattle.bch.specs.Held.{code_of, Sound, Holds, Judged}
use Rattle.bch.specs.declared.register.Register.{Register}
use Rattle.bch.specs.declared.code.Held.{Held}
use Rattle.std.specs.Prelude.{Option, Some, None, Result, Ok, Err}
use Rattle.answers.specs.declared.Refusal.{Refusal}
use Rattle.answers.proofs.Telling.{refusal_of, refusal_of_lem, never_accepted, because_is}
use Rattle.bch.proofs.Triples.{joined_once}

abbrev register : ℕ → ℕ → ℕ → Register
register h m l = record { high = h; mid = m; low = l }

-- a register's words are machine words
pub record Wide (r : Register) : Type 0 where
  pub high : r.high < 2 ^ 64
  pub mid : r.mid < 2 ^ 64
  pub low : r.low < 2 ^ 64

registers : {h m l i n k : ℕ} → h ≡ i → m ≡ n → l ≡ k → register h m l ≡ register i n k
registers eh em el = cc (eh, em, el)

pub register_once : (q r : Register) → Wide q → Wide r → contents q ≡ contents r → q ≡ r
register_once q r wq wr e =
    let same = joined_once (2 ^ 64) q.high q.mid q.low r.high r.mid r.low wq.mid wq.low wr.mid wr.low e in
    registers same.0 same.1 same.2

-- ---- a table

-- what holds of the three machine words of each entry holds of all
thirds : (P : ℕ → Type 0) → ((e : ℕ) → e < 64 → P e × P (64 + e) × P (128 + e)) → (i : ℕ) → i < 192 → P i
thirds P h i k =
    by_cases (dec_lt i 64) (λ l. (h i l).0)
    (λ m. by_cases (dec_lt i 128) (λ l. subst P (omega arith) (h (i - 64) (omega arith)).1) (λ n. subst P (omega arith) (h (i - 128) (omega arith)).2))

-- the table of a generator is one, where its words are machine words
pub table_once : (g : ℕ) (u v : List ℕ) → length u ≡ 192 → length v ≡ 192 → ((i : ℕ) → get_or u i 0 < 2 ^ 64) → ((i : ℕ) → get_or v i 0 < 2 ^ 64)
    → Remainders g u → Remainders g v → u ≡ v
table_once g u v lu lv wu wv tu tv = ext_get_or 0 u v (lu ∙ sym lv) (λ i h. thirds (λ i. get_or u i 0 ≡ get_or v i 0) same i (omega arith))
  where
    same : (e : ℕ) → e < 64
        → (get_or u e 0 ≡ get_or v e 0) × (get_or u (64 + e) 0 ≡ get_or v (64 + e) 0) × (get_or u (128 + e) 0 ≡ get_or v (128 + e) 0)
    same e h =
        joined_once (2 ^ 64) _ _ _ _ _ _ (wu (64 + e)) (wu (128 + e)) (wv (64 + e)) (wv (128 + e)) (tu.at e h ∙ sym (tv.at e h))

-- ---- a code that is held

abbrev held : ℕ → ℕ → ℕ → Register → Held
held n k t g = record { n = n; k = k; t = t; generator = g }

helds : {n k t m j s : ℕ} {g f : Register} → n ≡ m → k ≡ j → t ≡ s → g ≡ f → held n k t g ≡ held m j s f
helds en ek et eg = cc (en, ek, et, eg)

-- one code is held in one way
held_once : (h g : Held) → Wide h.generator → Wide g.generator → Sound h → Sound g → code_of h ≡ code_of g → h ≡ g
held_once h g wh wg sh sg same =
    let en : h.n ≡ g.n = ap (λ (d : Code). d.n) same in
    let ek : h.k ≡ g.k = ap (λ (d : Code). d.k) same in
    let et : h.t ≡ g.t = ap (λ (d : Code). d.t) same in
    let all : whole h.generator ≡ whole g.generator
    = sh.exact ∙ ap (λ (d : Code). d.generator * 2 ^ (192 - (d.n - d.k))) same ∙ sym sg.exact in
    helds en ek et (register_once h.generator g.generator wh wg (add_left_cancel (2 ^ 192) all))

-- ---- the code of a number

-- the words of the code that is held for a number are machine words
abbrev pub WideNumbered : Option Held → Type 0
WideNumbered (Some h) = Wide h.generator
WideNumbered None = Unit {0}

abbrev code_in : Named → Code
code_in (known c) = c
code_in unknown = code1

abbrev is_known : Named → Bool
is_known (known c) = true
is_known unknown = false

pub numbered_once : (c : ℕ) (p q : Option Held) → WideNumbered p → WideNumbered q → Holds c p → Holds c q → p ≡ q
numbered_once c (Some h) (Some g) wh wg ph pg =
    ap Some (held_once h g wh wg ph.0 pg.0 (ap code_in (sym ph.1 ∙ pg.1)))
numbered_once c (Some h) None wh wg ph pg = absurd (true≢false (ap is_known (sym ph.1 ∙ pg)))
numbered_once c None (Some h) wh wg ph pg = absurd (true≢false (ap is_known (sym pg.1 ∙ ph)))
numbered_once c None None wh wg ph pg = refl

-- ---- what the checks answer

-- the words of the code that they answer are machine words
abbrev pub WideVerdict : Result Held Refusal → Type 0
WideVerdict (Ok h) = Wide h.generator
WideVerdict (Err why) = Unit {0}

abbrev code_out : Checked Code → Code
code_out (passes c) = c
code_out (fails n p) = code1

-- what the checks tell
abbrev told_out : Checked Code → Told
told_out (passes c) = accepted 0 0 0
told_out (fails n p) = refused n p

pub judged_once : (c : ℕ) (whole : Bool) (word out : List ℕ) (p q : Result Held Refusal) → WideVerdict p → WideVerdict q
    → Judged c whole word out p → Judged c whole word out q → p ≡ q
judged_once c whole word out (Ok h) (Ok g) wh wg ph pg =
    ap Ok (held_once h g wh wg ph.0.sound pg.0.sound (ap code_out (sym ph.1 ∙ pg.1)))
judged_once c whole word out (Ok h) (Err r) wh wr ph pr = absurd (never_accepted r 0 0 0 (because_is r ∙ ap told_out (sym pr ∙ ph.1)))
judged_once c whole word out (Err r) (Ok h) wr wh pr ph = absurd (never_accepted r 0 0 0 (because_is r ∙ ap told_out (sym pr ∙ ph.1)))
judged_once c whole word out (Err r) (Err s) wr ws pr ps =
    let tells : because r ≡ because s = because_is r ∙ ap told_out (sym pr ∙ ps) ∙ sym (because_is s) in
    ap Err (sym (refusal_of_lem r) ∙ ap refusal_of tells ∙ refusal_of_lem s)
