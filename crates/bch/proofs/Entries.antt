-- The tables of the three codes hold the remainders by their generators, and machine words, by computation; so a sound code that has a number has its table.
-- Assumes nothing.
use mathlib.Core.Bool.{Bool, true, false}
use mathlib.Core.List.{List, ◌++◌}
use mathlib.Core.Logic.{by_cases}
use mathlib.Core.Path.{◌≡◌, sym, subst}
use Prim.Native.Nat.{ℕ, ◌+◌, ◌-◌, ◌*◌, ◌/◌, ◌%◌, ◌^◌, ◌<◌}
use native.Mathlib.Decide.{dec_lt}
use native.Mathlib.Omega.{arith}
use lib.Dec.{T, eqb, ltb, ltb→lt}
use lib.ListN.{length, get_or, replicate, get_or-eq_default}
use lib.Pow.{pow_pos}
use Rattle.std.specs.Prelude.{cond}
use Rattle.ground.proofs.Tests.{all, all_equal, every, every_at}
use Rattle.bits.specs.Words.{digits}
use Rattle.bits.specs.Remainders.{reduced, step, remainder, remainder_from}
use Rattle.answers.specs.Checks.{passes}
use Rattle.bch.specs.Codes.{Code, known, named}
use Rattle.bch.specs.Held.{Sound, code_of, table_of, Tabled}
use Rattle.bch.specs.Promise.{checked}
use Rattle.bch.specs.Registers.{entry_at, Remainders}
use Rattle.bch.specs.declared.code.Held.{Held}
use Rattle.bch.specs.declared.tables.TheConstants.{TABLE1, TABLE2, TABLE3}
use Rattle.bch.proofs.Verdicts.{of_three, passed}

-- the remainder by g that stands at e
abbrev entry_of : ℕ → ℕ → ℕ
entry_of g e = remainder 192 g (digits 4 (e % 16) ++ replicate (4 * (e / 16)) 0)

-- each of the 64 entries is the remainder by g that stands there
abbrev pub right : ℕ → List ℕ → Bool
right g table = all 64 (λ e. eqb (entry_at table e) (entry_of g e))

rule : (g : ℕ) (table : List ℕ) → T (right g table) → Remainders g table
rule g table test = record { at = all_equal 64 (entry_at table) (entry_of g) test }

test1 : T (right (2 ^ 192 + 0xcc2b989a1000000000000000000000000000000000000000) TABLE1)
unfolding digits reduced step remainder_from remainder
test1 = tt

test2 : T (right (2 ^ 192 + 0xb8ba069b8b1ffe26e5000000000000000000000000000000) TABLE2)
unfolding digits reduced step remainder_from remainder
test2 = tt

test3 : T (right (2 ^ 192 + 0x2b6bd0545db34c1e01d5296e58c8ed2701ad000000000000) TABLE3)
unfolding digits reduced step remainder_from remainder
test3 = tt

pub rule1 : Remainders (2 ^ 192 + 0xcc2b989a1000000000000000000000000000000000000000) TABLE1
rule1 = rule _ TABLE1 test1

pub rule2 : Remainders (2 ^ 192 + 0xb8ba069b8b1ffe26e5000000000000000000000000000000) TABLE2
rule2 = rule _ TABLE2 test2

pub rule3 : Remainders (2 ^ 192 + 0x2b6bd0545db34c1e01d5296e58c8ed2701ad000000000000) TABLE3
rule3 = rule _ TABLE3 test3

-- ---- they are machine words

-- a test of each entry holds behind the last too, where there is 0
fits : (table : List ℕ) → T (every (λ i x. ltb x (2 ^ 64)) 0 table) → (j : ℕ) → get_or table j 0 < 2 ^ 64
fits table test j =
    by_cases (dec_lt j (length table)) (λ l. ltb→lt (get_or table j 0) (2 ^ 64) (every_at (λ i x. ltb x (2 ^ 64)) 0 table test j l))
    (λ n. rw (get_or-eq_default table 0 {n = j} (omega arith)) (pow_pos 64))

one_of : (P : List ℕ → Type 0) (b : Bool) {x y : List ℕ} → P x → P y → P (cond b x y)
one_of P true p q = p
one_of P false p q = q

pub table_fits : (h : Held) (j : ℕ) → get_or (table_of h) j 0 < 2 ^ 64
unfolding table_of
table_fits h j =
    let P : List ℕ → Type 0 = λ v. get_or v j 0 < 2 ^ 64 in
    one_of P (eqb h.t 4) (fits TABLE1 tt j) (one_of P (eqb h.t 8) (fits TABLE2 tt j) (fits TABLE3 tt j))

-- ---- a code that has a number has its table

-- the table by how many the code mends, and the generator at the top of 192 digits
abbrev RuleOf : Code → Type 0
RuleOf c = Remainders (c.generator * 2 ^ (192 - (c.n - c.k))) (cond (eqb c.t 4) TABLE1 (cond (eqb c.t 8) TABLE2 TABLE3))

pub tabled : (number : ℕ) (h : Held) → Sound h → named number ≡ known (code_of h) → Tabled h
unfolding table_of
tabled number h sound code =
    subst (λ (g : ℕ). Remainders g (table_of h)) (sym sound.exact) (of_three RuleOf rule1 rule2 rule3 number (code_of h) code)

-- as it has where the checks pass
pub judged_tabled : (number : ℕ) (h : Held) → Sound h → (size : Code → ℕ) (word out : List ℕ) → checked number size word out ≡ passes (code_of h) → Tabled h
judged_tabled number h sound size word out e = tabled number h sound (passed (named number) size word out e)
