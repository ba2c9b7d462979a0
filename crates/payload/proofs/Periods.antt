-- The register comes round after a period of bits. It is read from a table of it at every 128 of them, and the few bits more are shifted in.
-- Assumes nothing.
use mathlib.Core.Path.{◌≡◌, refl, sym, ap, ap₂, ◌∙◌}
use Prim.Native.Nat.{ℕ, zero, suc, ◌+◌, ◌-◌, ◌*◌, ◌/◌, ◌%◌, ◌^◌, ◌≤◌, ◌<◌}
use native.Mathlib.Nat.{mod-lt, mul-mod_left, not-suc-le-zero, le_of_suc-le-suc}
use native.Mathlib.Omega.{arith}
use lib.Dec.{lit<}
use lib.ListN.{get_or}
use lib.Pow.{pow_pos, mod-pow-add, shl-shr, shr_lt}
use Rattle.bits.specs.Words.{digits}
use Rattle.payload.specs.Scrambler.{start, formed, shifted, register_after, registers_from}
use Rattle.payload.proofs.Scrambling.{register_more}
use Rattle.payload.proofs.Forming.{formed_from, first_formed, register_behind, shifted_in}

-- ---- the table

pub entry : (n a r : ℕ) → a < n → get_or (registers_from n r) a 0 ≡ register_after (128 * a) r
unfolding registers_from register_after
entry zero a r h = absurd (not-suc-le-zero h)
entry (suc n) zero r h = refl
entry (suc n) (suc a) r h =
    let e : 128 + 128 * a ≡ 128 * suc a = omega arith in
    entry n a (register_after 128 r) (le_of_suc-le-suc h) ∙ sym (register_more 128 (128 * a) r) ∙ ap (λ (k : ℕ). register_after k r) e

pub register_below : (n r : ℕ) → r < 2 ^ 15 → register_after n r < 2 ^ 15
unfolding register_after shifted
register_below zero r h = h
register_below (suc n) r h = register_below n (shifted r) (mod-lt (r * 2 + formed r) (pow_pos 15))

-- ---- the period

abbrev pub period : ℕ
period = 32767

-- the last entry, and 127 bits after it, by computation
last : get_or (registers_from 256 start) 255 0 ≡ 72
unfolding registers_from register_after shifted formed
last = refl

round : register_after 127 72 ≡ start
unfolding register_after shifted formed
round = refl

register_round : register_after period start ≡ start
register_round = sym (register_behind (128 * 255) 127 start 72 start (sym last ∙ entry 256 255 start (lit< tt)) (sym round))

register_again : (q p : ℕ) → register_after (q * period + p) start ≡ register_after p start
register_again zero p = ap (λ (k : ℕ). register_after k start) (omega arith)
register_again (suc q) p =
    let e : suc q * period + p ≡ period + (q * period + p) = omega arith in
    ap (λ (k : ℕ). register_after k start) e ∙ register_more period (q * period + p) start ∙ ap (register_after (q * period + p)) register_round
    ∙ register_again q p

-- what 8 n bits are past the last time round: so many steps, and the bits after them
pub register_read : (n : ℕ) → let p = n % period * 8 % period in
    register_after (p % 128) (register_after (128 * (p / 128)) start) ≡ register_after (8 * n) start
register_read n =
    let p = n % period * 8 % period in
    let q = n / period * 8 + n % period * 8 / period in
    let s : 128 * (p / 128) + p % 128 ≡ p = omega arith in
    let e : q * period + p ≡ 8 * n = omega arith in
    sym (register_more (128 * (p / 128)) (p % 128) start)
    ∙ ap (λ (k : ℕ). register_after k start) s ∙ sym (register_again q p) ∙ ap (λ (k : ℕ). register_after k start) e

-- ---- bits more

-- of fourteen formed bits, the first few shifted in
pub few_shifted : (d k r : ℕ) → d ≤ 14 → r < 2 ^ 15 → k < 2 ^ 14 → digits 14 k ≡ formed_from r 14
    → r * 2 ^ d % 2 ^ 16 % 2 ^ 15 + k / 2 ^ (14 - d) ≡ register_after d r
unfolding register_after
few_shifted zero k r h l low e = omega arith
few_shifted (suc n) k r h l low e =
    let d = suc n in
    let m = 14 - n in
    let s : d + (14 - d) ≡ 14 = omega arith in
    let t : m + d ≡ 15 = omega arith in
    let few : k / 2 ^ (14 - d) < 2 ^ d = shr_lt d (14 - d) (rw s low) in
    let first : digits d (k / 2 ^ (14 - d)) ≡ formed_from r d = first_formed d (14 - d) k r (rw s e) in
    let once : r * 2 ^ d % 2 ^ 16 % 2 ^ 15 ≡ r * 2 ^ d % 2 ^ 15 = omega arith in
    let out : r * 2 ^ d % 2 ^ (m + d) ≡ r % 2 ^ m * 2 ^ d
    = mod-pow-add (r * 2 ^ d) m d ∙ ap₂ (λ (x y : ℕ). x % 2 ^ m * 2 ^ d + y) (shl-shr r d) (mul-mod_left r (2 ^ d)) ∙ omega arith in
    ap (λ (x : ℕ). x + k / 2 ^ (14 - d)) (once ∙ ap (λ (j : ℕ). r * 2 ^ d % 2 ^ j) (sym t) ∙ out) ∙ shifted_in m n (k / 2 ^ (14 - d)) r t few first
