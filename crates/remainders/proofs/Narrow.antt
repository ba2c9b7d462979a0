-- Of the entries of a table the lower machine words are left out where they are 0: what is read of them then, and that the rule of the table holds still.
-- Assumes nothing.
use mathlib.Core.Path.{◌≡◌, refl, sym, ap, ap₂, ◌∙◌}
use mathlib.Core.List.{List}
use Prim.Native.Nat.{ℕ, zero, suc, ◌+◌, ◌-◌, ◌*◌, ◌/◌, ◌%◌, ◌^◌, ◌≤◌, ◌<◌}
use native.Mathlib.Nat.{zero-add, le-mul_of_pos_right}
use native.Mathlib.Omega.{arith}
use lib.Arith.{digits_lt, digits_mod}
use lib.Bits.{bit_xor, xor_lt}
use lib.ListN.{get_or, take, length-take, get_or-eq_default}
use lib.Pow.{pow_pos}
use lib.Seq.{get_or-take}
use Rattle.bits.specs.Remainders.{remainder}
use Rattle.bch.specs.Registers.{entry_at, Remainders}
use Rattle.bch.proofs.Triples.{joined, joined-xor}
use Rattle.remainders.specs.Taking.{four_by, FourFit, sixteen_by}

module _ (table : List ℕ) (b w i : ℕ) (low : i < 64) where
  -- the machine words w of the entries are read
  pub word_read : w ≤ b → get_or (take (64 * suc b) table) (64 * w + i) 0 ≡ get_or table (64 * w + i) 0
  word_read h = get_or-take (64 * suc b) table (64 * w + i) 0 (omega arith)

  -- they are left out
  pub word_out : b < w → get_or (take (64 * suc b) table) (64 * w + i) 0 ≡ 0
  word_out h = get_or-eq_default (take (64 * suc b) table) 0 (omega (arith, length-take (64 * suc b) table))

-- those of the four entries for sixteen digits
module _ (table : List ℕ) (b w z : ℕ) (few : z < 65536) where
  abbrev seen : List ℕ
  seen = take (64 * suc b) table

  pub four_read : w ≤ b → FourFit table (64 * w) z → (four_by table (64 * w) z ≡ four_by seen (64 * w) z) × FourFit seen (64 * w) z
  unfolding four_by
  four_read h fit =
      let r1 = word_read table b w (48 + z / 4096) (omega arith) h in
      let r2 = word_read table b w (32 + z / 256 % 16) (omega arith) h in
      let r3 = word_read table b w (16 + z / 16 % 16) (omega arith) h in
      let r4 = word_read table b w (z % 16) (omega arith) h in (
        rw (r1, r2, r3, r4),
        record { first = rw r1 fit.first; second = rw r2 fit.second; third = rw r3 fit.third; fourth = rw r4 fit.fourth },
      )

  pub four_out : b < w → (0 ≡ four_by seen (64 * w) z) × FourFit seen (64 * w) z
  unfolding four_by
  four_out h =
      let r1 = word_out table b w (48 + z / 4096) (omega arith) h in
      let r2 = word_out table b w (32 + z / 256 % 16) (omega arith) h in
      let r3 = word_out table b w (16 + z / 16 % 16) (omega arith) h in
      let r4 = word_out table b w (z % 16) (omega arith) h in (
        rw (r1, r2, r3, r4) refl,
        record { first = omega (arith, r1); second = omega (arith, r2); third = omega (arith, r3); fourth = omega (arith, r4) },
      )

-- four entries, added machine word by machine word
pub four_joined : (table : List ℕ) (z : ℕ) → FourFit table 64 z → FourFit table 128 z
    → joined (2 ^ 64) (four_by table 0 z) (four_by table 64 z) (four_by table 128 z) ≡ sixteen_by table z
unfolding four_by sixteen_by
four_joined table z m l =
    rw (zero-add (48 + z / 4096), zero-add (32 + z / 256 % 16), zero-add (16 + z / 16 % 16), zero-add (z % 16))
    (joined-xor 64 _ _ _ _ _ _ (xor_lt 64 _ _ m.first m.second) (xor_lt 64 _ _ l.first l.second) (xor_lt 64 _ _ m.third m.fourth) (xor_lt 64 _ _ l.third l.fourth)
    ∙ ap₂ bit_xor (joined-xor 64 _ _ _ _ _ _ m.first l.first m.second l.second) (joined-xor 64 _ _ _ _ _ _ m.third l.third m.fourth l.fourth))

-- ---- the rule of a table

-- a number in three words of W whose lowest word, or whose two lowest, are 0
module _ (W h m l : ℕ) (some : 0 < W) (km : m < W) (kl : l < W) where
  one_zero : joined W h m l % W ≡ 0 → l ≡ 0
  one_zero e = sym (digits_mod (h * W + m) kl) ∙ e

  two_zero : joined W h m l % (W * W) ≡ 0 → (m ≡ 0) × (l ≡ 0)
  two_zero e =
      let apart : joined W h m l ≡ h * (W * W) + (m * W + l) = omega arith in
      let none : m * W + l ≡ 0 = sym (digits_mod h (digits_lt km kl)) ∙ ap (λ (x : ℕ). x % (W * W)) (sym apart) ∙ e in
      (omega (arith, le-mul_of_pos_right m some), omega arith)

module _ (g : ℕ) (table : List ℕ) (fit : (j : ℕ) → get_or table j 0 < 2 ^ 64) (rule : Remainders g table) where
  -- what is left out of the entries is 0, where the digits below are
  kept : (b : ℕ) → b ≤ 2 → (e : ℕ) → e < 64 → entry_at table e % 2 ^ (128 - 64 * b) ≡ 0 → entry_at (take (64 * suc b) table) e ≡ entry_at table e
  kept zero few e low zeros =
      let none = two_zero (2 ^ 64) (get_or table e 0) (get_or table (64 + e) 0) (get_or table (128 + e) 0) (pow_pos 64) (fit (64 + e)) (fit (128 + e)) zeros in
      rw (get_or-take 64 table e 0 low, word_out table 0 1 e low (omega arith), word_out table 0 2 e low (omega arith), none.0, none.1)
  kept (suc zero) few e low zeros =
      let none = one_zero (2 ^ 64) (get_or table e 0) (get_or table (64 + e) 0) (get_or table (128 + e) 0) (pow_pos 64) (fit (64 + e)) (fit (128 + e)) zeros in
      rw (get_or-take 128 table e 0 (omega arith), word_read table 1 1 e low (omega arith), word_out table 1 2 e low (omega arith), none)
  kept (suc (suc zero)) few e low zeros =
      rw (get_or-take 192 table e 0 (omega arith), word_read table 2 1 e low (omega arith), word_read table 2 2 e low (omega arith))
  kept (suc (suc (suc b))) few e low zeros = absurd (omega arith)

  pub narrowed : (b : ℕ) → b ≤ 2 → ((w : List ℕ) → remainder 192 g w % 2 ^ (128 - 64 * b) ≡ 0) → Remainders g (take (64 * suc b) table)
  narrowed b few zeros = record { at = λ e low. kept b few e low (ap (λ (x : ℕ). x % 2 ^ (128 - 64 * b)) (rule.at e low) ∙ zeros _) ∙ rule.at e low }
