-- The quality of a line, of Payload A and of Payload B alike (document 02, item 8): the total is the sum of the counts of the blocks, the worst is the largest
-- of them, and each bounds the other.
-- Assumes nothing.
use mathlib.Core.Path.{◌≡◌, refl, sym, ap, ap₂, subst, ◌∙◌}
use mathlib.Core.List.{List, ◌++◌}
use Prim.Native.Nat.{ℕ, zero, suc, ◌+◌, ◌*◌, ◌≤◌, ◌<◌, max}
use native.Mathlib.Nat.{le-max_left, max-le, zero-max, max-eq_left, max-eq_right, mul-suc, suc-mul, mul-le-mul_left}
use native.Mathlib.Numerals.{add-one}
use native.Mathlib.Decide.{dec_le}
use native.Mathlib.Omega.{arith}
use lib.ListN.{length, take}
use lib.Seq.{take_all, take-add, length-take-le}
use Rattle.bits.specs.Words.{differ}
use Rattle.bits.proofs.Distances.{differ_self, differ-append}
use Rattle.payload.specs.Wire.{Wire, block_at, count_at, worst_of, total, worst, Fits}
use Rattle.payload.proofs.Wires.{one_more, block_kept, block_last}

-- the counts of m blocks together
unfoldable pub count_sum : ℕ → ℕ → List ℕ → List ℕ → ℕ
count_sum size zero sent bits = 0
count_sum size (suc m) sent bits = count_sum size m sent bits + count_at size m sent bits

module _ (size : ℕ) (sent bits : List ℕ) where
  -- ---- the sum

  -- of m blocks: it is the number of places where their bits differ
  differ_blocks : (m : ℕ) → size * m ≤ length sent → size * m ≤ length bits → differ (take (size * m) sent) (take (size * m) bits) ≡ count_sum size m sent bits
  unfolding count_sum
  differ_blocks zero ls lb =
      let none : size * 0 ≡ 0 = omega arith in
      rw none (differ_self (take 0 bits))
  differ_blocks (suc m) ls lb =
      let more : size * suc m ≡ size * m + size = mul-suc size m in
      let front : length (take (size * m) sent) ≡ size * m = length-take-le (size * m) sent (omega arith) in
      let other : length (take (size * m) bits) ≡ size * m = length-take-le (size * m) bits (omega arith) in
      rw (more, take-add (size * m) size sent, take-add (size * m) size bits)
      (differ-append (take (size * m) sent) (take (size * m) bits) (block_at size m sent) (block_at size m bits) (front ∙ sym other)
      ∙ ap (λ (k : ℕ). k + count_at size m sent bits) (differ_blocks m (omega arith) (omega arith)))

  -- so of all that they are
  pub whole_sum : (m : ℕ) → length sent ≡ size * m → length bits ≡ size * m → differ sent bits ≡ count_sum size m sent bits
  whole_sum m ls lb =
      ap₂ differ (sym (take_all (size * m) sent (omega arith))) (sym (take_all (size * m) bits (omega arith)))
      ∙ differ_blocks m (omega arith) (omega arith)

  -- ---- the worst

  -- no block has more
  each_within : (m b : ℕ) → b < m → count_at size b sent bits ≤ worst_of size m sent bits
  unfolding worst_of
  each_within zero b l = elim l [ ]
  each_within (suc m) b l = by (dec_le m b) (each_within m b)
    where
      by : Dec (m ≤ b) → (b < m → count_at size b sent bits ≤ worst_of size m sent bits)
          → count_at size b sent bits ≤ max (worst_of size m sent bits) (count_at size m sent bits)
      by (yes h) before = let e : b ≡ m = omega arith in rw e (omega arith)
      by (no h) before = omega (arith, before (omega arith))

  -- one has as many
  abbrev Has : ℕ → Type 0
  Has m = (b : ℕ) × (b < m) × (count_at size b sent bits ≡ worst_of size m sent bits)

  one_has : (m : ℕ) → 0 < m → Has m
  unfolding worst_of
  one_has zero l = elim l [ ]
  one_has (suc zero) l = (0, omega arith, sym (zero-max (count_at size 0 sent bits)))
  one_has (suc (suc m)) l = by (dec_le (worst_of size (suc m) sent bits) (count_at size (suc m) sent bits)) (one_has (suc m) (omega arith))
    where
      by : Dec (worst_of size (suc m) sent bits ≤ count_at size (suc m) sent bits) → Has (suc m) → Has (suc (suc m))
      by (yes h) before = (suc m, omega arith, sym (max-eq_right h))
      by (no h) before = (before.0, omega (arith, before.1), before.2 ∙ sym (max-eq_left (omega arith)))

  -- a bound on each is one on the worst
  worst_most : (m most : ℕ) → ((b : ℕ) → b < m → count_at size b sent bits ≤ most) → worst_of size m sent bits ≤ most
  unfolding worst_of
  worst_most zero most each = omega arith
  worst_most (suc m) most each = max-le (worst_most m most (λ b l. each b (omega arith))) (each m (omega arith))

  -- ---- both

  worst_in_sum : (m : ℕ) → worst_of size m sent bits ≤ count_sum size m sent bits
  unfolding worst_of count_sum
  worst_in_sum zero = omega arith
  worst_in_sum (suc m) = max-le (omega (arith, worst_in_sum m)) (omega arith)

  sum_in_worst : (m : ℕ) → count_sum size m sent bits ≤ m * worst_of size m sent bits
  unfolding worst_of count_sum
  sum_in_worst zero = omega arith
  sum_in_worst (suc m) =
      let w = worst_of size m sent bits in
      let c = count_at size m sent bits in
      omega (arith, sum_in_worst m, suc-mul m (max w c), mul-le-mul_left m (le-max_left w c))

  -- of two blocks it is the larger
  pub worst_two : worst_of size 2 sent bits ≡ max (count_at size 0 sent bits) (count_at size 1 sent bits)
  unfolding worst_of
  worst_two = ap (λ (k : ℕ). max k (count_at size 1 sent bits)) (zero-max (count_at size 0 sent bits))

-- clean blocks have none
pub worst_self : (size m : ℕ) (bits : List ℕ) → worst_of size m bits bits ≡ 0
worst_self size m bits =
    let low = worst_most size bits bits m 0 (λ b l. omega (arith, differ_self (block_at size b bits))) in omega arith

-- ---- one block more

module _ (size m : ℕ) (sent bits next block : List ℕ) (ls : length sent ≡ size * m) (lb : length bits ≡ size * m) where
  worst_kept : (k : ℕ) → k ≤ m → worst_of size k (sent ++ next) (bits ++ block) ≡ worst_of size k sent bits
  unfolding worst_of
  worst_kept zero l = refl
  worst_kept (suc k) l =
      let room = one_more size k m (omega arith) in
      ap₂ max (worst_kept k (omega arith))
      (ap₂ differ (block_kept size sent next k (omega arith)) (block_kept size bits block k (omega arith)))

  pub worst_more : length next ≡ size → length block ≡ size → worst_of size (m + 1) (sent ++ next) (bits ++ block) ≡ max (worst_of size m sent bits) (differ next block)
  unfolding worst_of
  worst_more ln lk =
      rw (add-one m)
      (ap₂ max (worst_kept m (omega arith)) (ap₂ differ (block_last size sent next m ls ln) (block_last size bits block m lb lk)))

-- ---- what an answer's total and worst say of the line

-- all blocks of a frame together differ from those received in `mended` places, and the one that differs most in `worst`
pub record Quality (w : Wire) (bits frame : List ℕ) (mended worst : ℕ) : Type 0 where
  pub sum : mended ≡ count_sum w.size w.blocks (w.sent frame) bits
  pub each : (b : ℕ) → b < w.blocks → count_at w.size b (w.sent frame) bits ≤ worst
  pub one : (b : ℕ) × (b < w.blocks) × (count_at w.size b (w.sent frame) bits ≡ worst)
  pub low : worst ≤ mended
  pub high : mended ≤ w.blocks * worst
  pub near : worst ≤ w.mends

-- of a frame that fits, with one block or more
pub quality : (w : Wire) (bits frame : List ℕ) → 0 < w.blocks → length (w.sent frame) ≡ w.size * w.blocks → length bits ≡ w.size * w.blocks
    → Fits w bits frame → Quality w bits frame (total w bits frame) (worst w bits frame)
quality w bits frame some ls lb fits =
    let sent = w.sent frame in
    let all = whole_sum w.size sent bits w.blocks ls lb in
    record {
      sum = all;
      each = each_within w.size sent bits w.blocks;
      one = one_has w.size sent bits w.blocks some;
      low = omega (arith, all, worst_in_sum w.size sent bits w.blocks);
      high = omega (arith, all, sum_in_worst w.size sent bits w.blocks);
      near = worst_most w.size sent bits w.blocks w.mends fits.near;
    }

-- the same of counts that are these, and of a frame that is that one
pub quality_told : {w : Wire} {bits frame up : List ℕ} {mended largest : ℕ} → up ≡ frame → total w bits frame ≡ mended → worst w bits frame ≡ largest
    → Quality w bits frame (total w bits frame) (worst w bits frame) → Quality w bits up mended largest
quality_told {w} {bits} {frame} {up} {mended} {largest} eu em ew q =
    subst (λ (g : List ℕ). Quality w bits g mended largest) (sym eu)
    (subst (λ (k : ℕ). Quality w bits frame mended k) ew (subst (λ (k : ℕ). Quality w bits frame k (worst w bits frame)) em q))

-- where none may differ, none does
pub none_mended : {w : Wire} {bits frame : List ℕ} {mended worst : ℕ} → Quality w bits frame mended worst → w.mends ≡ 0 → (mended ≡ 0) × (worst ≡ 0)
none_mended {w} {bits} {frame} {mended} {worst} q none =
    let z : worst ≡ 0 = omega (arith, q.near) in
    let all : mended ≤ w.blocks * 0 = rw z at q.high in
    (omega arith, z)
