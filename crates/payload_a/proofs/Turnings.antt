-- DQPSK over Payload A's two OFDM symbols: the points are legal, and bits and points give each other back.
-- Assumes nothing.
use mathlib.Core.Path.{◌≡◌, refl, ap, ◌∙◌}
use mathlib.Core.List.{List, [], ◌∷◌}
use Prim.Native.Nat.{ℕ, zero, suc, ◌+◌, ◌*◌, ◌<◌}
use native.Mathlib.Omega.{arith}
use lib.IntN.{ℤ}
use lib.ListN.{length}
use Rattle.bits.specs.Words.{Bits}
use Rattle.points.specs.declared.Point.TheVariants.{At}
use Rattle.points.specs.Constellations.{level_i, level_q}
use Rattle.points.specs.Dqpsk.{phases, turn, phase_point, turned_from, turned, dibits, stray_at}
use Rattle.points.proofs.Turns.{turn-lt, length-turned, dibits-turned, legal_turned, length-dibits}
use Rattle.symbols.specs.Grids.{placed, received}
use Rattle.symbols.proofs.Readings.{length-received}
use Rattle.symbols.proofs.Placings.{Points, received-placed}

-- ---- bits are sent and come back

point_phase : (phase : ℕ) → phase < 4 → At (level_i (phase_point phase)) (level_q (phase_point phase)) ≡ phase_point phase
unfolding phase_point phases
point_phase zero h = refl
point_phase (suc zero) h = refl
point_phase (suc (suc zero)) h = refl
point_phase (suc (suc (suc zero))) h = refl
point_phase (suc (suc (suc (suc n)))) h = absurd (omega arith)

points_from : (bits : List ℕ) (phase : ℕ) → Points (turned_from phase bits)
unfolding turned_from
points_from [] phase k h = absurd (omega arith)
points_from (b ∷ []) phase k h = absurd (omega arith)
points_from (b ∷ (c ∷ bits)) phase zero h = point_phase (turn phase (2 * b + c)) (turn-lt phase (2 * b + c))
points_from (b ∷ (c ∷ bits)) phase (suc k) h = points_from bits (turn phase (2 * b + c)) k (omega arith)

turned_points : (bits : List ℕ) → Points (turned bits)
unfolding turned
turned_points bits = points_from bits 0

module _ (bits : List ℕ) (e : length bits ≡ 840) where
  pub points_back : received 2 (placed level_i 2 (turned bits)) (placed level_q 2 (turned bits)) ≡ turned bits
  points_back = received-placed 2 (turned bits) (length-turned bits 420 e) (turned_points bits)

  pub none_stray : stray_at (received 2 (placed level_i 2 (turned bits)) (placed level_q 2 (turned bits))) ≡ 420
  none_stray = ap stray_at points_back ∙ legal_turned bits ∙ length-turned bits 420 e

  pub bits_back : Bits bits → dibits (received 2 (placed level_i 2 (turned bits)) (placed level_q 2 (turned bits))) ≡ bits
  bits_back each = ap dibits points_back ∙ dibits-turned bits 420 e each

-- ---- points are read, whatever they are

pub length_read : (is qs : List ℤ) → length (dibits (received 2 is qs)) ≡ 840
length_read is qs = length-dibits (received 2 is qs) ∙ ap (λ (n : ℕ). 2 * n) (length-received 2 is qs)
