-- Lists that begin with points placed on m OFDM symbols, whatever stands behind them.
-- Assumes nothing.
use mathlib.Core.Path.{◌≡◌, sym, ap₂, ◌∙◌}
use mathlib.Core.Bool.{true}
use mathlib.Core.List.{List, ◌++◌}
use Prim.Native.Nat.{ℕ, ◌*◌, ◌≤◌}
use native.Mathlib.Omega.{arith}
use lib.IntN.{ℤ}
use lib.ListN.{length, take, length-append}
use lib.Seq.{take_at}
use Rattle.points.specs.declared.Point.{Point}
use Rattle.points.specs.Constellations.{level_i, level_q}
use Rattle.symbols.specs.Grids.{placed, received, first_occupied, room}
use Rattle.symbols.proofs.Readings.{received-take, occupied_take}
use Rattle.symbols.proofs.Placings.{Points, length-placed, placed_occupied, received-placed}
use Rattle.symbols.proofs.Rooms.{room_enough}

module _ (m : ℕ) (ps : List Point) (is qs : List ℤ) where
  front : (level : Point → ℤ) (beyond : List ℤ) → take (256 * m) (placed level m ps ++ beyond) ≡ placed level m ps
  front level beyond = take_at (placed level m ps) beyond (256 * m) (length-placed level m ps)

  -- they have room
  pub front_room : true ≡ room (256 * m) (placed level_i m ps ++ is) (placed level_q m ps ++ qs)
  front_room = room_enough (256 * m) (placed level_i m ps ++ is) (placed level_q m ps ++ qs) (reach level_i is) (reach level_q qs)
    where
      reach : (level : Point → ℤ) (beyond : List ℤ) → 256 * m ≤ length (placed level m ps ++ beyond)
      reach level beyond = simp (length-append, length-placed) (omega arith)

  -- the points received are those of the front
  pub front_points : received m (placed level_i m ps ++ is) (placed level_q m ps ++ qs) ≡ received m (placed level_i m ps) (placed level_q m ps)
  front_points = sym (received-take m (256 * m) _ _ (omega arith)) ∙ ap₂ (received m) (front level_i is) (front level_q qs)

  -- and so those that were placed
  pub front_back : length ps ≡ 210 * m → Points ps → received m (placed level_i m ps ++ is) (placed level_q m ps ++ qs) ≡ ps
  front_back long each = front_points ∙ received-placed m ps long each

  -- no unavailable sub-carrier is occupied
  pub front_empty : first_occupied (placed level_i m ps ++ is) (placed level_q m ps ++ qs) 0 (256 * m) ≡ 256 * m
  front_empty =
      sym (occupied_take (256 * m) _ _ 0 (256 * m) (omega arith))
      ∙ ap₂ (λ (i q : List ℤ). first_occupied i q 0 (256 * m)) (front level_i is) (front level_q qs) ∙ placed_occupied m ps
