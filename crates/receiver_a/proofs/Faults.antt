-- Checks 7 and 8 by the first fault of the points: what they say, and that no point is stray where there is none.
-- Assumes nothing.
use mathlib.Core.Path.{◌≡◌, sym, ap, ◌∙◌}
use mathlib.Core.List.{List}
use Prim.Native.Nat.{ℕ, ◌≤◌}
use native.Mathlib.Omega.{arith}
use lib.IntN.{ℤ}
use lib.ListN.{length}
use Rattle.std.specs.Prelude.{Result, Ok, Err}
use Rattle.ground.proofs.Firsts.{first}
use Rattle.answers.specs.Checks.{Checked, fails}
use Rattle.points.specs.declared.Point.TheVariants.{Nothing}
use Rattle.points.specs.Dqpsk.{dibits, stray_at}
use Rattle.symbols.specs.Grids.{received}
use Rattle.symbols.specs.Faults.{fault_at}
use Rattle.symbols.specs.ByPhase.{phase_fault}
use Rattle.symbols.specs.declared.Fault.{Fault}
use Rattle.symbols.specs.declared.Fault.TheVariants.{Occupied, StrayPoint}
use Rattle.symbols.proofs.Rooms.{room_enough}
use Rattle.symbols.proofs.Readings.{length-received}
use Rattle.symbols.proofs.Faults.{fault_made, fault_clear}
use Rattle.payload_a.specs.PromiseA.{noise_checked, points_checked}

-- what both checks say of a fault; where there is none, check 11 comes next
abbrev pub says : List ℤ → List ℤ → Result Unit Fault → Checked Unit
says is qs (Ok _) = noise_checked (dibits (received 2 is qs))
says is qs (Err (Occupied at)) = fails 7 at
says is qs (Err (StrayPoint at)) = fails 8 at

abbrev clear : Result Unit Fault
clear = Ok tt

-- of that which is found first
module _ (is qs : List ℤ) (li : 512 ≤ length is) (lq : 512 ≤ length qs) where
  abbrev stray_first : ℕ
  stray_first = stray_at (received 2 is qs)

  looked_at : {f : Result Unit Fault} → f ≡ phase_fault 2 is qs → f ≡ fault_at stray_first 2 is qs
  looked_at e = rw (sym (room_enough 512 is qs li lq)) at e

  pub fault_says : {f : Result Unit Fault} → f ≡ phase_fault 2 is qs → points_checked is qs ≡ says is qs f
  fault_says e = fault_made stray_first 2 is qs (says is qs) ∙ sym (ap (says is qs) (looked_at e))

  pub none_stray : clear ≡ phase_fault 2 is qs → stray_first ≡ length (received 2 is qs)
  none_stray e =
      let none = fault_clear stray_first 2 is qs (looked_at e) in
      let most : stray_first ≤ length (received 2 is qs) = (first _ Nothing (received 2 is qs)).most in
      omega (arith, length-received 2 is qs)
