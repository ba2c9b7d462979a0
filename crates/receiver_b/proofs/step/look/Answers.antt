-- `receiver_b::step::look` meets its contract: 7 and 8 stop the stream, at the index in the frame; without them the OFDM symbol is taken in.
-- Assumes nothing.
use mathlib.Core.Path.{◌≡◌}
use mathlib.Core.List.{List}
use Prim.Native.Nat.{ℕ, ◌+◌, ◌*◌, ◌<◌}
use native.Mathlib.Omega.{arith}
use lib.IntN.{ℤ}
use Rattle.std.specs.Prelude.{Result}
use Rattle.symbols.specs.ByScheme.{fault_in}
use Rattle.symbols.specs.declared.Fault.{Fault}
use Rattle.payload_b.specs.PromiseB.{points_checked_b}
use Rattle.payload_b.specs.declared.stream.State.{State}
use Rattle.payload_b.specs.declared.stream.Stage.{Stage}
use Rattle.receiver_b.specs.Steps.{Next}
use Rattle.receiver_b.proofs.Faults.{says, fault_says}
use Rattle.receiver_b.proofs.Stops.{index, index_few}
use Rattle.receiver_b.proofs.step.look.Goals as goal

module _ {s : State} {stage : Stage} {is qs : List ℤ} {area : List ℕ} (h : Next s stage is qs area) {f : Result Unit Fault} (e : f ≡ fault_in 1 s.scheme is qs) where
  -- the first fault is what 7 and 8 say
  said : points_checked_b 1 s.scheme is qs ≡ says f
  said = fault_says h.staged.kept.sendable.entries 1 (omega arith) is qs h.long_i h.long_q e

  -- its index in the frame fits a machine word
  few : 256 * s.seen + index (says f) < 65536
  few =
      let low : index (says f) < 256 = rw said at (index_few s.scheme is qs) in
      omega (arith, low, h.more, h.staged.kept.sendable.few)

pub overflow_add-at : goal.overflow_add-at
overflow_add-at c = omega (arith, few c.requires (rw c.in-Occupied.is at c.in-Err.ensures))

pub overflow_add-at-in-StrayPoint : goal.overflow_add-at-in-StrayPoint
overflow_add-at-in-StrayPoint c = omega (arith, few c.requires (rw c.in-StrayPoint.is at c.in-Err.ensures))

pub take-requires : goal.take-requires
take-requires c = record { next = c.requires; clear = c.in-Ok.ensures }

pub returns-in-Ok : goal.returns-in-Ok
returns-in-Ok c = rw (said c.requires c.in-Ok.ensures) c.take.ensures
