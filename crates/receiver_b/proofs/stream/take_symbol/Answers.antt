-- `receiver_b::stream::take_symbol` meets its contract: the bits of the OFDM symbol are read behind those that wait and taken in, or are not looked at.
-- Assumes nothing.
use mathlib.Core.List.{List, append-nil}
use Prim.Native.Nat.{ℕ, ◌+◌, ◌≤◌}
use native.Mathlib.Omega.{arith}
use lib.IntN.{ℤ}
use Rattle.symbols.proofs.Schemes.{sum_most}
use Rattle.payload_b.specs.ModesB.{number_of}
use Rattle.payload_b.specs.declared.plan.Plan.{Plan}
use Rattle.payload_b.proofs.Blocks.{block_bits_few}
use Rattle.payload_b.proofs.ModesB.{number_few}
use Rattle.receiver_b.specs.Steps.{Ready}
use Rattle.receiver_b.specs.declared.stream.Stream.{Stream}
use Rattle.receiver_b.proofs.Taking.{takes_on, goes_past, goes_read}
use Rattle.receiver_b.proofs.Receiving.{symbol_behind}
use Rattle.receiver_b.proofs.stream.take_symbol.Goals as goal

-- the bits read and those that wait are no more than the run holds
within : {scheme : List ℕ} {m : ℕ} {plan : Plan} {from : Stream} {is qs : List ℤ} {area : List ℕ} → Ready scheme plan from m is qs area
    → from.tally.count + plan.sum ≤ 2624
within {plan = plan} h = omega (arith, h.sane.partial, block_bits_few (number_of plan.mode), h.summed, sum_most h.entries)

pub returns-then-plan-s : goal.returns-then-plan-s
returns-then-plan-s c = goes_past _ c.requires.sane c.if-plan-s.true

pub overflow_add-more : goal.overflow_add-more
overflow_add-more c = omega (arith, within c.requires)

pub take_run-requires : goal.take_run-requires
take_run-requires c =
    let counts = c.requires.sane.counts in
    record {
      known = number_few c.args.plan.mode;
      within = within c.requires;
      next = omega arith;
      counts = record { few = counts.few; mended = counts.mended };
      room = c.requires.room;
    }

pub returns : goal.returns
returns c =
    let a = c.args in
    let h = c.requires in
    let s = a.from.tally in
    let few : s.count ≤ 512 = omega (arith, h.sane.partial, block_bits_few (number_of a.plan.mode)) in
    let behind = symbol_behind h.entries a.i.now a.q.now h.long_i h.long_q a.from.block c.read-run.result s.count a.plan.sum few h.summed c.read-run.ensures in
    rw append-nil at (takes_on _ _ (goes_read (omega arith) a.plan.sum behind) h.sane.counts.few c.take_run.result c.take_run.ensures)
