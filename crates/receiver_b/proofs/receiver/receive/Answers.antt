-- `receiver_b::receiver::receive` meets its contract: checks 7 and 8 in document 01's order, and then all OFDM symbols are taken in.
-- Assumes nothing.
use mathlib.Core.Path.{◌≡◌, sym, ap, ◌∙◌}
use mathlib.Core.List.{List}
use Prim.Native.Nat.{ℕ, ◌-◌, ◌*◌, ◌≤◌}
use native.Mathlib.Omega.{arith}
use lib.IntN.{ℤ}
use lib.ListN.{replicate}
use lib.Seq.{length-take-le}
use Rattle.std.specs.Prelude.{Result}
use Rattle.symbols.specs.ByScheme.{fault_in}
use Rattle.symbols.specs.declared.Fault.{Fault}
use Rattle.payload_b.specs.CodedB.{block_bytes}
use Rattle.payload_b.specs.ModesB.{number_of}
use Rattle.payload_b.specs.PromiseB.{points_checked_b}
use Rattle.payload_b.specs.declared.plan.Plan.{Plan}
use Rattle.payload_b.proofs.Plans.{whole_blocks}
use Rattle.receiver_b.specs.Steps.{Receivable}
use Rattle.receiver_b.proofs.Taking.{began_sane}
use Rattle.receiver_b.proofs.Faults.{says, fault_says, none_stray}
use Rattle.receiver_b.proofs.Receiving.{all_taken, all_mended, one_hopeless}
use Rattle.receiver_b.proofs.receiver.receive.Goals as goal

module _ {mode size : ℕ} {scheme : List ℕ} {plan : Plan} {is qs : List ℤ} {area : List ℕ} (h : Receivable mode size scheme plan is qs area) where
  -- the OFDM symbols are few
  few : plan.symbols ≤ 256
  few = omega (arith, h.sendable.few, ap (λ (p : Plan). p.symbols) h.planned)

  -- the first fault is what 7 and 8 say
  said : {f : Result Unit Fault} → f ≡ fault_in plan.symbols scheme is qs → points_checked_b plan.symbols scheme is qs ≡ says f
  said = fault_says h.sendable.entries plan.symbols few is qs h.long_i h.long_q

  -- the blocks of the plan are the frame's
  blocks : block_bytes mode * plan.blocks ≡ size
  blocks = ap (λ (p : Plan). block_bytes mode * p.blocks) h.planned ∙ sym (whole_blocks mode size h.sendable.whole)

pub take_symbols-requires : goal.take_symbols-requires
take_symbols-requires c =
    let h = c.requires in
    record {
      entries = h.sendable.entries;
      summed = ap (λ (p : Plan). p.sum) h.planned;
      sane = rw c.start.ensures (began_sane (number_of c.args.plan.mode) _);
      long_i = h.long_i;
      long_q = h.long_q;
      room = omega (arith, blocks h, h.room);
    }

pub returns-in-Ok-take_symbols : goal.returns-in-Ok-take_symbols
returns-in-Ok-take_symbols c =
    let h = c.requires in
    let i = c.args.i.now in
    let q = c.args.q.now in
    let clear = none_stray h.sendable.entries c.args.plan.symbols (few h) i q h.long_i h.long_q c.in-Ok.ensures in
    let taken = all_taken h.sendable i q _ _ c.take_symbols.result clear h.planned c.start.ensures c.take_symbols.ensures in
    rw (said h c.in-Ok.ensures) (all_mended h.sendable i q (rw c.in-Ok-take_symbols.is at taken))

pub returns-in-Err : goal.returns-in-Err
returns-in-Err c =
    let h = c.requires in
    let i = c.args.i.now in
    let q = c.args.q.now in
    let size = c.args.size in
    let clear = none_stray h.sendable.entries c.args.plan.symbols (few h) i q h.long_i h.long_q c.in-Ok.ensures in
    let taken = all_taken h.sendable i q _ _ c.take_symbols.result clear h.planned c.start.ensures c.take_symbols.ensures in
    let stuck = rw c.in-Err.is at taken in
    let area = c.take_symbols.new.area in
    let same : size - 0 ≡ size = omega arith in
    let long = length-take-le (size - 0) area (omega (arith, h.room, stuck.long)) ∙ same in
    let zeros = c.fill.ensures.after (λ y e. e) ∙ ap (λ (n : ℕ). replicate n 0) long in
    rw (said h c.in-Ok.ensures, zeros, same) (one_hopeless h.sendable i q stuck)
