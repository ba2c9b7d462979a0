-- `receiver_b::stream::take_symbols` meets its contract: the first s OFDM symbols are taken in.
-- Assumes nothing.
use mathlib.Core.Path.{◌≡◌, ap, ◌∙◌}
use Prim.Native.Nat.{◌+◌, ◌-◌, ◌*◌}
use native.Mathlib.Omega.{arith}
use borrow.Rule.Slice.PartMut.{mid_len}
use borrow.Author.Rules.{rules}
use Rattle.packed.specs.Packed.{bits512}
use Rattle.payload_b.specs.ModesB.{number_of}
use Rattle.payload_b.proofs.ModesB.{number_few}
use Rattle.receiver_b.proofs.Receiving.{bits_read, symbol_none, symbol_part, symbols_more}
use Rattle.receiver_b.specs.Steps.{Sticks}
use Rattle.receiver_b.proofs.Taking.{moves_none, goes_on, sticks_on, sticks_past}
use Rattle.receiver_b.proofs.stream.take_symbols.Goals as goal

pub loop-s-init : goal.loop-s-init
loop-s-init c =
    let a = c.args in
    rw (symbol_none a.scheme.entries.now a.i.now a.q.now) (c.requires.sane, moves_none)

pub take_symbol-requires : goal.take_symbol-requires
take_symbol-requires c =
    let h = c.requires in
    let l = c.loop-s in
    let at = 256 * l.s in
    record {
      entries = h.entries;
      summed = h.summed;
      sane = l.invariant.0;
      long_i = omega (arith, mid_len at (at + 256) c.args.i.now (omega (arith, h.long_i)));
      long_q = omega (arith, mid_len at (at + 256) c.args.q.now (omega (arith, h.long_q)));
      room = omega (arith, l.invariant.1.long, h.room);
    }

pub returns-in_err-state : goal.returns-in_err-state
returns-in_err-state c =
    let a = c.args in
    let l = c.loop-s in
    let long = c.requires.entries.long in
    let one = symbol_part a.scheme.entries.now a.i.now a.q.now long l.s in
    let rest = symbols_more a.scheme.entries.now a.i.now a.q.now long (l.s + 1) (a.plan.symbols - (l.s + 1)) in
    let all : a.plan.symbols ≡ l.s + 1 + (a.plan.symbols - (l.s + 1)) = omega arith in
    let bits = ap (bits_read a.scheme.entries.now a.i.now a.q.now) all ∙ rest.1 in
    let stuck : Sticks (number_of a.plan.mode) a.plan.blocks (bits_read a.scheme.entries.now a.i.now a.q.now a.plan.symbols) a.area.now (bits512 a.from.block) a.from.tally
    c.take_symbol.new.area c.in_err-state.field-0.0
    = rw bits (sticks_past (number_few a.plan.mode) (rw one (sticks_on l.invariant.1 l.invariant.0.counts.few c.in_err-state.ensures)) rest.0) in
    search (rules, stuck)

pub loop-s-preserved : goal.loop-s-preserved
loop-s-preserved c =
    let a = c.args in
    let l = c.loop-s in
    let one = symbol_part a.scheme.entries.now a.i.now a.q.now c.requires.entries.long l.s in
    rw one (goes_on l.invariant.1 c.in_ok-state.ensures)

pub returns : goal.returns
returns c =
    let l = c.loop-s in
    let all : l.s ≡ c.args.plan.symbols = omega arith in
    rw all at l.invariant
