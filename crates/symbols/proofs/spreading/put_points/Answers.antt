-- `symbols::spreading::put_points` meets its contract: the levels of the first s points are on their sub-carriers, and the others are empty.
-- Assumes nothing.
use mathlib.Core.Path.{◌≡◌, sym, ap, ◌∙◌}
use Prim.Native.Nat.{ℕ, ◌+◌, ◌≤◌, ◌<◌}
use native.Mathlib.Numerals.{add-one}
use native.Mathlib.Omega.{arith}
use lib.ListN.{length, get_or, take, drop}
use mir.Syntax.{w16}
use mir.ValLaws.{to_z-of_z}
use Rattle.bits.specs.Bytes.{as_number}
use Rattle.packed.specs.Packed.{bits_from}
use Rattle.points.specs.Constellations.{level_i, level_q}
use Rattle.points.specs.Lent.{point_in}
use Rattle.symbols.specs.Schemes.{sum_of}
use Rattle.symbols.specs.ByScheme.{mapped_by}
use Rattle.symbols.proofs.Faults.{looked_at}
use Rattle.symbols.proofs.Indices.{carrier_of-lt}
use Rattle.symbols.proofs.Schemes.{sum_most, sum_nil, sum_snoc, entry_end}
use Rattle.symbols.proofs.Spreads.{put_none, put_more, put_long, put_all}
use Rattle.symbols.proofs.Writings.{length-mapped_by, mapped_by_at}
use Rattle.symbols.proofs.spreading.put_points.Goals as goal

pub loop-s-init : goal.loop-s-init
loop-s-init c =
    let points = mapped_by c.args.cells.now c.args.scheme.entries.now (bits_from 41 0 c.args.bits.now) in
    (sym sum_nil, put_none level_i points _ c.requires.0 c.clear.ensures, put_none level_q points _ c.requires.1 c.clear-2.ensures)

pub digits_at-requires : goal.digits_at-requires
digits_at-requires c = omega (arith, c.bits-size.ensures, sum_most (looked_at c.args.scheme.long c.args.scheme.within), entry_end c.args.scheme.entries.now c.loop-s.s (omega arith))

pub offset_bounds-i-k : goal.offset_bounds-i-k
offset_bounds-i-k c = omega (arith, carrier_of-lt (c.loop-s.s + 1))

pub bounds-i-k : goal.bounds-i-k
bounds-i-k c = omega (arith, carrier_of-lt (c.loop-s.s + 1), put_long level_i _ _ c.loop-s.invariant.1)

pub offset_bounds-q-k : goal.offset_bounds-q-k
offset_bounds-q-k c = omega (arith, carrier_of-lt (c.loop-s.s + 1))

pub bounds-q-k : goal.bounds-q-k
bounds-q-k c = omega (arith, carrier_of-lt (c.loop-s.s + 1), put_long level_q _ _ c.loop-s.invariant.2)

pub overflow_add-at : goal.overflow_add-at
overflow_add-at c = omega (arith, sum_most (looked_at c.args.scheme.long c.args.scheme.within), entry_end c.args.scheme.entries.now c.loop-s.s (omega arith))

pub loop-s-preserved : goal.loop-s-preserved
loop-s-preserved c =
    let l = c.loop-s in
    let a = c.args in
    let scheme = a.scheme.entries.now in
    let all = bits_from 41 0 a.bits.now in
    let size = get_or scheme l.s 0 in
    let k = c.carrier_of-k in
    let inside : l.s < length scheme = omega (arith, c.args.scheme.long) in
    let sum : l.at + size ≡ sum_of (take (l.s + 1) scheme) = rw (add-one l.s, sum_snoc scheme l.s inside) (omega (arith, l.invariant.0)) in
    -- the point that is made
    let made = rw c.bits-size.ensures at (c.point_in-point.ensures ∙ ap (point_in a.cells.now c.bits-size.result.n) c.digits_at.ensures)
    ∙ ap (λ (at : ℕ). point_in a.cells.now size (as_number (take size (drop at all)))) l.invariant.0
    ∙ sym (mapped_by_at a.cells.now scheme all l.s inside) in
    let i = to_z-of_z w16 _ (record { sfits = c.level_i-x.type_inv }) ∙ c.level_i-x.ensures ∙ ap level_i made in
    let q = to_z-of_z w16 _ (record { sfits = c.level_q-y.type_inv }) ∙ c.level_q-y.ensures ∙ ap level_q made in
    let h : l.s < length (mapped_by a.cells.now scheme all) = omega (arith, length-mapped_by a.cells.now scheme all) in (
      ap (λ (n : ℕ). l.at + n) (c.from-at.ensures ∙ c.bits-size.ensures) ∙ sum,
      put_more level_i _ l.s k.result _ h (omega arith) k.ensures i l.invariant.1,
      put_more level_q _ l.s k.result _ h (omega arith) k.ensures q l.invariant.2,
    )

pub returns : goal.returns
returns c =
    let l = c.loop-s in
    let a = c.args in
    let points = mapped_by a.cells.now a.scheme.entries.now (bits_from 41 0 a.bits.now) in
    let h : length points ≤ l.s = omega (arith, c.args.scheme.long, length-mapped_by a.cells.now a.scheme.entries.now (bits_from 41 0 a.bits.now)) in
    (put_all level_i points l.s h l.invariant.1, put_all level_q points l.s h l.invariant.2)
