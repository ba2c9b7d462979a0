-- `symbols::growing::points_behind` meets its contract: the machine words, with the one that is not yet full, hold the bits of the first s points.
-- Assumes nothing.
use mathlib.Core.Path.{◌≡◌, sym, ap, ap₂, ◌∙◌}
use mathlib.Core.List.{List, ◌++◌, append-nil, append_assoc}
use Prim.Native.Nat.{ℕ, ◌+◌, ◌^◌, ◌<◌}
use native.Mathlib.Numerals.{add-one}
use native.Mathlib.Omega.{arith}
use lib.IntN.{pos}
use lib.ListN.{length, get_or, take}
use lib.Seq.{take_all}
use mir.Syntax.{w16}
use mir.ValLaws.{to_z-of_z}
use Rattle.bits.specs.Words.{digits}
use Rattle.bits.proofs.Digits.{length_digits}
use Rattle.packed.specs.Packed.{bits_from}
use Rattle.points.specs.declared.Point.{Point}
use Rattle.points.specs.declared.Point.TheVariants.{Nothing}
use Rattle.points.specs.Constellations.{level_i, level_q}
use Rattle.points.specs.Lent.{read_in}
use Rattle.symbols.specs.Grid.{carrier_of}
use Rattle.symbols.specs.Grids.{point_at, points_from}
use Rattle.symbols.specs.Schemes.{sum_of}
use Rattle.symbols.specs.ByScheme.{read_by_in}
use Rattle.symbols.proofs.Faults.{looked_at}
use Rattle.symbols.proofs.Indices.{carrier_of-lt}
use Rattle.symbols.proofs.Readings.{length_points, points_at}
use Rattle.symbols.proofs.Schemes.{sum_most, sum_nil, sum_snoc, entry_in, entry_end, sum_take-le}
use Rattle.symbols.proofs.ReadIn.{read_snoc}
use Rattle.symbols.proofs.Growth.{grown_first, grown_more, grown_last}
use Rattle.symbols.proofs.growing.points_behind.Goals as goal

pub loop-s-init : goal.loop-s-init
unfolding read_by_in
loop-s-init c =
    let a = c.args in
    let all = take a.count (bits_from 41 0 a.begun) in
    let grown = grown_first a.begun a.count (omega arith) c.requires.2 c.requires.3 in
    (omega (arith, sum_nil), rw (append-nil all) grown)

pub offset_bounds-i-k : goal.offset_bounds-i-k
offset_bounds-i-k c = omega (arith, carrier_of-lt (c.loop-s.s + 1))

pub bounds-i-k : goal.bounds-i-k
bounds-i-k c = omega (arith, carrier_of-lt (c.loop-s.s + 1))

pub offset_bounds-q-k : goal.offset_bounds-q-k
offset_bounds-q-k c = omega (arith, carrier_of-lt (c.loop-s.s + 1))

pub bounds-q-k : goal.bounds-q-k
bounds-q-k c = omega (arith, carrier_of-lt (c.loop-s.s + 1))

pub high-label-requires : goal.high-label-requires
high-label-requires c = let few = entry_in (looked_at c.args.scheme.long c.args.scheme.within) c.loop-s.s (omega arith) in (omega arith, omega arith)

pub bounds-words-at : goal.bounds-words-at
bounds-words-at c = omega (arith, sum_most (looked_at c.args.scheme.long c.args.scheme.within), entry_end c.args.scheme.entries.now c.loop-s.s (omega arith))

pub next-top-requires : goal.next-top-requires
next-top-requires c = (omega arith, omega (arith, entry_in (looked_at c.args.scheme.long c.args.scheme.within) c.loop-s.s (omega arith)))

pub overflow_add-at : goal.overflow_add-at
overflow_add-at c = omega (arith, sum_most (looked_at c.args.scheme.long c.args.scheme.within), entry_end c.args.scheme.entries.now c.loop-s.s (omega arith))

pub loop-s-preserved : goal.loop-s-preserved
loop-s-preserved c =
    let l = c.loop-s in
    let k = c.carrier_of-k in
    let i = c.args.i.now in
    let q = c.args.q.now in
    let scheme = c.args.scheme.entries.now in
    let quadrants = c.args.quadrants.now in
    let points = points_from i q 1 210 in
    let front = take c.args.count (bits_from 41 0 c.args.begun) in
    let so_far = read_by_in quadrants (take l.s scheme) (take l.s points) in
    let n = get_or scheme l.s 0 in
    let few = entry_in (looked_at c.args.scheme.long c.args.scheme.within) l.s (omega arith) in
    let inside : l.s < length scheme = omega (arith, c.args.scheme.long) in
    -- the label that is read is that of the point s
    let after : 1 + l.s ≡ l.s + 1 = omega arith in
    let point : get_or points l.s Nothing ≡ point_at i q k.result = points_at i q 1 210 l.s (omega arith) ∙ ap (point_at i q) (ap carrier_of after ∙ sym k.ensures) in
    let seen = c.read_in.ensures
    ∙ ap₂ (read_in quadrants n)
    (to_z-of_z w16 (get_or i k.result (pos 0)) (record { sfits = c.read_in-arg-1.given }))
    (to_z-of_z w16 (get_or q k.result (pos 0)) (record { sfits = c.read_in-arg-in-loop-s-1.given }))
    ∙ ap (λ (p : Point). read_in quadrants n (level_i p) (level_q p)) (sym point) in
    let one = read_snoc quadrants scheme points l.s inside (omega (arith, length_points i q 1 210)) in
    let bigger = ap (λ (x : ℕ). (front ++ so_far) ++ digits n x) seen ∙ append_assoc front so_far _ ∙ ap (λ (v : List ℕ). front ++ v) (sym one) in
    let small : c.high-label.result < 2 ^ 64 = omega arith in
    let grown = grown_more l.invariant.1 c.high-label.result n (digits n c.read_in.result) small (length_digits n _) c.high-label.ensures
    (omega arith) (omega (arith, sum_most (looked_at c.args.scheme.long c.args.scheme.within), entry_end scheme l.s inside)) c.next-top.result (rw c.from.ensures at c.next-top.ensures.0) (rw c.from.ensures at c.next-top.ensures.1) in
    let sum : l.at + n ≡ c.args.count + sum_of (take (l.s + 1) scheme) = rw (add-one l.s, sum_snoc scheme l.s inside) (omega (arith, l.invariant.0)) in
    (ap (λ (m : ℕ). l.at + m) c.from-at.ensures ∙ sum, rw (c.from-at.ensures, add-one) (rw bigger at grown))

pub bounds-words-at-2 : goal.bounds-words-at-2
bounds-words-at-2 c = omega (arith, sum_most (looked_at c.args.scheme.long c.args.scheme.within), sum_take-le c.loop-s.s c.args.scheme.entries.now)

pub returns : goal.returns
returns c =
    let l = c.loop-s in
    let scheme = c.args.scheme.entries.now in
    let points = points_from c.args.i.now c.args.q.now 1 210 in
    let all : take l.s scheme ≡ scheme = take_all l.s scheme (omega (arith, c.args.scheme.long)) in
    let every : take l.s points ≡ points = take_all l.s points (omega (arith, length_points c.args.i.now c.args.q.now 1 210)) in
    grown_last (rw (all, every) at l.invariant.1) (omega (arith, sum_most (looked_at c.args.scheme.long c.args.scheme.within), sum_take-le l.s scheme))
