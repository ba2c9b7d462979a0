-- `symbols::phases::turn_bits` meets its contract: what is written so far, then the levels of what is left of the bits.
-- Assumes nothing.
use mathlib.Core.Path.{◌≡◌, sym, ◌∙◌}
use mathlib.Core.List.{List, ◌∷◌, append-nil, append_assoc}
use Prim.Native.Nat.{ℕ, suc, ◌+◌, ◌*◌, ◌%◌, ◌≤◌, ◌<◌}
use native.Mathlib.Omega.{arith}
use native.Mathlib.Numerals.{add-one}
use lib.IntN.{ℤ}
use lib.ListN.{length, get_or, set, take, drop, length-set, drop_of_length-le}
use lib.Seq.{take_all, take-suc-set, drop-cons}
use mir.Syntax.{w16}
use mir.Val.{SFits, to_z, of_z}
use mir.ValLaws.{to_z-of_z}
use Rattle.bits.specs.Words.{lowest}
use Rattle.bits.proofs.Digits.{length-lowest, lowest_at}
use Rattle.points.specs.declared.Point.{Point}
use Rattle.points.specs.Constellations.{level_i, level_q}
use Rattle.points.specs.Dqpsk.{turn, phase_point, turned_from}
use Rattle.symbols.specs.ByPhase.{phase_after}
use Rattle.symbols.proofs.phases.turn_bits.Invariants.{so_far}
use Rattle.symbols.proofs.phases.turn_bits.Goals as goal

module _ (bits : List ℕ) (is qs : List ℤ) (last s : ℕ) where
  -- the two bits of a turn, and those behind them
  two : 2 * s + 1 < length bits → drop (2 * s) (lowest bits) ≡ get_or bits (2 * s) 0 % 2 ∷ (get_or bits (2 * s + 1) 0 % 2 ∷ drop (2 * (s + 1)) (lowest bits))
  two room =
      let one : suc (2 * s) ≡ 2 * s + 1 = omega arith in
      let both : suc (2 * s + 1) ≡ 2 * (s + 1) = omega arith in
      let long = length-lowest bits in
      let first = drop-cons (lowest bits) (2 * s) 0 (omega (arith, long)) in
      let second = drop-cons (lowest bits) (2 * s + 1) 0 (omega (arith, long)) in
      rw (first, one, second, both, lowest_at bits (2 * s), lowest_at bits (2 * s + 1))

  -- one turn: two more bits
  next : (to : ℕ) (point : Point) (i q : ℤ) → 2 * s + 1 < length bits → s < length is → s < length qs
      → to ≡ turn last (2 * (get_or bits (2 * s) 0 % 2) + get_or bits (2 * s + 1) 0 % 2) → point ≡ phase_point to → i ≡ level_i point → q ≡ level_q point
      → SFits w16 i → SFits w16 q
      → so_far (lowest bits) (set is s (to_z w16 (of_z w16 i))) (set qs s (to_z w16 (of_z w16 q))) to (s + 1) ≡ so_far (lowest bits) is qs last s
  unfolding turned_from phase_after
  next to point i q room hi hq et ep ei eq fi fq =
      rw (to_z-of_z w16 i fi, to_z-of_z w16 q fq, ei, eq, ep, et, two room, add-one s)
      (rw (take-suc-set is s _ hi, take-suc-set qs s _ hq, append_assoc (take s is), append_assoc (take s qs)))

  -- no bits are left
  done : length bits ≤ 2 * s → length is ≤ s → length qs ≤ s → so_far (lowest bits) is qs last s ≡ record { is = is; qs = qs; last = last }
  unfolding turned_from phase_after
  done none hi hq =
      let past : length (lowest bits) ≤ 2 * s = omega (arith, length-lowest bits) in
      rw (drop_of_length-le (lowest bits) past, take_all s is hi, take_all s qs hq, append-nil is, append-nil qs)

pub loop-s-preserved : goal.loop-s-preserved
loop-s-preserved c =
    let i = c.level_i in
    let q = c.level_q in
    let point = c.point-point in
    let to = c.turned-last in
    let l = c.loop-s in
    let bits = c.args.bits.now in (
      simp length-set l.invariant.0,
      simp length-set l.invariant.1,
      next bits l.is l.qs l.last l.s to.result point.result i.result q.result (omega arith) (omega arith) (omega arith)
          to.ensures point.ensures i.ensures q.ensures (record { sfits = i.type_inv }) (record { sfits = q.type_inv }) ∙ l.invariant.2,
    )

pub returns : goal.returns
returns c =
    let l = c.loop-s in
    let bits = c.args.bits.now in
    sym (done bits l.is l.qs l.last l.s (omega arith) (omega arith) (omega arith)) ∙ l.invariant.2
