-- `symbols::phases::dibits` meets its contract: the bits of the turns so far are written, and those of the turns left follow.
-- Assumes nothing.
use mathlib.Core.Path.{◌≡◌}
use mathlib.Core.List.{List, [], ◌∷◌, ◌++◌, append-nil, append_assoc}
use Prim.Native.Nat.{ℕ, suc, ◌+◌, ◌*◌, ◌/◌, ◌%◌, ◌≤◌, ◌<◌}
use native.Mathlib.Omega.{arith}
use native.Mathlib.Numerals.{add-one}
use lib.ListN.{length, get_or, set, take, length-set, drop_of_length-le}
use lib.Seq.{take_all, take-suc-set, drop-cons}
use Rattle.points.specs.Dqpsk.{dibit_to}
use Rattle.symbols.specs.ByPhase.{dibits_between}
use Rattle.symbols.proofs.phases.dibits.Invariants.{Begun}
use Rattle.symbols.proofs.phases.dibits.Goals as goal

-- two more bits are written
take_two : (bits : List ℕ) (s a b : ℕ) → 2 * s + 1 < length bits
    → take (2 * (s + 1)) (set (set bits (2 * s) a) (2 * s + 1) b) ≡ take (2 * s) bits ++ (a ∷ (b ∷ []))
take_two bits s a b h =
    let both : 2 * (s + 1) ≡ suc (2 * s + 1) = omega arith in
    rw (both, take-suc-set (set bits (2 * s) a) (2 * s + 1) b (simp length-set h), add-one (2 * s), take-suc-set bits (2 * s) a (omega arith), append_assoc)

module _ {phase : ℕ} {phases bits : List ℕ} {last s : ℕ} (begun : Begun phase phases bits last s) where
  -- one more turn
  next : (d : ℕ) → s < length phases → d ≡ dibit_to last (get_or phases s 0)
      → Begun phase phases (set (set bits (2 * s) (d / 2)) (2 * s + 1) (d % 2)) (get_or phases s 0) (s + 1)
  unfolding dibits_between
  next d more ed = record {
    long = simp length-set begun.long;
    on = rw (take_two bits s (d / 2) (d % 2) (omega (arith, begun.long)), append_assoc, ed, add-one s) (rw (drop-cons phases s 0 more) at begun.on);
  }

  -- all turns are read
  whole : length phases ≤ s → bits ≡ dibits_between phase phases
  unfolding dibits_between
  whole l = rw (drop_of_length-le phases l, take_all (2 * s) bits (omega (arith, begun.long)), append-nil) at begun.on

pub loop-s-preserved : goal.loop-s-preserved
loop-s-preserved c =
    let l = c.loop-s in
    next l.invariant c.dibit-dibit.result (omega arith) c.dibit-dibit.ensures

pub returns : goal.returns
returns c = whole c.loop-s.invariant (omega arith)
