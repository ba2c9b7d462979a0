-- `receiver_b::stream::take_run` meets its contract: whole blocks of the run are taken in, and what is left waits in the unfinished block.
-- Assumes nothing.
use Prim.Native.Nat.{◌≤◌}
use native.Mathlib.Omega.{arith}
use lib.ListN.{length}
use Rattle.packed.specs.Packed.{bits_from}
use Rattle.packed.proofs.Walks.{length_from}
use Rattle.receiver_b.proofs.Leaving.{leaves, left_ends}
use Rattle.receiver_b.proofs.stream.take_run.Goals as goal

pub left-requires : goal.left-requires
left-requires c = left_ends c.requires.within c.in_ok-tally.ensures

pub returns : goal.returns
returns c =
    let a = c.args in
    let room : a.from.count ≤ length (bits_from 41 0 a.run.now) = omega (arith, c.requires.within, length_from 41 0 a.run.now) in
    leaves room c.in_ok-tally.ensures c.left.ensures
