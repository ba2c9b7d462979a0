-- `streams::read_full` meets its contract: what this turn read follows what was read before.
use Rattle.std.proofs.Common.{rules}
use Rattle.streams.proofs.Reading.{filled}
use Rattle.streams.proofs.read_full.Goals as goal

pub loop-done-preserved : goal.loop-done-preserved
loop-done-preserved g c =
    let before = c.loop-done.invariant in
    let read = c.in_ok-n.ensures in
    (search rules, filled _ _ _ c.loop-done.done _ c.in_ok-n.n c.loop-done.room c.read.new.buf before.0 read.bound.0 before.1 read.bytes.0)
