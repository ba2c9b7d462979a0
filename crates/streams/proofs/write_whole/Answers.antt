-- `streams::write_whole` meets its contract: what this turn wrote stands after what was written before; a turn that fails leaves that.
use Rattle.std.proofs.Common.{rules, ◌+◌}
use Rattle.std.proofs.KnownBytes.{Appends-kept}
use Rattle.streams.proofs.Writing.{more, taken_front}
use Rattle.streams.proofs.write_whole.Goals as goal

pub loop-done-preserved : goal.loop-done-preserved
loop-done-preserved g c = (search rules, more _ _ _ c.loop-done.done c.in_ok-n.n c.args.bytes.now c.loop-done.invariant.1 c.in_ok-n.ensures.bytes)

pub returns-in_err-n-clause-front : goal.returns-in_err-n-clause-front
returns-in_err-n-clause-front g c = taken_front _ _ c.loop-done.done c.args.bytes.now (Appends-kept _ _ _ _ c.loop-done.invariant.1 c.in_err-n.ensures.bytes)

pub returns-then-n-eq0-clause-front : goal.returns-then-n-eq0-clause-front
returns-then-n-eq0-clause-front g c = taken_front _ _ (c.loop-done.done + c.in_ok-n.n) c.args.bytes.now (more _ _ _ c.loop-done.done c.in_ok-n.n c.args.bytes.now c.loop-done.invariant.1 c.in_ok-n.ensures.bytes)
