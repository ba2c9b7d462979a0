-- `trial::output::write_levels` meets its contract: a count that fails leaves a front of the list's bytes, and a whole count stands before a front of the levels.
use Rattle.streams.proofs.Writing.{front_first, front_then}
use Rattle.trial.proofs.output.write_levels.Goals as goal

pub returns-in_err-write_length-clause-front : goal.returns-in_err-write_length-clause-front
returns-in_err-write_length-clause-front g c = front_first _ _ _ _ c.in_err-write_length.ensures.front

pub returns-clause-front : goal.returns-clause-front
returns-clause-front g c = front_then _ _ _ _ _ c.in_ok-write_length.ensures.ok c.write_parts.ensures.front
