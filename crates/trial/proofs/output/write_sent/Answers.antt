-- `trial::output::write_sent` meets its contract: what was written before stands whole before a front of what comes next.
use Rattle.std.proofs.KnownBytes.{Appends-trans}
use Rattle.streams.proofs.Writing.{front_first, front_then}
use Rattle.trial.specs.Format.{head_bytes, level_list_bytes}
use Rattle.trial.proofs.output.write_sent.Goals as goal

pub returns-in_err-write_answer-clause-front : goal.returns-in_err-write_answer-clause-front
returns-in_err-write_answer-clause-front g c =
    front_first _ _ _ (level_list_bytes c.args.q.now)
    (front_first _ _ (head_bytes c.args.told) (level_list_bytes c.args.i.now) c.in_err-write_answer.ensures.front)

pub returns-in_err-write_levels-clause-front : goal.returns-in_err-write_levels-clause-front
returns-in_err-write_levels-clause-front g c =
    front_first _ _ _ (level_list_bytes c.args.q.now)
    (front_then _ _ _ (head_bytes c.args.told) _ c.in_ok-write_answer.ensures.ok c.in_err-write_levels.ensures.front)

pub returns-clause-front : goal.returns-clause-front
returns-clause-front g c =
    front_then _ _ _ _ (level_list_bytes c.args.q.now)
    (Appends-trans _ _ _ (head_bytes c.args.told) _ c.in_ok-write_answer.ensures.ok c.in_ok-write_levels.ensures.ok) c.write_levels-2.ensures.front
