-- `trial::stream::step` meets its contract: each write stands after those before it, and the area's list after those of either case.
use Rattle.std.proofs.Common.{rules}
use Rattle.streams.specs.Streams.{Grows}
use Rattle.streams.proofs.Writing.{grows_trans, front_grows}
use Rattle.trial.proofs.Streaming.{steps}
use Rattle.trial.proofs.stream.step.Goals as goal
use Rattle.trial.proofs.stream.step.Goals.{in-None+in_ok-write_received-in-None+in_ok-write_list-in-None, in-Some+in_ok-write_received-in-Some+in_ok-write_state-in-Some}

pub returns-in_err-write_list-in-None : goal.returns-in_err-write_list-in-None
returns-in_err-write_list-in-None g c = search (rules, steps)

pub returns-in_err-write_state-in-Some : goal.returns-in_err-write_state-in-Some
returns-in_err-write_state-in-Some g c = search (rules, steps)

pub returns : goal.returns
returns g c =
    let before : Grows (g.W.Write.contents c.args.to.now) (g.W.Write.contents c.match-course_of.to) = elim c.match-course_of.branch [
      | in-None+in_ok-write_received-in-None+in_ok-write_list-in-None w ↦ rw w.to-is (search (rules, steps))
      | in-Some+in_ok-write_received-in-Some+in_ok-write_state-in-Some w ↦ rw w.to-is (search (rules, steps))
    ] in
    record { grows = grows_trans _ _ _ before (front_grows _ _ _ c.write_list-2.ensures.front) }
