-- `trial::stream::write_received` meets its contract: what was written before stands whole before a front of what comes next.
use Rattle.std.proofs.Common.{ap, subst}
use Rattle.std.proofs.KnownBytes.{Appends-trans}
use Rattle.streams.specs.Streams.{AppendsFront}
use Rattle.streams.proofs.Writing.{front_first, front_then}
use Rattle.trial.specs.Format.{little_endian, head_bytes, received_bytes}
use Rattle.trial.proofs.stream.write_received.Goals as goal

pub returns-in_err-write_answer-clause-front : goal.returns-in_err-write_answer-clause-front
returns-in_err-write_answer-clause-front g c =
    let told = c.from-told.result in
    subst (AppendsFront _ _) (ap received_bytes c.from-told.ensures)
    (front_first _ _ _ (little_endian 8 told.worst) (front_first _ _ (head_bytes told) (little_endian 8 told.mended) c.in_err-write_answer.ensures.front))

pub returns-in_err-write_count-clause-front : goal.returns-in_err-write_count-clause-front
returns-in_err-write_count-clause-front g c =
    let told = c.from-told.result in
    subst (AppendsFront _ _) (ap received_bytes c.from-told.ensures)
    (front_first _ _ _ (little_endian 8 told.worst)
    (front_then _ _ _ (head_bytes told) _ c.in_ok-write_answer.ensures.ok c.in_err-write_count.ensures.front))

pub returns-clause-front : goal.returns-clause-front
returns-clause-front g c =
    let told = c.from-told.result in
    subst (AppendsFront _ _) (ap received_bytes c.from-told.ensures)
    (front_then _ _ _ _ (little_endian 8 told.worst)
    (Appends-trans _ _ _ (head_bytes told) _ c.in_ok-write_answer.ensures.ok c.in_ok-write_count.ensures.ok) c.write_count-2.ensures.front)
