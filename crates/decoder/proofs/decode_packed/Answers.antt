-- `decoder::decode_packed` meets its contract: the checks pass where there is such a code.
-- Assumes nothing.
use Rattle.bch.proofs.Entries.{tabled}
use Rattle.decoder.proofs.Entries.{first_clear, first_decoded}
use Rattle.decoder.proofs.PackedWords.{ready}
use Rattle.decoder.proofs.decode_packed.Goals as goal

pub answer-requires : goal.answer-requires
answer-requires c =
    let holds = c.in-Some.ensures in
    (rw c.table.ensures (ready holds.0 (tabled c.args.code _ holds.0 holds.1)), first_clear holds.0 _ _ c.first.ensures)

pub returns-in-Some : goal.returns-in-Some
returns-in-Some c =
    let a = c.args in
    let holds = c.in-Some.ensures in
    first_decoded holds.0 a.words _ c.first.ensures a.code holds.1 c.answer.result c.answer.ensures
