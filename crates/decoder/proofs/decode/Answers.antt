-- `decoder::decode` meets its contract: the word is mended where the checks pass, by the table of the code that they answer.
-- Assumes nothing.
use Rattle.bch.proofs.Entries.{judged_tabled}
use Rattle.decoder.proofs.PackedWords.{ready}
use Rattle.decoder.proofs.decode.Goals as goal

pub answer-requires : goal.answer-requires
answer-requires c =
    let judged = c.in-Ok.ensures in
    (judged.0, rw c.table.ensures (ready judged.0.sound (judged_tabled c.args.code _ judged.0.sound _ _ _ judged.1)))
