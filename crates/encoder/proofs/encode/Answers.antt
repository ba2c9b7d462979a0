-- `encoder::encode` meets its contract: the codeword is written where the checks pass, by the table of the code that they answer.
-- Assumes nothing.
use Rattle.bch.proofs.Entries.{judged_tabled}
use Rattle.encoder.proofs.encode.Goals as goal

pub write-requires : goal.write-requires
write-requires c =
    let judged = c.in_ok-c.ensures in
    (judged.0, rw c.table.ensures (judged_tabled c.args.code _ judged.0.sound _ _ _ judged.1))
