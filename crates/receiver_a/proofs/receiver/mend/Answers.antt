-- `receiver_a::receiver::mend` meets its contract: what decode answers of a row.
-- Assumes nothing.
use Rattle.receiver_a.proofs.Settling.{row_mended}
use Rattle.receiver_a.proofs.receiver.mend.Goals as goal

pub returns-in-Err : goal.returns-in-Err
returns-in-Err c = rw c.in-Err.is at (row_mended c.args.number _ _ _ _ c.requires c.told-row c.told-word c.decode-answer.ensures)
