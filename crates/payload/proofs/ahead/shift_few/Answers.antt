-- `payload::ahead::shift_few` meets its contract: the first few of fourteen formed bits come in.
-- Assumes nothing.
use native.Mathlib.Omega.{arith}
use Rattle.payload.proofs.Periods.{few_shifted}
use Rattle.payload.proofs.ahead.shift_few.Goals as goal

pub returns : goal.returns
returns c =
    let a = c.args in
    let k = c.form14.ensures in
    few_shifted a.bits _ a.register (omega arith) (omega arith) k.1 k.0
