-- `encoder::encode_packed` meets its contract: the checks pass where there is such a code.
-- Assumes nothing.
use Rattle.bch.proofs.Entries.{tabled}
use Rattle.encoder.proofs.PackedCodewords.{first_clear, first_encoded, unknown_encoded}
use Rattle.encoder.proofs.encode_packed.Goals as goal

pub codeword-requires : goal.codeword-requires
codeword-requires c =
    let holds = rw c.in-Some.is at c.of_number.ensures in
    (holds.0, rw c.table.ensures (tabled c.args.code _ holds.0 holds.1), first_clear holds.0 _ _ c.first.ensures)

pub returns-in-Some : goal.returns-in-Some
returns-in-Some c =
    let a = c.args in
    let holds = rw c.in-Some.is at c.of_number.ensures in
    first_encoded holds.0 a.words _ c.first.ensures a.code holds.1 c.codeword.result c.codeword.ensures

pub returns-in-None : goal.returns-in-None
returns-in-None c =
    let a = c.args in
    let holds = rw c.in-None.is at c.of_number.ensures in
    unknown_encoded a.code holds a.words
