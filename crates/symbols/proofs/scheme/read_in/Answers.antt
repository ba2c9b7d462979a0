-- `symbols::scheme::read_in` meets its contract: where the scheme is none, there are the first bits of `front` alone.
-- Assumes nothing.
use Rattle.symbols.proofs.Fronts.{front_alone}
use Rattle.symbols.proofs.scheme.read_in.Goals as goal

pub returns-in-Err : goal.returns-in-Err
returns-in-Err c =
    rw c.in-Err.ensures.0 (front_alone c.args.front c.first.result c.begun.result c.args.count c.first.ensures c.begun.ensures)
