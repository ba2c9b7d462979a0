-- `payload_b::stream::judged` meets its contract: what `checked` tells of the state, without the scheme.
-- Assumes nothing.
use Rattle.payload_b.proofs.stream.judged.Goals as goal

pub returns : goal.returns
returns c = c.in_ok-found.ensures.0
