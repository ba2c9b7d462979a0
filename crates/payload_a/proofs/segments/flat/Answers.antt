-- `payload_a::segments::flat` meets its contract: the second row stands behind the first.
-- Assumes nothing.
use mathlib.Core.List.{[]}
use native.Mathlib.Omega.{arith}
use lib.ListN.{get_or}
use Rattle.payload_a.proofs.Puttings.{put_two}
use Rattle.payload_a.proofs.segments.flat.Goals as goal

pub returns : goal.returns
returns c =
    let rows = c.args.rows in
    put_two (get_or rows 0 []) (get_or rows 1 []) 392 784 (omega arith) (omega arith) _ _ c.put.ensures c.put-2.ensures (omega arith) (omega arith)
