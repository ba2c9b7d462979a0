-- `payload::scrambler::shift64` meets its contract: one run of formed bits after the other.
-- Assumes nothing.
use Rattle.payload.proofs.Forming.{register_behind}
use Rattle.payload.proofs.scrambler.shift64.Goals as goal

pub returns : goal.returns
returns c =
    let r = c.args.register in
    let after28 = register_behind 14 14 r _ _ c.shift14.ensures c.shift14-2.ensures in
    let after42 = register_behind 28 14 r _ _ after28 c.shift14-3.ensures in
    let after56 = register_behind 42 14 r _ _ after42 c.shift14-4.ensures in
    register_behind 56 8 r _ _ after56 c.shift8.ensures
