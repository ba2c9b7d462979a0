-- `remainders::top16` meets its contract: the highest digits of the register are those of its highest machine word.
-- Assumes nothing.
use mathlib.Core.Path.{sym}
use Prim.Native.Nat.{◌^◌, ◌<◌}
use native.Mathlib.Omega.{arith}
use Rattle.bch.proofs.Triples.{joined_top}
use Rattle.remainders.proofs.top16.Goals as goal

pub returns : goal.returns
returns c =
    let r = c.args.r in
    let m : r.mid < 2 ^ 64 = omega arith in
    let l : r.low < 2 ^ 64 = omega arith in
    (sym (joined_top (2 ^ 64) (2 ^ 48) r.high r.mid r.low m l), omega arith)
