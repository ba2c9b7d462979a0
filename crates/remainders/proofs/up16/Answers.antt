-- `remainders::up16` meets its contract: each machine word takes in the highest sixteen digits of the one below it.
-- Assumes nothing.
use Prim.Native.Nat.{◌^◌}
use native.Mathlib.Omega.{arith}
use lib.Dec.{lit<}
use Rattle.bch.proofs.Triples.{raised_lt, joined_up}
use Rattle.remainders.proofs.up16.Goals as goal

pub overflow_add-result : goal.overflow_add-result
overflow_add-result c =
    let r = c.args.r in
    record { fits = raised_lt (2 ^ 48) 65536 (lit< tt) (lit< tt) r.high r.mid (omega arith) }

pub overflow_add-result-2 : goal.overflow_add-result-2
overflow_add-result-2 c =
    let r = c.args.r in
    record { fits = raised_lt (2 ^ 48) 65536 (lit< tt) (lit< tt) r.mid r.low (omega arith) }

pub returns : goal.returns
returns c =
    let r = c.args.r in
    joined_up (2 ^ 48) 65536 (lit< tt) (lit< tt) r.high r.mid r.low (omega arith) (omega arith)
