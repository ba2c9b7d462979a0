-- `bch::register::put_part` meets its contract: each turn writes one entry more.
-- Assumes nothing.
use native.Mathlib.Omega.{arith}
use lib.ListN.{length-set}
use Rattle.bch.proofs.Filling.{next_entry}
use Rattle.bch.proofs.register.put_part.Goals as goal

pub loop-i-preserved : goal.loop-i-preserved
loop-i-preserved c =
    let l = c.loop-i in
    let long = l.invariant.0 in (
      simp length-set long,
      λ g j at is before.
          let more = l.invariant.1 g j at is before in
          rw at (next_entry g j l.i _ l.out c.args.part _ long (omega arith) (omega arith) (omega arith) is (rw at at more)),
    )

pub returns : goal.returns
returns c =
    let l = c.loop-i in
    (l.invariant.0, λ g j at is before e h. l.invariant.1 g j at is before e (omega arith))
