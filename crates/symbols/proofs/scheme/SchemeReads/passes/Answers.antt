-- `symbols::scheme::Scheme` passes the points that have the sizes of those of their entries.
-- Assumes nothing.
use Prim.Native.Nat.{◌+◌}
use native.Mathlib.Omega.{arith}
use borrow.Author.Tests.{eqb-true}
use Rattle.symbols.proofs.Faults.{looked_at}
use Rattle.symbols.proofs.Looks.{passed_legal}
use Rattle.symbols.proofs.scheme.SchemeReads.passes.Goals as goal

pub returns : goal.returns
returns c = λ e s h.
    let scheme = c.args.self in
    let good = looked_at scheme.long scheme.within in
    passed_legal good (c.args.from + s) _ _ (omega (arith, c.requires.0)) (c.amiss.ensures (eqb-true _ 0 e) s h)
