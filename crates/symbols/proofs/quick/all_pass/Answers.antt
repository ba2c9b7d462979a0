-- `symbols::quick::all_pass` meets its contract: nothing is wrong with the OFDM symbols before k.
-- Assumes nothing.
use mathlib.Core.Path.{◌≡◌, subst}
use native.Mathlib.Omega.{arith}
use Rattle.symbols.specs.Quick.{Legal}
use Rattle.symbols.proofs.Looks.{Clean, clean_more, all_legal}
use Rattle.symbols.proofs.quick.all_pass.Goals as goal

pub loop-k-preserved : goal.loop-k-preserved
loop-k-preserved g c =
    let a = c.args in
    clean_more (Legal (g.R.Reads.strays a.read)) a.i.now a.q.now c.loop-k.k (c.passes.ensures c.if-not-passes.false) c.loop-k.invariant

pub returns : goal.returns
returns g c = λ e.
    let a = c.args in
    let strays = g.R.Reads.strays a.read in
    let whole : c.loop-k.k ≡ a.m = omega arith in
    all_legal strays a.m a.i.now a.q.now (subst (Clean (Legal strays) a.i.now a.q.now) whole c.loop-k.invariant)
