-- `symbols::quick::all_pass` meets its contract: nothing is wrong with the OFDM symbols before k.
-- Assumes nothing.
use Rattle.symbols.specs.Quick.{Legal}
use Rattle.symbols.proofs.Looks.{Clean}
use Rattle.symbols.proofs.quick.all_pass.Given as goal

abbrev pub invariant-loop-k : goal.invariant-loop-k
invariant-loop-k g l = Clean (Legal (g.R.Reads.strays l.read)) l.i l.q l.k
