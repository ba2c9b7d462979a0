-- `symbols::scheme::is_scheme` meets its contract: none is outside as long as no entry before s is.
-- Assumes nothing.
use mathlib.Core.Path.{ap, ◌∙◌}
use mathlib.Core.Bool.{◌||◌}
use native.Mathlib.Omega.{arith}
use Rattle.symbols.proofs.Faults.{bad_more, bad_none}
use Rattle.symbols.proofs.scheme.is_scheme.Goals as goal

pub loop-s-preserved : goal.loop-s-preserved
loop-s-preserved c =
    let l = c.loop-s in
    ap (λ t. l.outside || t) c.is_outside-outside.ensures ∙ bad_more c.args.scheme.now l.s l.outside (omega arith) l.invariant

pub returns : goal.returns
returns c =
    let l = c.loop-s in
    bad_none c.args.scheme.now l.s l.outside (omega arith) (omega arith) l.invariant
