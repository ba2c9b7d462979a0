-- `payload_b::plan::checked` meets its contract: each check that fails is the first that does.
-- Assumes nothing.
use mathlib.Core.Path.{sym, ap, ◌∙◌}
use native.Mathlib.Omega.{arith}
use Rattle.answers.specs.Checks.{fails}
use Rattle.symbols.proofs.Faults.{looked_at}
use Rattle.symbols.proofs.Schemes.{sum_least, sum_most}
use Rattle.payload_b.proofs.ModesB.{number_few}
use Rattle.payload_b.proofs.Plans.{no_scheme}
use Rattle.payload_b.proofs.plan.checked.Goals as goal

pub returns-in-Err : goal.returns-in-Err
returns-in-Err c next =
    let a = c.args in
    let known = rw c.in_ok-mode.ensures at (number_few c.in_ok-mode.mode) in
    let whole = rw (c.block_bytes.ensures, c.in_ok-mode.ensures) at c.if-size-block_bytes-ne0.false in
    no_scheme a.mode a.size a.scheme.now next known (omega arith) whole c.in-Err.ensures.0 ∙ ap (fails 5) (sym c.in-Err.ensures.1)

pub symbols-symbols-requires : goal.symbols-symbols-requires
symbols-symbols-requires c =
    let scheme = c.in-Ok.scheme in
    let good = looked_at scheme.long scheme.within in
    (omega (arith, c.sum-sum.ensures, sum_least good), omega (arith, c.sum-sum.ensures, sum_most good))
