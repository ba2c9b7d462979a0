-- `points::constellation::read_in` meets its contract: where there is a quarter of a table, the label is guessed by it.
-- Assumes nothing.
use native.Mathlib.Omega.{arith}
use mir.Syntax.{w16}
use mir.ValLaws.{to_z-of_z}
use borrow.Author.Tests.{le-leb, ne_eqb}
use Rattle.points.specs.Lent.{read_in, guess_in}
use Rattle.points.proofs.constellation.read_in.Goals as goal

pub returns-in-2-to-10 : goal.returns-in-2-to-10
unfolding read_in guess_in
returns-in-2-to-10 c =
    let n = c.args.bits in
    let i = to_z-of_z w16 c.args.i c.ranges.i in
    let q = to_z-of_z w16 c.args.q c.ranges.q in
    let guessed = rw (c.apart-in-2-to-10.ensures, c.apart-in-2-to-10-2.ensures, i, q) at c.guess-in-2-to-10.ensures in
    rw (le-leb 2 n (grind arith), le-leb n 10 (grind arith), ne_eqb n 3 (λ e. grind arith)) guessed
