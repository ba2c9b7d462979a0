-- `bridge::lent::moving_in` meets its contract: the parts of what moves, each from its number.
-- Assumes nothing.
use mathlib.Core.Path.{◌≡◌, sym}
use native.Mathlib.Omega.{arith}
use lib.ListN.{length}
use Rattle.bridge.proofs.Holds.{first_eight}
use Rattle.bridge.proofs.Holdings.{of_parts}
use borrow.Author.Rules.{rules}
use Rattle.bridge.proofs.lent.moving_in.Goals as goal

pub returns : goal.returns
returns c =
    let n = c.args.n in
    let long : length n ≡ 17 = search rules in
    of_parts n _ c.course_of.result (sym (first_eight n (omega arith))) c.course_of.ensures
