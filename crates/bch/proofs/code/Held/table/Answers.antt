-- `bch::code::Held::table` meets its contract: the three tables stand in the order in which the definition asks for them.
-- Assumes nothing.
use mathlib.Core.Logic.{◌≢◌}
use native.Mathlib.Omega.{arith}
use borrow.Author.Tests.{ne_eqb}
use Rattle.bch.specs.Held.{table_of}
use Rattle.bch.proofs.code.Held.table.Goals as goal

pub returns-in-4 : goal.returns-in-4
unfolding table_of
returns-in-4 c = rw c.in-4.is

pub returns-in-8 : goal.returns-in-8
unfolding table_of
returns-in-8 c = rw c.in-8.is

pub returns-in_default : goal.returns-in_default
unfolding table_of
returns-in_default c =
    let t = c.args.self.now.t in
    let first : t ≢ 4 = λ e. omega (arith, e) in
    let second : t ≢ 8 = λ e. omega (arith, e) in
    rw (ne_eqb t 4 first, ne_eqb t 8 second)
