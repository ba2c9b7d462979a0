-- `bridge::lent::numbers_of` meets its contract: the unfinished block, and the numbers behind it.
-- Assumes nothing.
use mathlib.Core.Path.{◌≡◌}
use lib.ListN.{length}
use mir.Syntax.{w8, w16}
use mir.Val.{Fits}
use Rattle.bridge.proofs.Holdings.{numbers_made}
use borrow.Author.Rules.{rules}
use Rattle.bridge.proofs.lent.numbers_of.Goals as goal

pub returns : goal.returns
returns c =
    let m = c.args.m in
    let long : length m.block ≡ 8 = search rules in
    let register : Fits w16 m.register = search rules in
    let mode : Fits w8 m.mode = search rules in (
      rw c.told-told.ensures (numbers_made m.block _ long),
      record { block_long = long; register = register.fits; mode = mode.fits },
    )
