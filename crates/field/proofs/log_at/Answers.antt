-- `field::log_at` meets its contract: no entry is above that of 0.
-- Assumes nothing.
use mathlib.Core.Path.{◌≡◌}
use Prim.Native.Nat.{◌%◌}
use native.Mathlib.Nat.{mod-lt}
use lib.Dec.{lit<}
use lib.ListN.{get_or}
use borrow.Author.Rules.{rules}
use Rattle.field.specs.declared.tables.TheConstants.{LOGARITHMS}
use Rattle.field.proofs.Constants.{logarithms_are}
use Rattle.field.proofs.Logarithms.{log, log-le}
use Rattle.field.proofs.log_at.Goals as goal

pub returns : goal.returns
unfolding log
returns c =
    let x = c.args.x in
    let e : c.from-2.result ≡ get_or LOGARITHMS (x % 512) 0 = search rules in
    (e, rw (e, logarithms_are) (log-le (x % 512) (mod-lt x (lit< tt))))
