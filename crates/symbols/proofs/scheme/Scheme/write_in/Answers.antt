-- `symbols::scheme::Scheme::write_in` meets its contract: the front of both lists is written, and what is behind it stays.
-- Assumes nothing.
use mathlib.Core.Path.{sym, ap, ◌∙◌}
use mathlib.Core.List.{◌++◌}
use lib.ListN.{drop}
use Rattle.symbols.proofs.Faults.{looked_at, good_readable}
use Rattle.symbols.proofs.scheme.Scheme.write_in.Goals as goal

pub returns : goal.returns
returns c =
    let i = c.args.i.now in
    let q = c.args.q.now in
    let ready = good_readable (looked_at c.args.self.long c.args.self.within) 1 i q ∙ sym c.room.ensures ∙ c.if-not-room.false in
    rw ready (ap (λ front. front ++ drop 256 i) c.put_points.ensures.0, ap (λ front. front ++ drop 256 q) c.put_points.ensures.1)
