-- `symbols::scheme::Scheme::new` meets its contract: entries that did not pass are no scheme, and the place is that of the first bad one.
-- Assumes nothing.
use mathlib.Core.Path.{sym, ◌∙◌}
use Rattle.symbols.proofs.scheme.Scheme.new.Goals as goal

pub returns-then-not-is_scheme : goal.returns-then-not-is_scheme
returns-then-not-is_scheme c = (sym c.is_scheme.ensures ∙ c.if-not-is_scheme.true, c.bad_place.ensures)
