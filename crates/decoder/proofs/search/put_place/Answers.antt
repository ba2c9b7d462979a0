-- `decoder::search::put_place` meets its contract: where there is room, the place stands behind those listed.
-- Assumes nothing.
use mathlib.Core.Path.{refl}
use borrow.Author.Tests.{lt-ltb, le-ltb}
use Rattle.decoder.proofs.search.put_place.Goals as goal

pub returns-then-count-lt-PLACES : goal.returns-then-count-lt-PLACES
returns-then-count-lt-PLACES c = rw (lt-ltb c.args.count 16 c.if-count-lt-PLACES.true) refl

pub returns-else-count-lt-PLACES : goal.returns-else-count-lt-PLACES
returns-else-count-lt-PLACES c = rw (le-ltb c.args.count 16 c.if-count-lt-PLACES.false) refl
