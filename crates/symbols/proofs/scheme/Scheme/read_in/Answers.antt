-- `symbols::scheme::Scheme::read_in` meets its contract: the first bits of `front`, and behind them those of the points, if they can be read.
-- Assumes nothing.
use mathlib.Core.Path.{sym, ◌∙◌}
use borrow.Author.Rules.{rules}
use Rattle.symbols.proofs.Faults.{looked_at, good_readable}
use Rattle.symbols.proofs.Rooms.{room_both}
use Rattle.symbols.proofs.Fronts.{front_alone, front_taken, front_blank}
use Rattle.symbols.proofs.scheme.Scheme.read_in.Goals as goal

pub returns-then-not-room : goal.returns-then-not-room
returns-then-not-room c =
    let first = c.first in
    let begun = c.begun-begun in
    let a = c.args in
    let unread = good_readable (looked_at a.self.long a.self.within) 1 a.i.now a.q.now ∙ sym c.room.ensures ∙ c.if-not-room.true in
    rw unread (front_alone a.front first.result begun.result a.count first.ensures begun.ensures)

pub points_behind-requires : goal.points_behind-requires
points_behind-requires c =
    let first = c.first in
    let begun = c.begun-begun in
    let a = c.args in
    let both = room_both 256 a.i.now a.q.now (sym c.if-not-room.false ∙ c.room.ensures) in
    let blank = front_blank a.front first.result begun.result a.count first.ensures begun.ensures c.min.result c.min.ensures in
    (both.0, both.1, search rules, blank)

pub returns : goal.returns
returns c =
    let first = c.first in
    let begun = c.begun-begun in
    let a = c.args in
    let ready = good_readable (looked_at a.self.long a.self.within) 1 a.i.now a.q.now ∙ sym c.room.ensures ∙ c.if-not-room.false in
    let taken = front_taken a.front first.result begun.result a.count first.ensures begun.ensures c.min.result c.min.ensures in
    rw ready (rw taken at c.points_behind.ensures)
