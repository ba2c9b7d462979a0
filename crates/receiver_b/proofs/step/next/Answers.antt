-- `receiver_b::step::next` meets its contract: 6 after the last OFDM symbol, then 3, before the OFDM symbol is looked at.
-- Assumes nothing.
use mathlib.Core.Path.{◌≡◌, refl, sym, ap, ◌∙◌}
use native.Mathlib.Omega.{arith}
use borrow.Author.Tests.{lt-ltb, le-ltb, le-leb, lt-leb}
use lib.ListN.{length}
use Rattle.answers.specs.Answers.{of_received_b}
use Rattle.symbols.proofs.Rooms.{room_both}
use Rattle.payload_b.specs.CodedB.{symbols_for}
use Rattle.payload_b.specs.StreamB.{with_scheme}
use Rattle.payload_b.specs.declared.stream.State.{State}
use Rattle.payload_b.specs.declared.stream.Stage.{Stage}
use Rattle.payload_b.proofs.StatesB.{kept_sound}
use Rattle.receiver_b.specs.Steps.{Staged}
use Rattle.receiver_b.proofs.step.next.Goals as goal

-- the OFDM symbols that are needed
many : {s : State} {stage : Stage} → Staged s stage → stage.plan.symbols ≡ symbols_for s.mode s.size s.scheme
many h = ap (λ (t : Stage). t.plan.symbols) h.far

pub returns-then-stage-s : goal.returns-then-stage-s
returns-then-stage-s c =
    let s = with_scheme c.args.scheme.entries.now c.args.s in
    let e = c.unchanged.ensures in
    let all = le-ltb s.seen (symbols_for s.mode s.size s.scheme) (omega (arith, many c.requires, c.if-stage-s.true)) in
    rw (kept_sound s c.requires.kept, all) (ap of_received_b e.0, ap (with_scheme s.scheme) e.1, refl)

pub returns-then-not-room : goal.returns-then-not-room
returns-then-not-room c =
    let s = with_scheme c.args.scheme.entries.now c.args.s in
    let e = c.unchanged-then-not-room.ensures in
    let more = lt-ltb s.seen (symbols_for s.mode s.size s.scheme) (omega (arith, many c.requires, c.if-stage-s.false)) in
    rw (kept_sound s c.requires.kept, more, ← c.room.ensures, c.if-not-room.true) (ap of_received_b e.0, ap (with_scheme s.scheme) e.1, refl)

pub returns-then-area-s : goal.returns-then-area-s
returns-then-area-s c =
    let s = with_scheme c.args.scheme.entries.now c.args.s in
    let e = c.unchanged-then-area-s.ensures in
    let more = lt-ltb s.seen (symbols_for s.mode s.size s.scheme) (omega (arith, many c.requires, c.if-stage-s.false)) in
    let short = lt-leb s.size (length c.args.area.now) c.if-area-s.true in
    rw (kept_sound s c.requires.kept, more, ← c.room.ensures, c.if-not-room.false, short) (ap of_received_b e.0, ap (with_scheme s.scheme) e.1, refl)

pub look-requires : goal.look-requires
look-requires c =
    let both = room_both 256 c.args.i.now c.args.q.now (sym c.if-not-room.false ∙ c.room.ensures) in
    record {
      staged = c.requires;
      more = omega (arith, many c.requires, c.if-stage-s.false);
      long_i = both.0;
      long_q = both.1;
      room = c.if-area-s.false;
    }

pub returns : goal.returns
returns c =
    let s = with_scheme c.args.scheme.entries.now c.args.s in
    let more = lt-ltb s.seen (symbols_for s.mode s.size s.scheme) (omega (arith, many c.requires, c.if-stage-s.false)) in
    let long = le-leb s.size (length c.args.area.now) c.if-area-s.false in
    rw (kept_sound s c.requires.kept, more, ← c.room.ensures, c.if-not-room.false, long) c.look.ensures
