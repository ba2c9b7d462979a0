-- `report::trip` meets its contract: what the sender refuses is the length, and what it sent comes back clean.
-- Assumes nothing.
use mathlib.Core.Path.{refl, ap}
use lib.ListN.{replicate}
use Rattle.answers.specs.Answers.{of_written, Written}
use borrow.Author.Rules.{rules}
use Rattle.std.proofs.lemmas.Result.{err_from_is_err_and}
use Rattle.report.proofs.Journeys.{longest, sent_told, trip_received}
use Rattle.report.proofs.trip.Goals as goal

pub returns-in_err-send_a : goal.returns-in_err-send_a
returns-in_err-send_a c =
    let p = err_from_is_err_and c.from_residual.result c.from_residual.ensures.1 in
    rw (p.1, p.2) (rw c.in_err-send_a.was at (sent_told c.args.mode c.args.frame.now (replicate 512 _) (replicate 512 _) c.send_a.result c.send_a.new.i
    c.send_a.new.q c.requires refl refl c.send_a.ensures))

pub returns : goal.returns
returns c =
    let back = c.receive_a in
    trip_received c.args.mode c.args.frame.now (replicate 512 _) (replicate 512 _) c.send_a.result c.send_a.new.i c.send_a.new.q c.requires refl refl
    c.send_a.ensures (λ i. search rules) (ap (λ (a : Written). (of_written a).number) c.in_ok-send_a.was) (replicate 94 0) (longest c.args.mode) back.result
    back.new.area back.ensures
