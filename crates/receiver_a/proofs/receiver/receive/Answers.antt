-- `receiver_a::receiver::receive` meets its contract: checks 7 and 8 in document 01's order, and then the answer for legal points.
-- Assumes nothing.
use mathlib.Core.Path.{sym, ◌∙◌}
use Rattle.receiver_a.proofs.Faults.{none_stray}
use Rattle.receiver_a.proofs.receiver.receive.Goals as goal

pub legal-requires : goal.legal-requires
legal-requires c =
    let h = c.requires in
    (h.0, h.1, h.2, none_stray c.args.i.now c.args.q.now h.0 h.1 (sym c.in-Ok.is ∙ c.first_fault.ensures))
