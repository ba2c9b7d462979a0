-- `symbols::scheme::Scheme::write` meets its contract: by our table, lent, what is put is what ours says.
-- Assumes nothing.
use mathlib.Core.Path.{◌∙◌}
use Rattle.packed.specs.Packed.{bits_from}
use Rattle.points.specs.Constellations.{level_i, level_q}
use Rattle.symbols.proofs.Writings.{written_ours}
use Rattle.symbols.proofs.scheme.Scheme.write.Goals as goal

pub returns : goal.returns
returns c =
    let a = c.args in
    let i = a.i.now in
    let q = a.q.now in
    let bits = bits_from 41 0 a.bits.now in (
      c.write_in.ensures.0 ∙ written_ours level_i c.cell_table.ensures a.self.entries.now bits i q i,
      c.write_in.ensures.1 ∙ written_ours level_q c.cell_table.ensures a.self.entries.now bits i q q,
    )
