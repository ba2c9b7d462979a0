-- `payload::ahead::entry` meets its contract: each entry is the register 128 bits after the one before, by computation.
-- Assumes nothing.
use mathlib.Core.Path.{◌≡◌, refl, ap, ◌∙◌}
use mathlib.Core.List.{List}
use Prim.Native.Nat.{ℕ, ◌*◌, ◌^◌, ◌<◌}
use lib.Dec.{lit<}
use lib.ListN.{get_or}
use Rattle.payload.specs.declared.ahead.TheConstants.{REGISTERS}
use Rattle.payload.specs.Scrambler.{start, formed, shifted, register_after, registers_from}
use Rattle.payload.proofs.Periods.{entry, register_below}
use Rattle.payload.proofs.ahead.entry.Goals as goal

read : (k i : ℕ) → i < 256 → k ≡ get_or (registers_from 256 start) i 0 → (k ≡ register_after (128 * i) start) × (k < 2 ^ 15)
read k i h e =
    let there = e ∙ entry 256 i start h in
    (there, rw there (register_below (128 * i) start (lit< tt)))

pub returns : goal.returns
unfolding registers_from register_after shifted formed
returns c =
    let table : REGISTERS ≡ registers_from 256 start = refl {a = registers_from 256 start} in
    read _ c.args.steps c.requires (ap (λ (l : List ℕ). get_or l c.args.steps 0) table)
