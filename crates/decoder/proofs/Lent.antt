-- What the functions of `mending` ask, any sound code meets with any table of its remainders, a code that has no number too.
-- Assumes nothing.
use mathlib.Core.Path.{◌≡◌}
use mathlib.Core.List.{List}
use Prim.Native.Nat.{ℕ, ◌^◌, ◌≤◌, ◌<◌}
use native.Mathlib.Omega.{arith}
use lib.Dec.{lit<, lit≤}
use lib.ListN.{get_or}
use Rattle.std.proofs.Math.Facts.{yes_eqb}
use Rattle.bits.specs.Words.{digits}
use Rattle.bits.specs.Remainders.{remainder, remainder_from, step, reduced}
use Rattle.bch.specs.Codes.{known, named}
use Rattle.bch.specs.Registers.{whole, Remainders}
use Rattle.bch.specs.Held.{Rooted, Sound, code_of, table_of}
use Rattle.bch.specs.declared.code.Held.{Held}
use Rattle.bch.specs.declared.tables.TheConstants.{TABLE1}
use Rattle.bch.proofs.Entries.{rule1, table_fits, tabled}
use Rattle.bch.proofs.Generators.{rooted1}
use Rattle.bch.proofs.Sounds.{sound}
use Rattle.remainders.proofs.Leftovers.{sound_narrowed}
use Rattle.decoder.specs.Candidates.{Ready}
use Rattle.decoder.proofs.PackedWords.{ready}

-- the table may be any that meets the rule: `bch::register::table` makes one for every generator
pub ready_lent : {h : Held} → Sound h → (table : List ℕ) → ((j : ℕ) → get_or table j 0 < 2 ^ 64) → Remainders (whole h.generator) table → Ready h table
ready_lent {h} met table fit rule = record {
  sound = met;
  rule = sound_narrowed h met.rooted.order met.narrow met.exact table fit rule;
}

-- ---- a sound code that has no number: the generator and the places of code 1, to mend 3

abbrev pub to_mend : ℕ → Held
to_mend t = record { n = 508; k = 472; t = t; generator = record { high = 0xcc2b989a10000000; mid = 0; low = 0 } }

rooted_fewer : (t : ℕ) → t ≤ 4 → Rooted (code_of (to_mend t))
rooted_fewer t few = record {
  order = rooted1.order;
  places = rooted1.places;
  degree = rooted1.degree;
  roots = λ j above low. rooted1.roots j above (omega (arith, low, few));
}

pub sound_3 : Sound (to_mend 3)
sound_3 = sound (to_mend 3) (rooted_fewer 3 (lit≤ tt)) tt tt tt tt tt

fits_1 : (j : ℕ) → get_or TABLE1 j 0 < 2 ^ 64
unfolding table_of
fits_1 = table_fits (to_mend 4)

-- so the functions stand over it, with the table of code 1 lent
pub ready_3 : Ready (to_mend 3) TABLE1
ready_3 = ready_lent sound_3 TABLE1 fits_1 rule1

-- but not with the table that `Held::table` gives for it, which is that of another generator
pub unready_3 : Ready (to_mend 3) (table_of (to_mend 3)) → ⊥
unfolding table_of remainder remainder_from step reduced digits
unready_3 ready = yes_eqb (ready.rule.at 1 (lit< tt))

-- so it is not the code of a number
pub unnumbered_3 : (number : ℕ) → named number ≡ known (code_of (to_mend 3)) → ⊥
unnumbered_3 number e = unready_3 (ready sound_3 (tabled number (to_mend 3) sound_3 e))
