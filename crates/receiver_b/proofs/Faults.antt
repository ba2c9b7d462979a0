-- Checks 7 and 8 by the first fault of the points: what they say, and that no point is stray where there is none.
-- Assumes nothing.
use mathlib.Core.Path.{◌≡◌, sym, ap, ◌∙◌}
use mathlib.Core.Bool.{true}
use mathlib.Core.List.{List}
use Prim.Native.Nat.{ℕ, ◌*◌, ◌≤◌}
use borrow.Author.Tests.{eq-eqb, le-leb}
use lib.IntN.{ℤ}
use lib.ListN.{length}
use Rattle.std.specs.Prelude.{Result, Ok, Err}
use Rattle.answers.specs.Checks.{Checked, fails, passes}
use Rattle.symbols.specs.Grids.{received}
use Rattle.symbols.specs.Schemes.{Scheme, bad_entry, repeated, stray_in}
use Rattle.symbols.specs.Faults.{fault_at}
use Rattle.symbols.specs.ByScheme.{readable, fault_in}
use Rattle.symbols.proofs.Faults.{fault_made, fault_clear}
use Rattle.payload_b.specs.PromiseB.{points_checked_b}
use Rattle.symbols.specs.declared.Fault.{Fault}
use Rattle.symbols.specs.declared.Fault.TheVariants.{Occupied, StrayPoint}
use Rattle.receiver_b.specs.Steps.{no_fault}

-- m OFDM symbols can be looked at
pub is_readable : {scheme : List ℕ} → Scheme scheme → (m : ℕ) → m ≤ 256 → (is qs : List ℤ) → 256 * m ≤ length is → 256 * m ≤ length qs
    → readable m scheme is qs ≡ true
is_readable {scheme} good m few is qs li lq =
    rw (
      eq-eqb (length scheme) 210 good.long,
      eq-eqb (bad_entry scheme) 210 good.entries,
      le-leb m 256 few,
      le-leb (256 * m) (length is) li,
      le-leb (256 * m) (length qs) lq,
    )

-- what both checks say of a fault
abbrev pub says : Result Unit Fault → Checked Unit
says (Ok none) = passes tt
says (Err (Occupied at)) = fails 7 at
says (Err (StrayPoint at)) = fails 8 at

-- of that which is found first
module _ {scheme : List ℕ} (good : Scheme scheme) (m : ℕ) (few : m ≤ 256) (is qs : List ℤ) (li : 256 * m ≤ length is) (lq : 256 * m ≤ length qs) where
  abbrev stray_first : ℕ
  stray_first = stray_in (repeated m scheme) (received m is qs)

  looked_at : {f : Result Unit Fault} → f ≡ fault_in m scheme is qs → f ≡ fault_at stray_first m is qs
  looked_at e = rw (is_readable good m few is qs li lq) at e

  pub fault_says : {f : Result Unit Fault} → f ≡ fault_in m scheme is qs → points_checked_b m scheme is qs ≡ says f
  fault_says e = fault_made stray_first m is qs says ∙ sym (ap says (looked_at e))

  pub none_stray : no_fault ≡ fault_in m scheme is qs → 210 * m ≤ stray_first
  none_stray e = fault_clear stray_first m is qs (looked_at e)
