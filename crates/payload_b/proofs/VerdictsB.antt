-- The checks of Payload B where one of `planned` fails, and where all pass: what is then said of `receive_checked_b` and `points_checked_b`.
-- Assumes nothing.
use mathlib.Core.Path.{◌≡◌}
use mathlib.Core.Bool.{true}
use mathlib.Core.List.{List}
use Prim.Native.Nat.{ℕ, ◌*◌, ◌≤◌}
use borrow.Author.Tests.{le-leb, le-ltb}
use lib.IntN.{ℤ}
use lib.ListN.{length}
use Rattle.symbols.specs.Grids.{received, first_occupied}
use Rattle.payload_b.specs.CodedB.{symbols_for}
use Rattle.symbols.specs.Schemes.{repeated, stray_in}
use Rattle.answers.specs.Checks.{Checked, passes, failing}
use Rattle.symbols.specs.Grids.{room}
use Rattle.answers.specs.declared.Refusal.{Refusal}
use Rattle.payload_b.specs.PromiseB.{planned, points_checked_b, receive_checked_b}
use Rattle.payload_b.specs.PlanB.{Sendable}
use Rattle.payload_b.proofs.Plans.{plan_passes}

-- one of the checks 1, 2, 5 and 6 fails, whatever checks follow
pub plan_fails : (P : Checked Unit → Type 0) (mode n : ℕ) (scheme : List ℕ) (why : Refusal)
    → ((next : Checked Unit) → planned mode n scheme next ≡ failing why) → P (failing why) → (next : Checked Unit) → P (planned mode n scheme next)
plan_fails P mode n scheme why e p next = rw (e next) p

-- they pass, and so does 3
pub receivable : (P : Checked Unit → Type 0) {mode n : ℕ} {scheme : List ℕ} → Sendable mode n scheme → (is qs : List ℤ) (area : List ℕ)
    → true ≡ room (256 * symbols_for mode n scheme) is qs → n ≤ length area
    → P (points_checked_b (symbols_for mode n scheme) scheme is qs) → P (receive_checked_b mode n scheme is qs area)
receivable P {mode} {n} {scheme} plan is qs area points l p = rw (plan_passes plan, ← points, le-leb n (length area) l) p

-- the checks 7 and 8 pass
pub legal : (P : Checked Unit → Type 0) (m : ℕ) (scheme : List ℕ) (is qs : List ℤ) → 256 * m ≤ first_occupied is qs 0 (256 * m)
    → 210 * m ≤ stray_in (repeated m scheme) (received m is qs) → P (passes tt) → P (points_checked_b m scheme is qs)
legal P m scheme is qs empty l p =
    rw (le-ltb (first_occupied is qs 0 (256 * m)) (256 * m) empty, le-ltb (stray_in (repeated m scheme) (received m is qs)) (210 * m) l) p
