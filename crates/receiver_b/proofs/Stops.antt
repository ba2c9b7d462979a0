-- A stream that is stopped by a refusal, and the index at which 7 or 8 stops it.
-- Assumes nothing.
use mathlib.Core.Path.{◌≡◌, ap, ◌∙◌}
use mathlib.Core.List.{List, [], ◌++◌}
use Prim.Native.Nat.{ℕ, ◌<◌}
use native.Mathlib.Omega.{arith}
use borrow.Author.Tests.{ltb-true}
use lib.Dec.{ltb}
use lib.IntN.{ℤ}
use lib.ListN.{drop, replicate}
use Rattle.answers.specs.Answers.{refused, because, of_received_b, ReceivedB}
use Rattle.answers.specs.Checks.{Checked, fails, passes}
use Rattle.answers.specs.declared.Refusal.{Refusal}
use Rattle.answers.proofs.Telling.{by_test}
use Rattle.symbols.specs.Grids.{received, first_occupied}
use Rattle.symbols.specs.Schemes.{repeated, stray_in}
use Rattle.symbols.proofs.Indices.{index_lt}
use Rattle.payload_b.specs.PromiseB.{points_checked_b}
use Rattle.payload_b.specs.StreamB.{with_scheme, moving, stopped, Stops}
use Rattle.payload_b.specs.declared.stream.Moving.{Moving}
use Rattle.std.specs.Prelude.{Err}

-- what is told, and what is left in state and area
pub stops : {scheme : List ℕ} {s s' : Moving} {area area' : List ℕ} {answer : ReceivedB} {number place : ℕ} (why : Refusal) → because why ≡ refused number place
    → (answer ≡ Err why) × (s' ≡ moving (stopped why (with_scheme [] s))) × (area' ≡ replicate s.size 0 ++ drop s.size area)
    → Stops number place (with_scheme scheme s) area answer (with_scheme scheme s') area'
stops {scheme} why told e =
    record { why = why; told = told; tells = ap of_received_b e.0 ∙ told; state = ap (with_scheme scheme) e.1; left = e.2 }

-- the index that a check tells
abbrev pub index : Checked Unit → ℕ
index (fails number at) = at
index (passes _) = 0

-- that of 7 and 8 in one OFDM symbol is one of its 256
pub index_few : (scheme : List ℕ) (is qs : List ℤ) → index (points_checked_b 1 scheme is qs) < 256
index_few scheme is qs =
    let occupied = first_occupied is qs 0 256 in
    let stray = stray_in (repeated 1 scheme) (received 1 is qs) in
    by_test (λ k. index k < 256) (ltb occupied 256) (ltb-true occupied 256)
    (λ free. by_test (λ k. index k < 256) (ltb stray 210) (λ l. index_lt 1 stray (ltb-true stray 210 l)) (λ none. omega arith))
