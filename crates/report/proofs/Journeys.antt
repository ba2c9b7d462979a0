-- A frame sent and received back: refused by the sender for its length alone, and else answered with no bit mended and none that differs.
-- Assumes nothing.
use mathlib.Core.Path.{◌≡◌, sym, ap, ◌∙◌}
use mathlib.Core.Bool.{Bool, true, false, cond}
use mathlib.Core.List.{List}
use Prim.Native.Nat.{ℕ, ◌≤◌, ◌<◌}
use native.Mathlib.Decide.{ℕ_discrete}
use native.Mathlib.Omega.{arith}
use borrow.Author.Tests.{eq-eqb, ne_eqb}
use lib.Dec.{eqb}
use lib.IntN.{ℤ}
use lib.ListN.{length, get_or}
use Rattle.answers.specs.Answers.{accepted, refused, of_written, of_received_a, Written}
use Rattle.answers.specs.declared.Told.{Told}
use Rattle.answers.specs.declared.ReceivedBurst.{ReceivedBurst}
use Rattle.bits.proofs.Octets.{bytes_from}
use Rattle.symbols.proofs.Rooms.{room_enough}
use Rattle.payload_a.specs.CodedA.{bytes_a}
use Rattle.payload_a.specs.PromiseA.{elements_a, Sends, SendingA, ReceivingA}
use Rattle.payload_a.proofs.TripsA.{round_trip}
use Rattle.payload_a.proofs.VerdictsA.{wrong_length, sendable}
use Rattle.report.specs.Made.{trip_of}

-- the longest frame
pub longest : (mode : ℕ) → bytes_a mode ≤ 94
longest mode = by (eqb mode 0)
  where
    by : (b : Bool) → cond b 94 58 ≤ 94
    by true = omega arith
    by false = omega arith

module _ (mode : ℕ) (frame : List ℕ) (is qs : List ℤ) (sent : Written) (is' qs' : List ℤ) (known : mode ≤ 1) (long_i : length is ≡ elements_a)
    (long_q : length qs ≡ elements_a) (sending : SendingA mode frame is qs sent is' qs') where
  -- what the sender tells, where it refuses, is what the trip tells
  pub sent_told : of_written sent ≡ trip_of mode (length frame)
  sent_told = by (ℕ_discrete (length frame) (bytes_a mode))
    where
      by : Dec (length frame ≡ bytes_a mode) → of_written sent ≡ trip_of mode (length frame)
      by (yes e) =
          rw (eq-eqb (length frame) (bytes_a mode) e)
          (sendable (λ k. Sends k mode frame is qs sent is' qs' → of_written sent ≡ accepted 0 0 0) mode frame is qs known e
          (room_enough elements_a is qs (omega arith) (omega arith)) (λ p. p.0) sending)
      by (no n) =
          rw (ne_eqb (length frame) (bytes_a mode) n)
          (wrong_length (λ k. Sends k mode frame is qs sent is' qs' → of_written sent ≡ refused 2 0) mode frame is qs known n (λ p. p.0) sending)

  -- and where it does not, what comes back tells it
  pub trip_received : ((i : ℕ) → get_or frame i 0 < 256) → (of_written sent).number ≡ 0 → (area : List ℕ) → bytes_a mode ≤ length area
      → (answer : ReceivedBurst) (after : List ℕ) → ReceivingA mode is' qs' area answer after → of_received_a answer.answer ≡ trip_of mode (length frame)
  trip_received bytes is_sent area roomy answer after receiving = by (ℕ_discrete (length frame) (bytes_a mode))
    where
      by : Dec (length frame ≡ bytes_a mode) → of_received_a answer.answer ≡ trip_of mode (length frame)
      by (yes e) =
          let told : of_written sent ≡ accepted 0 0 0 = sent_told ∙ rw (eq-eqb (length frame) (bytes_a mode) e) in
          rw (eq-eqb (length frame) (bytes_a mode) e)
          (ap (λ (r : ReceivedBurst). of_received_a r.answer)
          (round_trip mode frame is qs sent is' qs' sending told (bytes_from frame bytes) area roomy answer after receiving).0)
      by (no n) =
          let told : of_written sent ≡ refused 2 0 = sent_told ∙ rw (ne_eqb (length frame) (bytes_a mode) n) in
          let z : ◌≡◌ {A = ℕ} 2 0 = ap (λ (t : Told). t.number) (sym told) ∙ is_sent in
          absurd (omega arith)
