-- The promise of Payload A leaves one answer and one memory, for every mode, frame, grid and lent list.
-- Assumes nothing.
use mathlib.Core.Path.{◌≡◌, refl}
use mathlib.Core.Logic.{inl, inr}
use mathlib.Core.List.{List}
use Prim.Native.Nat.{ℕ}
use lib.IntN.{ℤ}
use lib.ListN.{length}
use Rattle.answers.specs.Checks.{Checked, fails, passes}
use Rattle.answers.specs.declared.ReceivedBurst.{ReceivedBurst}
use Rattle.answers.proofs.Telling.{written_same, burst_same}
use Rattle.bch.specs.Codes.{code3}
use Rattle.points.specs.Dqpsk.{dibits}
use Rattle.symbols.specs.Grids.{received}
use Rattle.payload.specs.Wire.{Fits}
use Rattle.payload.proofs.Wires.{fits_hopeless, one_hopeless}
use Rattle.payload_a.specs.Segments.{carried, protected_differing}
use Rattle.payload_a.specs.PromiseA.{send_checked, Sends, SendingA, receive_checked, wire_a, Hopeless, Answered, Receives, ReceivingA}
use Rattle.payload_a.proofs.Coding.{block_codeword}
use Rattle.payload_a.proofs.Framing.{length-carried}
use Rattle.payload_a.proofs.Turnings.{length_read}
use Rattle.payload_a.proofs.UniqueA.{fits_once}
use Rattle.answers.specs.Answers.{Written}

-- ---- send

module _ (mode : ℕ) (frame : List ℕ) (is qs : List ℤ) (a b : Written) (is1 qs1 is2 qs2 : List ℤ) where
  one_sent : (k : Checked Unit) → Sends k mode frame is qs a is1 qs1 → Sends k mode frame is qs b is2 qs2 → (a ≡ b) × (is1 ≡ is2) × (qs1 ≡ qs2)
  one_sent (fails number place) p q = (written_same a b (cc), cc, cc)
  one_sent (passes _) p q = (written_same a b (cc), cc, cc)

  pub send_a_once : SendingA mode frame is qs a is1 qs1 → SendingA mode frame is qs b is2 qs2 → (a ≡ b) × (is1 ≡ is2) × (qs1 ≡ qs2)
  send_a_once = one_sent (send_checked mode frame is qs)

-- ---- receive

-- where a frame fits, no block is hopeless
not_hopeless : {mode : ℕ} {bits area frame after : List ℕ} {answer : ReceivedBurst} → Fits (wire_a mode) bits frame → Hopeless mode bits area answer after → ⊥
not_hopeless {mode} {bits} {area} {frame} fits p =
    fits_hopeless (wire_a 1) code3 refl refl (λ f l b. block_codeword 0 f l b) bits frame (rw p.coded at fits) p.block p.hopeless

module _ (area : List ℕ) (a b : ReceivedBurst) (u v : List ℕ) where
  module _ (mode : ℕ) (bits : List ℕ) (long : length bits ≡ 784) (differing : ℕ) where
    answered_same : Answered mode bits differing area a u → Answered mode bits differing area b v → (a ≡ b) × (u ≡ v)
    answered_same (inl p) (inl q) = let same = fits_once bits long p.frame q.frame mode p.fits q.fits in (burst_same a b (cc), cc)
    answered_same (inl p) (inr (inl q)) = absurd (not_hopeless p.fits q)
    answered_same (inl p) (inr (inr q)) = absurd (q.none p.frame p.fits)
    answered_same (inr (inl p)) (inl q) = absurd (not_hopeless q.fits p)
    answered_same (inr (inl p)) (inr (inl q)) =
        let same = one_hopeless code3 2 bits p.block q.block p.hopeless q.hopeless in (burst_same a b (cc), cc)
    answered_same (inr (inl p)) (inr (inr q)) = absurd (p.hopeless.none (q.each p.coded p.block p.hopeless.one))
    answered_same (inr (inr p)) (inl q) = absurd (p.none q.frame q.fits)
    answered_same (inr (inr p)) (inr (inl q)) = absurd (q.hopeless.none (p.each q.coded q.block q.hopeless.one))
    answered_same (inr (inr p)) (inr (inr q)) = (burst_same a b (cc), cc)

  one_received : (k : Checked Unit) (mode : ℕ) (bits : List ℕ) → length bits ≡ 840 → Receives k mode bits area a u → Receives k mode bits area b v
      → (a ≡ b) × (u ≡ v)
  one_received (fails number place) mode bits long p q = (burst_same a b (cc), cc)
  one_received (passes _) mode bits long p q = answered_same mode (carried bits) (length-carried bits long) (protected_differing bits) p q

  pub receive_a_once : (mode : ℕ) (is qs : List ℤ) → ReceivingA mode is qs area a u → ReceivingA mode is qs area b v → (a ≡ b) × (u ≡ v)
  receive_a_once mode is qs = one_received (receive_checked mode is qs area) mode (dibits (received 2 is qs)) (length_read is qs)
