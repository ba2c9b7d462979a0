-- Payload A as received: the bits of two OFDM symbols without a stray point, read one after the other, are those of the burst.
-- Assumes nothing.
use mathlib.Core.Path.{◌≡◌, sym, ap, ap₂, ◌∙◌}
use mathlib.Core.Bool.{true}
use mathlib.Core.List.{List, ◌++◌, map, map-append}
use Prim.Native.Nat.{ℕ, ◌≤◌}
use native.Mathlib.Omega.{arith}
use lib.IntN.{ℤ}
use lib.ListN.{length, take, drop, length-drop}
use lib.Seq.{length-take-le, take_at, drop_at}
use Rattle.bits.specs.Words.{Bits}
use Rattle.bits.proofs.Digits.{bits_take, bits_drop}
use Rattle.payload_a.specs.Segments.{symbol_bits}
use Rattle.points.specs.declared.Point.{Point}
use Rattle.points.specs.Dqpsk.{dibits, stray_at}
use Rattle.points.proofs.Turns.{dibits_bits_from}
use Rattle.symbols.specs.Grids.{points_from, received, room}
use Rattle.symbols.specs.ByPhase.{phases_read, dibits_between, last_of, bits_read, last_read}
use Rattle.symbols.specs.declared.phases.Reading.{Reading}
use Rattle.symbols.proofs.Rooms.{room_enough}
use Rattle.symbols.proofs.Readings.{received-one, received-add, points_take}
use Rattle.symbols.proofs.Dibits.{read_as, length_phases, length_between, between_append, legal_dibits}
use Rattle.receiver_a.specs.Steps.{Pair}

-- what reading an OFDM symbol gives
abbrev Reads : ℕ → List ℤ → List ℤ → Reading → Type 0
Reads phase is qs r = (r.bits ≡ bits_read phase is qs) × (r.last ≡ last_read phase is qs)

-- and that of 256 elements of longer lists
module _ (is qs : List ℤ) (li : 256 ≤ length is) (lq : 256 ≤ length qs) where
  roomy : room 256 (take 256 is) (take 256 qs) ≡ true
  roomy =
      let i = length-take-le 256 is li in
      let q = length-take-le 256 qs lq in
      sym (room_enough 256 (take 256 is) (take 256 qs) (omega arith) (omega arith))

  phases_take : phases_read (take 256 is) (take 256 qs) ≡ phases_read is qs
  unfolding phases_read
  phases_take = ap (map read_as) (points_take is qs)

  reads_part : (phase : ℕ) {r : Reading} → Reads phase (take 256 is) (take 256 qs) r
      → (r.bits ≡ dibits_between phase (phases_read is qs)) × (r.last ≡ last_of phase (phases_read is qs))
  reads_part phase reads = rw (roomy, phases_take) at reads

-- the points of one OFDM symbol
abbrev symbol : List ℤ → List ℤ → List Point
symbol is qs = points_from is qs 1 210

received_two : (is qs : List ℤ) → received 2 is qs ≡ symbol is qs ++ symbol (drop 256 is) (drop 256 qs)
received_two is qs = received-add 1 1 is qs ∙ ap₂ ◌++◌ (received-one is qs) (received-one (drop 256 is) (drop 256 qs))

phases_two : (is qs : List ℤ) → phases_read is qs ++ phases_read (drop 256 is) (drop 256 qs) ≡ map read_as (received 2 is qs)
unfolding phases_read
phases_two is qs = rw (received_two is qs) (sym (map-append read_as (symbol is qs) (symbol (drop 256 is) (drop 256 qs))))

-- the bits of 210 phases
length_bits : (phase : ℕ) (is qs : List ℤ) → length (dibits_between phase (phases_read is qs)) ≡ 420
length_bits phase is qs = length_between phase (phases_read is qs) ∙ omega (arith, length_phases is qs)

-- the two of a burst
module _ (is qs : List ℤ) (li : 512 ≤ length is) (lq : 512 ≤ length qs) (legal : stray_at (received 2 is qs) ≡ length (received 2 is qs))
    {first second : Reading} (begun : Reads 0 (take 256 is) (take 256 qs) first)
    (on : Reads first.last (take 256 (drop 256 is)) (take 256 (drop 256 qs)) second) where
  one : (first.bits ≡ dibits_between 0 (phases_read is qs)) × (first.last ≡ last_of 0 (phases_read is qs))
  one = reads_part is qs (omega arith) (omega arith) 0 begun

  two : second.bits ≡ dibits_between first.last (phases_read (drop 256 is) (drop 256 qs))
  two = (reads_part (drop 256 is) (drop 256 qs) (simp length-drop (omega arith)) (simp length-drop (omega arith)) first.last on).0

  pub burst_read : first.bits ++ second.bits ≡ dibits (received 2 is qs)
  unfolding dibits
  burst_read =
      rw (one.0, two, one.1, ← between_append 0 (phases_read is qs) (phases_read (drop 256 is) (drop 256 qs)), phases_two is qs) (legal_dibits 0 (received 2 is qs) legal)

  bits : Bits (first.bits ++ second.bits)
  unfolding dibits
  bits = rw burst_read (dibits_bits_from (received 2 is qs) 0)

  pub burst_pair : Pair symbol_bits first.bits second.bits
  burst_pair =
      let first_long = ap length one.0 ∙ length_bits 0 is qs in
      record {
        first_long = first_long;
        second_long = ap length two ∙ length_bits first.last (drop 256 is) (drop 256 qs);
        first_bits = rw (take_at first.bits second.bits 420 first_long) at (bits_take 420 (first.bits ++ second.bits) bits);
        second_bits = rw (drop_at first.bits second.bits 420 first_long) at (bits_drop 420 (first.bits ++ second.bits) bits);
      }
