-- Receiving Payload B uncoded: bytes that are written from the bits that wait are so many blocks, of which no bit is mended.
-- Assumes nothing.
use mathlib.Core.Path.{◌≡◌, refl, sym, ap, ◌∙◌}
use mathlib.Core.List.{List, [], ◌∷◌, ◌++◌, append-nil, append_assoc}
use Prim.Native.Nat.{ℕ, ◌+◌, ◌-◌, ◌*◌, ◌/◌, ◌≤◌, ◌<◌, min}
use native.Mathlib.Nat.{add-zero, max-zero}
use native.Mathlib.Omega.{arith}
use borrow.Rule.Slice.PartMut.{put_mid, post_of}
use lib.ListN.{length, take}
use lib.Seq.{append_snoc}
use Rattle.bits.specs.Bytes.{Bytes, bits_of}
use Rattle.bits.proofs.Distances.{differ_self}
use Rattle.bits.proofs.Octets.{length-bits_of, bits_of-append}
use Rattle.packed.specs.Packed.{bits_from}
use Rattle.payload.specs.Scrambler.{scrambled_from, register_after}
use Rattle.payload.proofs.Scrambling.{length_scrambled, scrambled_again, scrambled_append, register_more}
use Rattle.payload_b.proofs.Blocks.{block_uncoded}
use Rattle.receiver_b.specs.Steps.{Writes, Done, Wanted, Clears}
use Rattle.receiver_b.specs.declared.stream.Tally.{Tally}
use Rattle.packed.proofs.Fronts.{same_front}
use Rattle.receiver_b.proofs.Progress.{done_more}
use Rattle.receiver_b.proofs.Closing.{closed, moves_closed}

-- ---- bytes that are done

-- one
module _ (register y : ℕ) where
  -- its bits as they are sent
  abbrev eight : List ℕ
  eight = scrambled_from register (bits_of (y ∷ []))

  eight_long : length eight ≡ 8
  eight_long = length_scrambled register (bits_of (y ∷ [])) ∙ length-bits_of (y ∷ [])

  eight_written : y < 256 → Writes 0 register eight 0 (register_after 8 register) (y ∷ [])
  eight_written h = record {
    long = refl;
    bytes = (h, tt);
    near = omega arith;
    counted = sym (rw (block_uncoded eight) (differ_self eight));
    carried = refl;
  }

-- none
no_bits : (register : ℕ) → scrambled_from register (bits_of []) ≡ []
unfolding bits_of scrambled_from
no_bits register = refl

no_step : (register : ℕ) → register_after 0 register ≡ register
unfolding register_after
no_step register = refl

-- as many as there are
done_bytes : {base : Tally} {d : ℕ} {bits f : List ℕ} {register k worst : ℕ} (ys : List ℕ) → Bytes ys → Done 0 base d bits f register k worst
    → Done 0 base (d + length ys) (bits ++ scrambled_from register (bits_of ys)) (f ++ ys) (register_after (8 * length ys) register) k worst
done_bytes {base} {d} {bits} {f} {register} [] h done = rw (add-zero d, no_bits register, no_step register, append-nil bits, append-nil f) done
done_bytes {base} {d} {bits} {f} {register} {k} {worst} (y ∷ ys) h done =
    let next = register_after 8 register in
    let more : d + 1 + length ys ≡ d + length (y ∷ ys) = omega arith in
    let end : 8 + 8 * length ys ≡ 8 * length (y ∷ ys) = omega arith in
    let front : (bits ++ eight register y) ++ scrambled_from next (bits_of ys) ≡ bits ++ scrambled_from register (bits_of (y ∷ ys))
    = append_assoc bits (eight register y) (scrambled_from next (bits_of ys))
    ∙ ap (λ (w : List ℕ). bits ++ w)
    (sym (ap (scrambled_from register) (bits_of-append (y ∷ []) ys) ∙ scrambled_append register (bits_of (y ∷ [])) (bits_of ys)
    ∙ ap (λ (n : ℕ). eight register y ++ scrambled_from (register_after n register) (bits_of ys)) (length-bits_of (y ∷ [])))) in
    let after : register_after (8 * length ys) next ≡ register_after (8 * length (y ∷ ys)) register
    = sym (register_more 8 (8 * length ys) register) ∙ ap (λ (n : ℕ). register_after n register) end in
    let one = rw (add-zero k, max-zero worst) at (done_more done (eight_written register y h.0) (eight_long register y)) in
    rw (← more, ← front, ← append_snoc f y ys, ← after) (done_bytes {d = d + 1} ys h.1 one)

-- ---- those of a run

-- the bytes of a part of a list
bytes_before : (f g : List ℕ) → Bytes (f ++ g) → Bytes f
bytes_before [] g h = tt
bytes_before (x ∷ f) g h = (h.0, bytes_before f g h.1)

bytes_behind : (f g : List ℕ) → Bytes (f ++ g) → Bytes g
bytes_behind [] g h = h
bytes_behind (x ∷ f) g h = bytes_behind f g h.1

module _ {blocks : ℕ} {area : List ℕ} {s : Tally} (h : Wanted 0 blocks s area) (run : List ℕ) {m : ℕ} (em : m ≡ min (s.count / 8) (blocks - s.done))
    (out : List ℕ) (long : length out ≡ m) (are : bits_of out ≡ scrambled_from s.register (take (8 * m) (bits_from m 0 run))) where
  -- no more than wait, and than there are blocks
  few : (8 * m ≤ s.count) × (s.done + m ≤ blocks)
  few = (omega arith, omega (arith, h.next))

  -- the bits that they are sent for
  sent : scrambled_from s.register (bits_of out) ≡ take (8 * m) (bits_from 41 0 run)
  sent =
      ap (scrambled_from s.register) are ∙ scrambled_again s.register (take (8 * m) (bits_from m 0 run))
      ∙ same_front (8 * m) m 41 run (omega arith) (omega (arith, few.0, h.within))

  -- the tally after them
  abbrev after : Tally
  after = closed (8 * m) m (register_after (8 * m) s.register) s.mended s.worst s

  -- the area with them
  abbrev put : List ℕ
  put = put_mid s.done (s.done + m - s.done) area out

  -- they are so many blocks more of the frame
  pub takes_bytes : Bytes put → Clears 0 blocks area (bits_from 41 0 run) s put after
  takes_bytes all_bytes =
      let held = bits_from 41 0 run in
      let at = s.done in
      let k = at + m - at in
      let bytes = bytes_before out (post_of at k area) (bytes_behind (take at area) (out ++ post_of at k area) all_bytes) in
      let all : s.count - (s.count - 8 * m) ≡ 8 * m = omega (arith, few.0) in
      let moves = moves_closed 0 blocks area held s h.next (8 * m) few.0 m at (at + m) (omega arith) (omega arith)
      (omega (arith, few.1, h.room)) out (long ∙ omega arith) (λ base k bits f d. rw (sent, long) at (done_bytes out bytes d)) in (
        record {
          fewer = omega arith;
          counts = record { few = few.1; mended = omega (arith, h.counts.mended) };
          moves = rw all moves;
        },
        λ next. omega (arith, em, next),
      )
