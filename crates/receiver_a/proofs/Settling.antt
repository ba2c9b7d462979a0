-- The answer for a frame that was delivered, or not: uncoded, by the 784 bits received; coded, by the codewords within 16 of its two blocks.
-- Assumes nothing.
use mathlib.Core.Path.{◌≡◌, refl, sym, ap, ap₂, ◌∙◌}
use mathlib.Core.List.{List, [], ◌++◌}
use mathlib.Core.Logic.{inl, inr}
use Prim.Native.Nat.{ℕ, ◌+◌, ◌≤◌, max}
use native.Mathlib.Omega.{arith}
use lib.ListN.{length, take, drop, length-append, take-append-drop}
use lib.Seq.{take_at, drop_at, length-take-le}
use Rattle.answers.specs.Answers.{listed, ToldWord, accepted_burst, no_burst, Decoded, counted_a}
use Rattle.answers.specs.declared.Refusal.{Refusal}
use Rattle.answers.specs.declared.Refusal.TheVariants.{Uncorrectable}
use Rattle.answers.specs.declared.DecodedWord.{DecodedWord}
use Rattle.bits.specs.Words.{Bits, differ}
use Rattle.bits.specs.Places.{places}
use Rattle.bits.proofs.Digits.{bits_take, bits_drop, bits_append}
use Rattle.bits.proofs.Distances.{differ_self, differ-append}
use Rattle.bits.proofs.Placing.{places_self}
use Rattle.bch.specs.Codes.{code3, encoded, Within}
use Rattle.bch.specs.Promise.{Decoding}
use Rattle.bch.proofs.Codewords.{by_answer, told}
use Rattle.payload.specs.Wire.{block_at, count_at, worst_of, Fits, Mendable}
use Rattle.payload.proofs.Wires.{fits_clean}
use Rattle.payload.proofs.LineQuality.{worst_two, worst_self}
use Rattle.payload_a.specs.Segments.{row_bits}
use Rattle.payload_a.specs.CodedA.{information, blocks_a, coded_a}
use Rattle.payload_a.specs.PromiseA.{wire_a, Answered}
use Rattle.payload_a.proofs.Coding.{bits_information, first_long, second_long, coded_uncoded, fits_uncoded}
use Rattle.payload_a.proofs.Coding.{first_block, second_block, covered, each_block, block_0, block_1}
use Rattle.std.specs.Prelude.{Result, Ok, Err}
use Rattle.receiver_a.specs.Steps.{Pair, Delivered, Mends}

-- ---- two words of n bits, one behind the other

module _ {n : ℕ} {a b : List ℕ} (pair : Pair n a b) where
  pub both_long : length (a ++ b) ≡ n + n
  both_long = length-append a b ∙ ap₂ ◌+◌ pair.first_long pair.second_long

  pub both_bits : Bits (a ++ b)
  both_bits = bits_append a b pair.first_bits pair.second_bits

-- ---- where nothing is written the area is as it was

kept : {part : List ℕ} (n : ℕ) (area : List ℕ) → part ≡ take n area → part ++ drop n area ≡ area
kept n area e = ap (λ (p : List ℕ). p ++ drop n area) e ∙ take-append-drop n area

-- ---- an uncoded frame

-- where the bits sent are those received, none is mended
clean : (u : ℕ) (v w : List ℕ) → v ≡ w
    → accepted_burst 0 u 0 [] []
    ≡ accepted_burst (differ v w) u (worst_of row_bits 2 v w) (places (block_at row_bits 0 v) (block_at row_bits 0 w))
    (places (block_at row_bits 1 v) (block_at row_bits 1 w))
clean u v w e = rw (e, differ_self w, worst_self row_bits 2 w, places_self (block_at row_bits 0 w), places_self (block_at row_bits 1 w))

module _ (w area : List ℕ) (u : ℕ) (part : List ℕ) (room : 94 ≤ length area) where
  pub uncoded_right : Delivered w (take 94 area) (Ok tt) part
      → Answered 0 w u area (record { answer = counted_a 0 u 0; first = listed []; second = listed [] }) (part ++ drop 94 area)
  uncoded_right (l, bytes, sent) =
      let e : coded_a 0 part ≡ w = coded_uncoded part ∙ sent in
      inl (record {
        frame = part;
        fits = rw e at (fits_clean (wire_a 0) part (l ∙ length-take-le 94 area room) bytes);
        tells = clean u (coded_a 0 part) w e;
        left = refl;
      })

  pub uncoded_wrong : {why : Refusal} → length w ≡ 784 → Delivered w (take 94 area) (Err why) part → Answered 0 w u area (no_burst why) (part ++ drop 94 area)
  uncoded_wrong long (wrong, same, none) =
      rw wrong (inr (inr (record {
        each = λ e. absurd (omega arith);
        none = λ frame fits. none frame (fits.long ∙ sym (length-take-le 94 area room)) (fits_uncoded w frame long fits);
        tells = refl;
        left = kept 94 area same;
      })))

-- ---- a row that decode mends, or not

-- what is told of it, by what decode answers
abbrev of_decoded : ℕ → List ℕ → Decoded → Result (ℕ × List ℕ) Refusal
of_decoded number places (Ok n) = Ok (n, places)
of_decoded number places (Err why) = Err (Uncorrectable number)

pub row_mended : (number : ℕ) (row out after : List ℕ) (answer : DecodedWord) → Bits row → length row ≡ row_bits → length out ≡ row_bits
    → Decoding 3 row out answer after → Mends number row (of_decoded number answer.places answer.answer) after
row_mended number row out after answer bits long room =
    by_answer 3 refl row out answer after bits long (omega arith) (λ (d : Decoded). Mends number row (of_decoded number answer.places d) after)
    (λ h. let e = h.left ∙ covered h.codeword out room in rw e (h.within, refl, ap (λ (t : ToldWord). t.places) h.tells))
    (λ h r. (refl, h.none))

-- ---- a coded frame

module _ {a b : List ℕ} (rows : Pair row_bits a b) (area : List ℕ) (u : ℕ) where
  first_is : block_at row_bits 0 (a ++ b) ≡ a
  first_is = first_block a b rows.first_long

  second_is : block_at row_bits 1 (a ++ b) ≡ b
  second_is = second_block a b rows.first_long rows.second_long

  -- no codeword within 16 of the first block
  pub first_hopeless : ((v : List ℕ) → Within code3 a v → ⊥) → Answered 1 (a ++ b) u area (no_burst (Uncorrectable 0)) area
  first_hopeless none = inr (inl (record {
    coded = refl;
    block = 0;
    hopeless = record { one = omega arith; none = λ m. none m.0 (rw first_is at m.1); before = λ b l. absurd (omega arith) };
    tells = refl;
    left = refl;
  }))

  module _ {v : List ℕ} (hv : Within code3 a v) where
    first_mendable : Mendable code3 0 (a ++ b)
    first_mendable = (v, rw first_is hv)

    -- of the second block only
    pub second_hopeless : ((w : List ℕ) → Within code3 b w → ⊥) → Answered 1 (a ++ b) u area (no_burst (Uncorrectable 1)) area
    second_hopeless none = inr (inl (record {
      coded = refl;
      block = 1;
      hopeless = record {
        one = omega arith;
        none = λ m. none m.0 (rw second_is at m.1);
        before = λ block l. let e : block ≡ 0 = omega arith in rw e first_mendable;
      };
      tells = refl;
      left = refl;
    }))

    module _ {w : List ℕ} (hw : Within code3 b w) where
      -- the information of both codewords
      pub informing : Pair 248 (take 248 v) (take 248 w)
      informing = record {
        first_long = length-take-le 248 v (omega (arith, hv.codeword.long));
        second_long = length-take-le 248 w (omega (arith, hw.codeword.long));
        first_bits = bits_take 248 v hv.codeword.bits;
        second_bits = bits_take 248 w hw.codeword.bits;
      }

      -- a frame with their information is sent as these two codewords
      rebuilt : (frame : List ℕ) → information frame ≡ take 248 v ++ take 248 w → coded_a 1 frame ≡ v ++ w
      unfolding coded_a blocks_a
      rebuilt frame e =
          let l = informing.first_long in
          rw (e, take_at (take 248 v) (take 248 w) 248 l, drop_at (take 248 v) (take 248 w) 248 l)
          (ap₂ ◌++◌ (sym hv.codeword.made) (sym hw.codeword.made))

      -- a frame that fits has their information
      carries : (frame : List ℕ) → Fits (wire_a 1) (a ++ b) frame → information frame ≡ take 248 v ++ take 248 w
      carries frame fits =
          let s = information frame in
          let near_first : differ (encoded code3 (take 248 s)) a ≤ 16 = rw (block_0 0 frame fits.long, first_is) at (fits.near 0 (omega arith)) in
          let near_second : differ (encoded code3 (drop 248 s)) b ≤ 16 = rw (block_1 0 frame fits.long, second_is) at (fits.near 1 (omega arith)) in
          let x = told 3 refl rows.first_long hv (take 248 s) (bits_take 248 s (bits_information frame)) (first_long frame fits.long) near_first in
          let y = told 3 refl rows.second_long hw (drop 248 s) (bits_drop 248 s (bits_information frame)) (second_long frame fits.long) near_second in
          sym (take-append-drop 248 s) ∙ ap₂ ◌++◌ x y

      -- what it tells, for the bits that are sent
      telling : (m k : ℕ) → m ≡ differ v a + differ w b → k ≡ max (differ v a) (differ w b) → (sent : List ℕ) → sent ≡ v ++ w
          → accepted_burst m u k (places v a) (places w b)
          ≡ accepted_burst (differ sent (a ++ b)) u (worst_of row_bits 2 sent (a ++ b)) (places (block_at row_bits 0 sent) (block_at row_bits 0 (a ++ b)))
          (places (block_at row_bits 1 sent) (block_at row_bits 1 (a ++ b)))
      telling m k em ek sent made =
          let lv = hv.codeword.long in
          rw (
            made,
            worst_two row_bits (v ++ w) (a ++ b),
            first_block v w lv,
            second_block v w lv hw.codeword.long,
            first_is,
            second_is,
            em,
            ek,
            differ-append v a w b (lv ∙ sym rows.first_long),
          )

      module _ (part : List ℕ) (room : 58 ≤ length area) where
        pub coded_right : (m k : ℕ) (first second : List ℕ) → m ≡ differ v a + differ w b → k ≡ max (differ v a) (differ w b)
            → first ≡ listed (places v a) → second ≡ listed (places w b) → Delivered (take 248 v ++ take 248 w) (take 58 area) (Ok tt) part
            → Answered 1 (a ++ b) u area (record { answer = counted_a m u k; first = first; second = second }) (part ++ drop 58 area)
        coded_right m k first second em ek ef es (l, bytes, sent) =
            let made = rebuilt part sent in
            let lv = hv.codeword.long in
            inl (record {
              frame = part;
              fits = record {
                long = l ∙ length-take-le 58 area room;
                bytes = bytes;
                near = each_block (λ block. count_at row_bits block (coded_a 1 part) (a ++ b) ≤ 16)
                    (rw (made, first_block v w lv, first_is) hv.near) (rw (made, second_block v w lv hw.codeword.long, second_is) hw.near);
              };
              tells = rw (ef, es) (telling m k em ek (coded_a 1 part) made);
              left = refl;
            })

        pub coded_wrong : {why : Refusal} → Delivered (take 248 v ++ take 248 w) (take 58 area) (Err why) part
            → Answered 1 (a ++ b) u area (no_burst why) (part ++ drop 58 area)
        coded_wrong (wrong, same, none) =
            rw wrong (inr (inr (record {
              each = λ _. each_block (λ block. Mendable code3 block (a ++ b)) first_mendable (w, rw second_is hw);
              none = λ frame fits. none frame (fits.long ∙ sym (length-take-le 58 area room)) (carries frame fits);
              tells = refl;
              left = kept 58 area same;
            })))
