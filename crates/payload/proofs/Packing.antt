-- The bits of bytes scrambled and packed, with zeros behind: bytes taken into a machine word one after the other, and machine word after machine word.
-- Assumes nothing.
use mathlib.Core.Path.{◌≡◌, refl, sym, ap, ap₂, ◌∙◌}
use mathlib.Core.List.{List, [], ◌∷◌, ◌++◌, append-nil}
use Prim.Native.Nat.{ℕ, zero, suc, ◌+◌, ◌-◌, ◌*◌, ◌/◌, ◌%◌, ◌^◌, ◌≤◌, ◌<◌, min}
use native.Mathlib.Numerals.{add-one}
use native.Mathlib.Omega.{arith}
use lib.Bits.{bit_or}
use lib.ListN.{length, get_or, set, take, drop, replicate, length-take, length-drop}
use lib.Seq.{take_all, take-suc, length-take-le}
use Rattle.std.specs.Int.{from_be_bytes, w64}
use Rattle.std.specs.Simd.{first_chunks}
use Rattle.bits.specs.Words.{digits}
use Rattle.bits.specs.Bytes.{Bytes, bits_of}
use Rattle.bits.proofs.Shifts.{digits-or, digits_shl}
use Rattle.bits.proofs.Octets.{length-bits_of, bits_of_snoc}
use Rattle.bits.proofs.Sides.{be_bytes_beside, beside-digits}
use Rattle.bits.proofs.Chunks.{run_at}
use Rattle.packed.specs.Packed.{bits_from, bits512, padded_to, padded}
use Rattle.packed.proofs.Paddings.{zeros_at, padded_part, padded_behind}
use Rattle.packed.proofs.Windows.{blank_from}
use Rattle.packed.proofs.Stores.{Over, over_more, over_all}
use Rattle.payload.specs.Scrambler.{scrambled_from, register_after}
use Rattle.payload.proofs.Scrambling.{length_scrambled, scrambled_append, scrambled_take, scrambled_drop}
use Rattle.payload.proofs.Forming.{register_behind}
use Rattle.payload.proofs.Writing.{bits_of-take, bits_of-drop}

bytes_take : (n : ℕ) (f : List ℕ) → Bytes f → Bytes (take n f)
bytes_take zero f h = tt
bytes_take (suc n) [] h = tt
bytes_take (suc n) (x ∷ f) h = (h.0, bytes_take n f h.1)

bytes_drop : (n : ℕ) (f : List ℕ) → Bytes f → Bytes (drop n f)
bytes_drop zero f h = h
bytes_drop (suc n) [] h = tt
bytes_drop (suc n) (x ∷ f) h = bytes_drop n f h.1

-- ---- bytes taken into a machine word

-- j of them, scrambled, and s is the register after them
pub record Gathered (register : ℕ) (bytes : List ℕ) (x s j : ℕ) : Type 0 where
  pub within : j ≤ length bytes
  pub bits : digits (8 * j) x ≡ scrambled_from register (bits_of (take j bytes))
  pub after : s ≡ register_after (8 * j) register

module _ (register : ℕ) (bytes : List ℕ) where
  pub gathered_none : Gathered register bytes 0 register 0
  unfolding digits bits_of scrambled_from register_after
  gathered_none = record { within = omega arith; bits = refl; after = refl }

  pub gathered_more : {x s j : ℕ} (b q : ℕ) → Gathered register bytes x s j → j < length bytes → j < 8 → b < 256
      → digits 8 b ≡ scrambled_from s (digits 8 (get_or bytes j 0)) → q ≡ register_after 8 s → Gathered register bytes (bit_or (x * 2 ^ 8 % 2 ^ 64) b) q (j + 1)
  gathered_more {x} {s} {j} b q g h few low eb eq =
      let first = bits_of (take j bytes) in
      let next = digits 8 (get_or bytes j 0) in
      let sum : 8 * (j + 1) ≡ 8 * j + 8 = omega arith in
      let many : length first ≡ 8 * j = length-bits_of (take j bytes) ∙ ap (λ (n : ℕ). 8 * n) (length-take-le j bytes g.within) in
      let taken : bits_of (take (j + 1) bytes) ≡ first ++ next
      = ap (λ (n : ℕ). bits_of (take n bytes)) (add-one j) ∙ ap bits_of (take-suc bytes j 0 h) ∙ bits_of_snoc (take j bytes) (get_or bytes j 0) in
      let at : s ≡ register_after (length first) register = g.after ∙ ap (λ (n : ℕ). register_after n register) (sym many) in
      record {
        within = omega arith;
        bits = ap (λ (n : ℕ). digits n (bit_or (x * 2 ^ 8 % 2 ^ 64) b)) sum ∙ digits-or (8 * j) 8 x b (omega arith) low
            ∙ ap₂ ◌++◌ g.bits (eb ∙ ap (λ (r : ℕ). scrambled_from r next) at)
            ∙ sym (ap (scrambled_from register) taken ∙ scrambled_append register first next);
        after = register_behind (8 * j) 8 register s q g.after eq ∙ ap (λ (n : ℕ). register_after n register) (sym sum);
      }

  -- all of them, at the high end
  pub gathered_all : {x s j : ℕ} → Gathered register bytes x s j → length bytes ≤ j → length bytes ≤ 8
      → (digits 64 (x * 2 ^ (64 - 8 * length bytes) % 2 ^ 64) ≡ padded_to 64 (scrambled_from register (bits_of bytes)))
      × (s ≡ register_after (8 * length bytes) register)
  gathered_all {x} {s} {j} g h few =
      let n = 8 * length bytes in
      let e : 8 * j ≡ n = omega (arith, g.within) in
      let word = scrambled_from register (bits_of bytes) in
      let all : digits n x ≡ word
      = ap (λ (m : ℕ). digits m x) (sym e) ∙ g.bits ∙ ap (λ (l : List ℕ). scrambled_from register (bits_of l)) (take_all j bytes h) in
      let many : length word ≡ n = length_scrambled register (bits_of bytes) ∙ length-bits_of bytes in (
        digits_shl n (64 - n) x (omega arith) ∙ ap₂ (λ (l : List ℕ) (m : ℕ). l ++ replicate (64 - m) 0) all (sym many),
        g.after ∙ ap (λ (m : ℕ). register_after m register) e,
      )

-- ---- machine word after machine word

abbrev packed_of : ℕ → List ℕ → List ℕ
packed_of register bytes = padded (scrambled_from register (bits_of (take 64 bytes)))

-- w machine words are stored, with zeros behind, and s is the register after their bits, or after all bits where there are fewer
pub record Packing (register : ℕ) (bytes out : List ℕ) (s w : ℕ) : Type 0 where
  pub over : Over 8 (packed_of register bytes) [] out w
  pub after : s ≡ register_after (min (64 * w) (8 * length (take 64 bytes))) register

-- n more bytes of a, the eight behind w times eight
bits_more : (n w a : ℕ) → n ≡ min 8 (a - 8 * w) → 8 * w < a → 64 * w + 8 * n ≡ min (64 * (w + 1)) (8 * a)
bits_more n w a e h = omega arith

module _ (register : ℕ) (bytes : List ℕ) where
  few : length (take 64 bytes) ≤ 64
  few = omega (arith, length-take 64 bytes)

  length_word : length (scrambled_from register (bits_of (take 64 bytes))) ≡ 8 * length (take 64 bytes)
  length_word = length_scrambled register (bits_of (take 64 bytes)) ∙ length-bits_of (take 64 bytes)

  short : length (scrambled_from register (bits_of (take 64 bytes))) ≤ 512
  short = omega (arith, few, length_word)

  pub packing_none : Packing register bytes (replicate 8 0) register 0
  unfolding bits_from register_after
  packing_none =
      let none : 0 ≡ min (64 * 0) (8 * length (take 64 bytes)) = omega arith in
      record { over = record { stored = (refl, refl); kept = λ k l. zeros_at 8 k }; after = ap (λ (n : ℕ). register_after n register) none }

  -- the eight bytes behind those stored, or as many as there are
  packing_more : {out : List ℕ} {s w : ℕ} (part : List ℕ) (y q : ℕ) → Packing register bytes out s w → 8 * w < length (take 64 bytes)
      → part ≡ take 8 (drop (8 * w) (take 64 bytes)) → digits 64 y ≡ padded_to 64 (scrambled_from s (bits_of part)) → q ≡ register_after (8 * length part) s
      → Packing register bytes (set out w y) q (w + 1)
  packing_more {out} {s} {w} part y q k h ep ey eq =
      let all = take 64 bytes in
      let word = scrambled_from register (bits_of all) in
      let m = 64 * w in
      let n = length part in
      let room : m + 64 ≤ 512 = omega (arith, few) in
      let inside : w < 8 = omega arith in
      let long : n ≡ min 8 (length all - 8 * w)
      = ap length ep ∙ length-take 8 (drop (8 * w) all) ∙ ap (min 8) (length-drop (8 * w) all) in
      let so_far : min m (8 * length all) ≡ m = omega (arith, few) in
      let at : s ≡ register_after m register = k.after ∙ ap (λ (i : ℕ). register_after i register) so_far in
      let eights : m ≡ 8 * (8 * w) = omega arith in
      let here : take 64 (drop m word) ≡ scrambled_from s (bits_of part)
      = ap (take 64) (scrambled_drop m register (bits_of all))
      ∙ scrambled_take 64 (register_after m register) (drop m (bits_of all))
      ∙ ap₂ scrambled_from (sym at)
      (ap (λ (i : ℕ). take 64 (drop i (bits_of all))) eights ∙ ap (take 64) (bits_of-drop (8 * w) all) ∙ bits_of-take 8 (drop (8 * w) all) ∙ ap bits_of (sym ep)) in
      let blank : 64 - (length word - m) ≡ 64 - length (scrambled_from s (bits_of part))
      = omega (arith, length_word, length_scrambled s (bits_of part), length-bits_of part) in
      let read : take 64 (drop m (padded word)) ≡ padded_to 64 (scrambled_from s (bits_of part))
      = padded_part word m short room ∙ ap₂ (λ (l : List ℕ) (i : ℕ). l ++ replicate i 0) here blank in
      record {
        over = over_more k.over y inside (ey ∙ sym read);
        after = register_behind m (8 * n) register s q at eq ∙ ap (λ (i : ℕ). register_after i register) (bits_more n w (length all) long h);
      }

  pub packing_all : {out : List ℕ} {s w : ℕ} → Packing register bytes out s w → w ≤ 8 → length (take 64 bytes) ≤ 8 * w
      → (bits512 out ≡ padded (scrambled_from register (bits_of (take 64 bytes)))) × (s ≡ register_after (8 * length (take 64 bytes)) register)
  unfolding bits512
  packing_all {w = w} k h all =
      let word = scrambled_from register (bits_of (take 64 bytes)) in
      let e : 512 - 64 * w ≡ 64 * (8 - w) = omega arith in
      let behind : drop (64 * w) (padded word) ≡ bits_from (8 - w) w []
      = padded_behind word (64 * w) (omega (arith, length_word)) ∙ ap (λ (i : ℕ). replicate i 0) e ∙ sym (blank_from [] (8 - w) w (omega arith)) in
      let m : min (64 * w) (8 * length (take 64 bytes)) ≡ 8 * length (take 64 bytes) = omega arith in
      (over_all k.over h behind, k.after ∙ ap (λ (i : ℕ). register_after i register) m)

  -- the bytes in eights, as `as_chunks` gives them, and the rest
  module _ (part : List ℕ) (whole : part ≡ take 64 bytes) (eights : List (List ℕ)) (rest : List ℕ)
      (front : eights ≡ first_chunks 8 (length part / 8) part) (back : rest ≡ drop (length part / 8 * 8) part) where
    -- eight bytes, and a machine word of them, x
    pub packing_eight : {out : List ℕ} {s w : ℕ} (x y q : ℕ) → Packing register bytes out s w → w < length part / 8
        → Bytes bytes → x ≡ from_be_bytes w64 (get_or eights w [])
        → digits 64 y ≡ scrambled_from s (digits 64 x) → q ≡ register_after 64 s → Packing register bytes (set out w y) q (w + 1)
    packing_eight {s = s} {w = w} x y q k h octets ex ey eq =
        let eight = get_or eights w [] in
        let word = scrambled_from s (bits_of eight) in
        let here : eight ≡ take 8 (drop (8 * w) part) = ap (λ (l : List (List ℕ)). get_or l w []) front ∙ run_at 8 (length part / 8) w part h in
        let many : length eight ≡ 8 = ap length here ∙ length-take-le 8 (drop (8 * w) part) (omega (arith, length-drop (8 * w) part)) in
        let low : Bytes eight = rw (here, whole) (bytes_take 8 (drop (8 * w) (take 64 bytes)) (bytes_drop (8 * w) (take 64 bytes) (bytes_take 64 bytes octets))) in
        let read : digits 64 x ≡ bits_of eight = ap (digits 64) (ex ∙ be_bytes_beside eight many) ∙ beside-digits eight many low in
        let none : 0 ≡ 64 - length word = omega (arith, length_scrambled s (bits_of eight), length-bits_of eight) in
        packing_more eight y q k (omega (arith, ap length whole)) (here ∙ ap (λ (l : List ℕ). take 8 (drop (8 * w) l)) whole)
        (ey ∙ ap (scrambled_from s) read ∙ sym (append-nil word) ∙ ap (λ (i : ℕ). word ++ replicate i 0) none)
        (eq ∙ ap (λ (i : ℕ). register_after (8 * i) s) (sym many))

    -- the last, fewer than eight
    pub packing_last : {out : List ℕ} {s w : ℕ} (j y q : ℕ) → Packing register bytes out s w → j ≡ w → w ≡ length part / 8 → 0 < length rest
        → digits 64 y ≡ padded_to 64 (scrambled_from s (bits_of rest)) → q ≡ register_after (8 * length rest) s
        → (bits512 (set out j y) ≡ padded (scrambled_from register (bits_of (take 64 bytes)))) × (q ≡ register_after (8 * length (take 64 bytes)) register)
    packing_last {w = w} j y q k ej ew some ey eq =
        let long : length rest ≡ length part - length part / 8 * 8 = ap length back ∙ length-drop (length part / 8 * 8) part in
        let at : length part / 8 * 8 ≡ 8 * w = omega arith in
        let here : rest ≡ take 8 (drop (8 * w) (take 64 bytes))
        = sym (take_all 8 rest (omega arith)) ∙ ap (take 8) (back ∙ ap₂ drop at whole) in
        rw ej (packing_all (packing_more rest y q k (omega (arith, ap length whole)) here ey eq) (omega (arith, few, ap length whole)) (omega (arith, ap length whole)))
