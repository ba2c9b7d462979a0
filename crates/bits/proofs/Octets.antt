-- Frames as bits: eight for each byte, joined where frames are joined, different for different frames; and the bytes of bits.
-- Assumes nothing.
use mathlib.Core.Path.{◌≡◌, refl, sym, ap, ap₂, ◌∙◌}
use mathlib.Core.List.{List, [], ◌∷◌, ◌++◌, append-nil, append_assoc}
use Prim.Native.Nat.{ℕ, zero, suc, ◌+◌, ◌*◌, ◌<◌}
use native.Mathlib.Omega.{arith}
use borrow.Author.Tests.{eq-eqb}
use lib.ListN.{length, get_or, take, drop, length-append, length-drop, take-append-drop}
use lib.Seq.{take_at, drop_at, drop-drop, take_all, length-take-le}
use Rattle.bits.specs.Words.{Bits, digits}
use Rattle.bits.proofs.Digits.{length_digits, digits_bits, bits_take, bits_drop}
use Rattle.bits.proofs.Digits.{bits_append}
use Rattle.bits.specs.Bytes.{Bytes, bits_of, as_number, bytes_of, bits_put, bytes_put}
use Rattle.bits.proofs.Numbers.{digits_inj, digits_number}

pub bytes_from : (f : List ℕ) → ((i : ℕ) → get_or f i 0 < 256) → Bytes f
bytes_from [] h = tt
bytes_from (x ∷ f) h = (h 0, bytes_from f (λ i. h (suc i)))

pub bytes_append : (f g : List ℕ) → Bytes f → Bytes g → Bytes (f ++ g)
bytes_append [] g hf hg = hg
bytes_append (x ∷ f) g hf hg = (hf.0, bytes_append f g hf.1 hg)

pub length-bits_of : (f : List ℕ) → length (bits_of f) ≡ 8 * length f
unfolding bits_of
length-bits_of [] = refl
length-bits_of (x ∷ f) = rw (length-append (digits 8 x) (bits_of f), length_digits, length-bits_of f) (omega arith)

pub bits_bits_of : (f : List ℕ) → Bits (bits_of f)
unfolding bits_of
bits_bits_of [] = tt
bits_bits_of (x ∷ f) = bits_append (digits 8 x) (bits_of f) (digits_bits 8 x) (bits_bits_of f)

pub bits_of-append : (f g : List ℕ) → bits_of (f ++ g) ≡ bits_of f ++ bits_of g
unfolding bits_of
bits_of-append [] g = refl
bits_of-append (x ∷ f) g = rw (bits_of-append f g, append_assoc)

-- one byte more
pub bits_of_snoc : (f : List ℕ) (x : ℕ) → bits_of (f ++ (x ∷ [])) ≡ bits_of f ++ digits 8 x
unfolding bits_of
bits_of_snoc f x = bits_of-append f (x ∷ []) ∙ ap (λ (bs : List ℕ). bits_of f ++ bs) (append-nil (digits 8 x))

pub bits_of_inj : (f g : List ℕ) → Bytes f → Bytes g → bits_of f ≡ bits_of g → f ≡ g
unfolding bits_of
bits_of_inj [] [] hf hg e = refl
bits_of_inj [] (y ∷ g) hf hg e = absurd (omega (arith, ap length e, length-append (digits 8 y) (bits_of g), length_digits 8 y))
bits_of_inj (x ∷ f) [] hf hg e = absurd (omega (arith, ap length e, length-append (digits 8 x) (bits_of f), length_digits 8 x))
bits_of_inj (x ∷ f) (y ∷ g) hf hg e =
    let first : digits 8 x ≡ digits 8 y
    = sym (take_at (digits 8 x) (bits_of f) 8 (length_digits 8 x)) ∙ ap (take 8) e ∙ take_at (digits 8 y) (bits_of g) 8 (length_digits 8 y) in
    let rest : bits_of f ≡ bits_of g
    = sym (drop_at (digits 8 x) (bits_of f) 8 (length_digits 8 x)) ∙ ap (drop 8) e ∙ drop_at (digits 8 y) (bits_of g) 8 (length_digits 8 y) in
    ap₂ ◌∷◌ (digits_inj 8 x y hf.0 hg.0 first) (bits_of_inj f g hf.1 hg.1 rest)

-- ---- the bytes of bits

-- one byte more
pub bytes_of_snoc : (n : ℕ) (bits : List ℕ) → bytes_of (suc n) bits ≡ bytes_of n bits ++ (as_number (take 8 (drop (8 * n) bits)) ∷ [])
unfolding bytes_of
bytes_of_snoc zero bits = refl
bytes_of_snoc (suc n) bits =
    let e : 8 * suc n ≡ 8 + 8 * n = omega arith in
    ap (λ (l : List ℕ). as_number (take 8 bits) ∷ l)
    (bytes_of_snoc n (drop 8 bits) ∙ ap (λ (l : List ℕ). bytes_of n (drop 8 bits) ++ (as_number (take 8 l) ∷ [])) (drop-drop (8 * n) 8 bits ∙ ap (λ (m : ℕ). drop m bits) (sym e)))

length-bytes_of : (n : ℕ) (bits : List ℕ) → length (bytes_of n bits) ≡ n
unfolding bytes_of
length-bytes_of zero bits = refl
length-bytes_of (suc n) bits = ap suc (length-bytes_of n (drop 8 bits))

-- bits are those of their bytes
bits_of_bytes : (n : ℕ) (bits : List ℕ) → Bits bits → length bits ≡ 8 * n → bits_of (bytes_of n bits) ≡ bits
unfolding bytes_of bits_of
bits_of_bytes zero bits h long = take_all 0 bits (omega arith)
bits_of_bytes (suc n) bits h long =
    let first : length (take 8 bits) ≡ 8 = length-take-le 8 bits (omega arith) in
    let byte : digits 8 (as_number (take 8 bits)) ≡ take 8 bits
    = ap (λ (m : ℕ). digits m (as_number (take 8 bits))) (sym first) ∙ digits_number (take 8 bits) (bits_take 8 bits h) in
    ap₂ ◌++◌ byte (bits_of_bytes n (drop 8 bits) (bits_drop 8 bits h) (length-drop 8 bits ∙ omega arith)) ∙ take-append-drop 8 bits

-- ---- where the lengths agree

pub bits_there : (frame out : List ℕ) {after : List ℕ} → after ≡ bits_put frame out → length out ≡ 8 * length frame → after ≡ bits_of frame
bits_there frame out {after} there e = rw (eq-eqb (length out) (8 * length frame) e) at there

pub bytes_there : (bits out : List ℕ) {after : List ℕ} → after ≡ bytes_put bits out → Bits bits → length bits ≡ 8 * length out → bits_of after ≡ bits
bytes_there bits out {after} there h e =
    ap bits_of (rw (eq-eqb (length bits) (8 * length out) e) at there) ∙ bits_of_bytes (length out) bits h e
