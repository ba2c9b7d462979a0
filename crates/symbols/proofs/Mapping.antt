-- Bits to points by a scheme, and back: that the bits come back, and how many are received.
-- Assumes nothing.
use mathlib.Core.Path.{◌≡◌, refl, sym, ap, ap₂, ◌∙◌}
use mathlib.Core.List.{List, [], ◌∷◌, zip_with}
use Prim.Native.Nat.{ℕ, zero, suc, ◌+◌, ◌*◌, ◌%◌, ◌^◌, ◌≤◌, ◌<◌}
use native.Mathlib.Nat.{mod-lt}
use native.Mathlib.Omega.{arith}
use lib.Dec.{lit<}
use lib.IntN.{ℤ}
use lib.ListN.{length, take, drop, length-append, length-take, length-drop, take-append-drop}
use lib.Seq.{length-take-le}
use Rattle.ground.specs.First.{first_in}
use Rattle.bits.specs.Words.{Bits, digits}
use Rattle.bits.proofs.Digits.{bits_take, bits_drop, length_digits}
use Rattle.points.specs.declared.Point.{Point}
use Rattle.points.specs.declared.Point.TheVariants.{At}
use Rattle.std.specs.Prelude.{Some}
use Rattle.points.specs.Constellations.{point_of, label_number, level_i, level_q}
use Rattle.points.proofs.Rules.{has_point, label_of_point}
use Rattle.symbols.specs.Grids.{received}
use Rattle.bits.specs.Bytes.{as_number}
use Rattle.symbols.specs.Schemes.{sum_of, repeated, mapped, point_label, labelled, stray_in, Scheme}
use Rattle.bits.proofs.Numbers.{digits_number, number_low}
use Rattle.symbols.proofs.Readings.{length-received}
use Rattle.symbols.proofs.Placings.{Points}
use Rattle.symbols.proofs.Schemes.{Entries, behind, entry_in, length-repeated, get_or-repeated, repeated_long, sum_repeated}

-- ---- bits to points

pub length-mapped : (ns bits : List ℕ) → length (mapped ns bits) ≡ length ns
unfolding mapped
length-mapped [] bits = refl
length-mapped (n ∷ ns) bits = ap suc (length-mapped ns (drop n bits))

-- ---- points to bits

length-labelled : (ns : List ℕ) (ps : List Point) → length ps ≡ length ns → length (labelled ns ps) ≡ sum_of ns
unfolding labelled sum_of
length-labelled [] ps e = refl
length-labelled (n ∷ ns) [] e = absurd (omega arith)
length-labelled (n ∷ ns) (p ∷ ps) e =
    length-append (digits n (label_number (point_label n p))) (labelled ns ps) ∙ ap₂ ◌+◌ (length_digits n _) (length-labelled ns ps (omega arith))

-- ---- bits become points and come back

-- those of a scheme, in m OFDM symbols, are from 2 to 10
pub entries_repeated : {scheme : List ℕ} → Scheme scheme → (m : ℕ) → Entries (repeated m scheme)
entries_repeated {scheme} good m k h =
    let low : k % length scheme < 210 = rw good.long (mod-lt k (lit< tt)) in
    rw (get_or-repeated scheme m k (omega (arith, length-repeated scheme m))) (entry_in good (k % length scheme) low)

-- the first point of bits, and its label
module _ (n : ℕ) (bits : List ℕ) (l : 2 ≤ n) (h : n ≤ 10) (each : Bits bits) where
  first_low : as_number (take n bits) < 2 ^ n
  first_low = number_low n (take n bits) (rw (length-take n bits) (omega arith))

  first_point : At (level_i (point_of n (as_number (take n bits)))) (level_q (point_of n (as_number (take n bits)))) ≡ point_of n (as_number (take n bits))
  first_point = sym (has_point n (as_number (take n bits)) l h first_low)

  first_label : point_label n (point_of n (as_number (take n bits))) ≡ Some (as_number (take n bits))
  first_label = label_of_point n (as_number (take n bits)) _ _ (sym first_point)

pub points_mapped : (ns bits : List ℕ) → Entries ns → Bits bits → Points (mapped ns bits)
unfolding mapped
points_mapped [] bits each h k l = absurd (omega arith)
points_mapped (n ∷ ns) bits each h zero l = let e = each 0 (omega arith) in first_point n bits e.0 e.1 h
points_mapped (n ∷ ns) bits each h (suc k) l = points_mapped ns (drop n bits) (behind n ns each) (bits_drop n bits h) k (omega arith)

-- none of the points is stray
pub stray_mapped : (ns bits : List ℕ) → Entries ns → Bits bits → stray_in ns (mapped ns bits) ≡ length ns
unfolding mapped first_in zip_with
stray_mapped [] bits each h = refl
stray_mapped (n ∷ ns) bits each h =
    let e = each 0 (omega arith) in
    rw (first_label n bits e.0 e.1 h, stray_mapped ns (drop n bits) (behind n ns each) (bits_drop n bits h))

pub labelled-mapped : (ns bits : List ℕ) → Entries ns → Bits bits → length bits ≡ sum_of ns → labelled ns (mapped ns bits) ≡ bits
unfolding mapped labelled sum_of
labelled-mapped [] [] each h l = refl
labelled-mapped [] (b ∷ bits) each h l = absurd (omega arith)
labelled-mapped (n ∷ ns) bits each h l =
    let e = each 0 (omega arith) in
    let long : length (take n bits) ≡ n = length-take-le n bits (omega arith) in
    let here : digits n (as_number (take n bits)) ≡ take n bits
    = ap (λ (m : ℕ). digits m (as_number (take n bits))) (sym long) ∙ digits_number (take n bits) (bits_take n bits h) in
    let rest = labelled-mapped ns (drop n bits) (behind n ns each) (bits_drop n bits h) (length-drop n bits ∙ omega arith) in
    rw (first_label n bits e.0 e.1 h, here, rest) (take-append-drop n bits)

-- ---- what is received in m OFDM symbols

-- a point for each entry
pub as_many : (scheme : List ℕ) → length scheme ≡ 210 → (m : ℕ) (is qs : List ℤ) → length (received m is qs) ≡ length (repeated m scheme)
as_many scheme long m is qs = length-received m is qs ∙ sym (repeated_long scheme long m)

-- so many bits
pub length_symbols : (scheme : List ℕ) → length scheme ≡ 210 → (m : ℕ) (is qs : List ℤ)
    → length (labelled (repeated m scheme) (received m is qs)) ≡ sum_of scheme * m
length_symbols scheme long m is qs =
    length-labelled (repeated m scheme) (received m is qs) (as_many scheme long m is qs) ∙ sum_repeated scheme m
