-- Points to bits by a scheme, part by part; and their labels.
-- Assumes nothing.
use mathlib.Core.Path.{◌≡◌, refl, sym, ap, ap₂, ◌∙◌}
use mathlib.Core.List.{List, [], ◌∷◌, ◌++◌, append-nil, append_assoc, zip_with}
use Prim.Native.Nat.{ℕ, zero, suc, ◌*◌, ◌%◌, ◌<◌}
use native.Mathlib.Omega.{arith}
use lib.IntN.{ℤ}
use lib.ListN.{length, get_or, take}
use lib.Seq.{take-suc, length-take-le}
use Rattle.ground.proofs.Zips.{length-zip_with}
use Rattle.bits.specs.Words.{Bits, digits}
use Rattle.bits.proofs.Digits.{bits_append, digits_bits}
use Rattle.points.specs.declared.Point.{Point}
use Rattle.points.specs.declared.Point.TheVariants.{Nothing}
use Rattle.std.specs.Prelude.{Option, None}
use Rattle.points.specs.Constellations.{label_number}
use Rattle.symbols.specs.Grids.{point_at, received, index_of}
use Rattle.symbols.proofs.Readings.{length-received, received_at}
use Rattle.symbols.specs.Schemes.{repeated, point_label, labelled, Scheme}
use Rattle.symbols.proofs.Schemes.{repeated_long, get_or-repeated}
use Rattle.symbols.proofs.Mapping.{as_many}

pub labelled-append : (a b : List ℕ) (p q : List Point) → length p ≡ length a → labelled (a ++ b) (p ++ q) ≡ labelled a p ++ labelled b q
unfolding labelled
labelled-append [] b [] q e = refl
labelled-append [] b (x ∷ p) q e = absurd (omega arith)
labelled-append (n ∷ a) b [] q e = absurd (omega arith)
labelled-append (n ∷ a) b (x ∷ p) q e = rw (labelled-append a b p q (omega arith), append_assoc)

-- one entry and one point more
pub labelled_snoc : (scheme : List ℕ) (ps : List Point) (s : ℕ) → s < length scheme → s < length ps
    → labelled (take (suc s) scheme) (take (suc s) ps)
    ≡ labelled (take s scheme) (take s ps) ++ digits (get_or scheme s 0) (label_number (point_label (get_or scheme s 0) (get_or ps s Nothing)))
unfolding labelled
labelled_snoc scheme ps s h k =
    let long : length (take s ps) ≡ length (take s scheme) = length-take-le s ps (omega arith) ∙ sym (length-take-le s scheme (omega arith)) in
    let one = labelled-append (take s scheme) (get_or scheme s 0 ∷ []) (take s ps) (get_or ps s Nothing ∷ []) long in
    rw (take-suc scheme s 0 h, take-suc ps s Nothing k) (one ∙ ap (λ (bs : List ℕ). labelled (take s scheme) (take s ps) ++ bs) (append-nil _))

pub bits_labelled : (ns : List ℕ) (ps : List Point) → Bits (labelled ns ps)
unfolding labelled
bits_labelled [] ps = tt
bits_labelled (n ∷ ns) [] = tt
bits_labelled (n ∷ ns) (p ∷ ps) = bits_append (digits n _) (labelled ns ps) (digits_bits n _) (bits_labelled ns ps)

-- ---- the labels of points, one by one

label_at : (ns : List ℕ) (ps : List Point) (i : ℕ) → i < length ns → i < length ps
    → get_or (zip_with point_label ns ps) i None ≡ point_label (get_or ns i 0) (get_or ps i Nothing)
unfolding zip_with
label_at [] ps i h k = absurd (omega arith)
label_at (n ∷ ns) [] i h k = absurd (omega arith)
label_at (n ∷ ns) (p ∷ ps) zero h k = refl
label_at (n ∷ ns) (p ∷ ps) (suc i) h k = label_at ns ps i (omega arith) (omega arith)

-- those of m OFDM symbols
module _ {scheme : List ℕ} (good : Scheme scheme) (m : ℕ) (is qs : List ℤ) where
  abbrev pub labels : List (Option ℕ)
  labels = zip_with point_label (repeated m scheme) (received m is qs)

  pub labels_long : length labels ≡ 210 * m
  labels_long = length-zip_with point_label _ _ (sym (as_many scheme good.long m is qs)) ∙ repeated_long scheme good.long m

  pub labels_at : (place : ℕ) → place < 210 * m → get_or labels place None ≡ point_label (get_or scheme (place % 210) 0) (point_at is qs (index_of place))
  labels_at place l =
      let entry : get_or (repeated m scheme) place 0 ≡ get_or scheme (place % 210) 0 = rw good.long at (get_or-repeated scheme m place (rw good.long l)) in
      label_at _ _ place (omega (arith, repeated_long scheme good.long m)) (omega (arith, length-received m is qs))
      ∙ ap₂ point_label entry (received_at m is qs place l)
