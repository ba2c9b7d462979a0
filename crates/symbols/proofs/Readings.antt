-- Reading a grid: which points and sub-carriers are read, that nothing beyond is looked at, and symbol by symbol.
-- Assumes nothing.
use mathlib.Core.Path.{◌≡◌, refl, sym, ap, ap₂, ◌∙◌}
use mathlib.Core.Bool.{false}
use mathlib.Core.List.{List, ◌++◌, append-nil, append_assoc}
use Prim.Native.Nat.{ℕ, zero, suc, ◌+◌, ◌*◌, ◌%◌, ◌≤◌, ◌<◌}
use native.Mathlib.Nat.{zero-add}
use native.Mathlib.Omega.{arith}
use lib.IntN.{ℤ, pos}
use lib.ListN.{length, get_or, take, drop, length-append, get_or-append}
use lib.Seq.{get_or-take, get_or-drop, drop-drop, ext_get_or}
use Rattle.ground.specs.First.{first_in, up_from}
use Rattle.ground.proofs.Firsts.{first_none, length_up, up_at}
use Rattle.points.specs.declared.Point.TheVariants.{At, Nothing}
use Rattle.symbols.specs.Grid.{carrier_at, carrier_of}
use Rattle.symbols.specs.Grids.{point_at, points_from, received, index_of, occupied, occupied_at, first_occupied}
use Rattle.symbols.proofs.Indices.{index_lt, index_first, index_later, by_parts, get_or_behind}

-- ---- a point of a part of the grid

point_drop : (is qs : List ℤ) (n k : ℕ) → point_at (drop n is) (drop n qs) k ≡ point_at is qs (n + k)
point_drop is qs n k = ap₂ At (get_or-drop n is k (pos 0)) (get_or-drop n qs k (pos 0))

point_take : (is qs : List ℤ) (n k : ℕ) → k < n → point_at (take n is) (take n qs) k ≡ point_at is qs k
point_take is qs n k h = ap₂ At (get_or-take n is k (pos 0) h) (get_or-take n qs k (pos 0) h)

-- ---- the points of one OFDM symbol

pub length_points : (is qs : List ℤ) (s n : ℕ) → length (points_from is qs s n) ≡ n
unfolding points_from
length_points is qs s zero = refl
length_points is qs s (suc n) = ap suc (length_points is qs (suc s) n)

pub points_at : (is qs : List ℤ) (s n i : ℕ) → i < n → get_or (points_from is qs s n) i Nothing ≡ point_at is qs (carrier_of (s + i))
unfolding points_from
points_at is qs s zero i h = absurd (omega arith)
points_at is qs s (suc n) zero h = ap (λ (t : ℕ). point_at is qs (carrier_of t)) (omega arith)
points_at is qs s (suc n) (suc i) h =
    points_at is qs (suc s) n i (omega arith) ∙ ap (λ (t : ℕ). point_at is qs (carrier_of t)) (omega arith)

-- ---- the points of m OFDM symbols

pub length-received : (m : ℕ) (is qs : List ℤ) → length (received m is qs) ≡ 210 * m
unfolding received
length-received zero is qs = refl
length-received (suc m) is qs =
    rw (length-append, length_points is qs 1 210, length-received m (drop 256 is) (drop 256 qs)) (omega arith)

-- a place of the s order is read at its grid index
abbrev ReadAt : ℕ → List ℤ → List ℤ → ℕ → Type 0
ReadAt m is qs place = place < 210 * m → get_or (received m is qs) place Nothing ≡ point_at is qs (index_of place)

one_more : (m : ℕ) (is qs : List ℤ) → ((place : ℕ) → ReadAt m (drop 256 is) (drop 256 qs) place) → (place : ℕ) → ReadAt (suc m) is qs place
unfolding received
one_more m is qs rest = by_parts 210 (ReadAt (suc m) is qs) first later
  where
    first : (place : ℕ) → place < 210 → ReadAt (suc m) is qs place
    first place l h =
        let one : 1 + place ≡ suc place = omega arith in
        get_or-append (points_from is qs 1 210) _ Nothing place (rw length_points l)
        ∙ points_at is qs 1 210 place l ∙ ap (point_at is qs) (ap carrier_of one ∙ sym (index_first place l))

    later : (place : ℕ) → ReadAt (suc m) is qs (210 + place)
    later place h =
        get_or_behind (points_from is qs 1 210) _ 210 place Nothing (length_points is qs 1 210)
        ∙ rest place (omega arith) ∙ point_drop is qs 256 (index_of place) ∙ ap (point_at is qs) (sym (index_later place))

pub received_at : (m : ℕ) (is qs : List ℤ) (place : ℕ) → place < 210 * m → get_or (received m is qs) place Nothing ≡ point_at is qs (index_of place)
received_at zero is qs place h = absurd (omega arith)
received_at (suc m) is qs place h = one_more m is qs (received_at m (drop 256 is) (drop 256 qs)) place h

-- ---- the sub-carriers that must be empty

pub none_occupied : (is qs : List ℤ) (k n : ℕ) → ((j : ℕ) → k ≤ j → j < k + n → occupied (carrier_at (j % 256)) (get_or is j (pos 0)) (get_or qs j (pos 0)) ≡ false) → first_occupied is qs k n ≡ n
none_occupied is qs k n e =
    let long = length_up k n in
    first_none (occupied_at is qs) 0 (up_from k n) (λ i h. rw (up_at k n i (omega arith)) (e (k + i) (omega arith) (omega arith))) ∙ long

-- ---- nothing beyond is looked at

-- two grids with the same points at the indices of m OFDM symbols
received_same : (m : ℕ) (is qs js rs : List ℤ) → ((k : ℕ) → k < 256 * m → point_at is qs k ≡ point_at js rs k) → received m is qs ≡ received m js rs
received_same m is qs js rs e =
    ext_get_or Nothing (received m is qs) (received m js rs) (length-received m is qs ∙ sym (length-received m js rs))
    (λ place h.
    let l : place < 210 * m = omega (arith, length-received m is qs) in
    received_at m is qs place l ∙ e (index_of place) (index_lt m place l) ∙ sym (received_at m js rs place l))

pub received-take : (m n : ℕ) (is qs : List ℤ) → 256 * m ≤ n → received m (take n is) (take n qs) ≡ received m is qs
received-take m n is qs l =
    received_same m (take n is) (take n qs) is qs (λ k h. point_take is qs n k (omega arith))

pub occupied_take : (n : ℕ) (is qs : List ℤ) (k j : ℕ) → k + j ≤ n → first_occupied (take n is) (take n qs) k j ≡ first_occupied is qs k j
unfolding first_in up_from
occupied_take n is qs k zero l = refl
occupied_take n is qs k (suc j) l =
    rw (get_or-take n is k (pos 0) (omega arith), get_or-take n qs k (pos 0) (omega arith), occupied_take n is qs (suc k) j (omega arith))

-- ---- symbol by symbol

pub received-one : (is qs : List ℤ) → received 1 is qs ≡ points_from is qs 1 210
unfolding received
received-one is qs = append-nil (points_from is qs 1 210)

pub received-add : (m n : ℕ) (is qs : List ℤ) → received (m + n) is qs ≡ received m is qs ++ received n (drop (256 * m) is) (drop (256 * m) qs)
unfolding received
received-add zero n is qs = ap (λ (k : ℕ). received k is qs) (zero-add n)
received-add (suc m) n is qs =
    let more : suc m + n ≡ suc (m + n) = omega arith in
    let on : 256 + 256 * m ≡ 256 * suc m = omega arith in
    rw (more, received-add m n (drop 256 is) (drop 256 qs), drop-drop (256 * m) 256 is, drop-drop (256 * m) 256 qs, on, append_assoc)

pub points_take : (is qs : List ℤ) → points_from (take 256 is) (take 256 qs) 1 210 ≡ points_from is qs 1 210
points_take is qs = sym (received-one (take 256 is) (take 256 qs)) ∙ received-take 1 256 is qs (omega arith) ∙ received-one is qs
