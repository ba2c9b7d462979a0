-- What the sub-carriers hold when points are placed on them, and that the points come back.
-- Assumes nothing.
use mathlib.Core.Path.{◌≡◌, refl, sym, ap, ap₂, ◌∙◌}
use mathlib.Core.Bool.{false}
use mathlib.Core.List.{List, [], ◌∷◌, ◌++◌, map, append-nil, append_assoc}
use Prim.Native.Nat.{ℕ, zero, suc, ◌+◌, ◌*◌, ◌%◌, ◌≤◌, ◌<◌}
use native.Mathlib.Nat.{zero-add}
use native.Mathlib.Omega.{arith}
use lib.IntN.{ℤ, pos}
use lib.ListN.{length, get_or, take, drop, length-append, length-drop, get_or-append, get_or-map}
use lib.Seq.{get_or-take, get_or-drop, take-append-le, drop-append-le, take_all, ext_get_or}
use Rattle.points.specs.declared.Point.{Point}
use Rattle.points.specs.declared.Point.TheVariants.{At, Nothing}
use Rattle.symbols.specs.declared.Carrier.{Carrier}
use Rattle.symbols.specs.declared.Carrier.TheVariants.{Holds, Empty}
use Rattle.points.specs.Constellations.{level_i, level_q}
use Rattle.symbols.specs.Grid.{carrier_at, carrier_of}
use Rattle.symbols.proofs.Placement.{carrier_place}
use Rattle.symbols.specs.Grids.{level_on, levels_from, spread, placed, received, index_of, occupied, first_occupied}
use Rattle.symbols.proofs.Indices.{carrier_of-lt, index_lt, index_first, index_later, by_parts, get_or_behind}
use Rattle.symbols.proofs.Readings.{length-received, received_at, none_occupied}

-- ---- one OFDM symbol

pub length_levels : (levels : List ℤ) (k n : ℕ) → length (levels_from levels k n) ≡ n
unfolding levels_from
length_levels levels k zero = refl
length_levels levels k (suc n) = ap suc (length_levels levels (suc k) n)

pub length-spread : (levels : List ℤ) → length (spread levels) ≡ 256
unfolding spread
length-spread levels = length_levels levels 0 256

-- what a list of 256 places holds once levels are put there
pub levels_there : (levels out : List ℤ) {after : List ℤ} → after ≡ levels_from levels 0 (length out) → length out ≡ 256 → after ≡ spread levels
unfolding spread
levels_there levels out {after} there e = rw e at there

pub levels_at : (levels : List ℤ) (k n i : ℕ) → i < n → get_or (levels_from levels k n) i (pos 0) ≡ level_on levels (carrier_at (k + i))
unfolding levels_from
levels_at levels k zero i h = absurd (omega arith)
levels_at levels k (suc n) zero h = ap (λ (j : ℕ). level_on levels (carrier_at j)) (omega arith)
levels_at levels k (suc n) (suc i) h =
    levels_at levels (suc k) n i (omega arith) ∙ ap (λ (j : ℕ). level_on levels (carrier_at j)) (omega arith)

pub spread_at : (levels : List ℤ) (k : ℕ) → k < 256 → get_or (spread levels) k (pos 0) ≡ level_on levels (carrier_at k)
unfolding spread
spread_at levels k h = levels_at levels 0 256 k h ∙ ap (λ (j : ℕ). level_on levels (carrier_at j)) (omega arith)

-- ---- m OFDM symbols

pub length-placed : (level : Point → ℤ) (m : ℕ) (ps : List Point) → length (placed level m ps) ≡ 256 * m
unfolding placed
length-placed level zero ps = refl
length-placed level (suc m) ps =
    rw (length-append, length-spread (map level (take 210 ps)), length-placed level m (drop 210 ps)) (omega arith)

pub placed_one : (level : Point → ℤ) (ps : List Point) → length ps ≡ 210 → placed level 1 ps ≡ spread (map level ps)
unfolding placed
placed_one level ps e = rw (take_all 210 ps (omega arith)) (append-nil (spread (map level ps)))

pub placed-append : (level : Point → ℤ) (m n : ℕ) (ps rs : List Point) → length ps ≡ 210 * m → placed level (m + n) (ps ++ rs) ≡ placed level m ps ++ placed level n rs
unfolding placed
placed-append level zero n [] rs e = ap (λ (k : ℕ). placed level k rs) (zero-add n)
placed-append level zero n (p ∷ ps) rs e = absurd (omega arith)
placed-append level (suc m) n ps rs e =
    let more : suc m + n ≡ suc (m + n) = omega arith in
    let here : 210 ≤ length ps = omega arith in
    let rest = placed-append level m n (drop 210 ps) rs (length-drop 210 ps ∙ omega arith) in
    rw (more, take-append-le 210 ps rs here, drop-append-le 210 ps rs here, rest, append_assoc)

-- ---- the empty sub-carriers

-- index k, where it is that of an empty sub-carrier, has level 0
abbrev Cleared : (Point → ℤ) → ℕ → List Point → ℕ → Type 0
Cleared level m ps k = k < 256 * m → carrier_at (k % 256) ≡ Empty → get_or (placed level m ps) k (pos 0) ≡ pos 0

one_cleared : (level : Point → ℤ) (m : ℕ) (ps : List Point) → ((k : ℕ) → Cleared level m (drop 210 ps) k) → (k : ℕ) → Cleared level (suc m) ps k
unfolding placed
one_cleared level m ps rest = by_parts 256 (Cleared level (suc m) ps) first later
  where
    levels : List ℤ
    levels = map level (take 210 ps)

    first : (k : ℕ) → k < 256 → Cleared level (suc m) ps k
    first k l h e =
        let r : k % 256 ≡ k = omega arith in
        get_or-append (spread levels) _ (pos 0) k (rw length-spread l) ∙ spread_at levels k l ∙ ap (level_on levels) (sym (ap carrier_at r) ∙ e)

    later : (k : ℕ) → Cleared level (suc m) ps (256 + k)
    later k h e =
        let r : (256 + k) % 256 ≡ k % 256 = omega arith in
        get_or_behind (spread levels) _ 256 k (pos 0) (length-spread levels) ∙ rest k (omega arith) (sym (ap carrier_at r) ∙ e)

placed_cleared : (level : Point → ℤ) (m : ℕ) (ps : List Point) (k : ℕ) → Cleared level m ps k
placed_cleared level zero ps k h e = absurd (omega arith)
placed_cleared level (suc m) ps k h e = one_cleared level m ps (placed_cleared level m (drop 210 ps)) k h e

not_occupied : (holds : Carrier) (i q : ℤ) → (holds ≡ Empty → i ≡ pos 0) → (holds ≡ Empty → q ≡ pos 0) → occupied holds i q ≡ false
not_occupied (Holds s) i q ei eq = refl
not_occupied Empty i q ei eq = rw (ei refl, eq refl)

-- no grid that is sent has a occupied sub-carrier
pub placed_occupied : (m : ℕ) (ps : List Point) → first_occupied (placed level_i m ps) (placed level_q m ps) 0 (256 * m) ≡ 256 * m
placed_occupied m ps =
    none_occupied (placed level_i m ps) (placed level_q m ps) 0 (256 * m)
    (λ k _ h. not_occupied (carrier_at (k % 256)) _ _ (placed_cleared level_i m ps k (omega arith)) (placed_cleared level_q m ps k (omega arith)))

-- ---- the points come back

-- a place of the s order has its level at its grid index
abbrev PlacedAt : (Point → ℤ) → ℕ → List Point → ℕ → Type 0
PlacedAt level m ps place = place < 210 * m → get_or (placed level m ps) (index_of place) (pos 0) ≡ level (get_or ps place Nothing)

module _ (level : Point → ℤ) (none : level Nothing ≡ pos 0) where
  symbol_at : (ps : List Point) (place : ℕ) → place < 210 → get_or (spread (map level (take 210 ps))) (index_of place) (pos 0) ≡ level (get_or ps place Nothing)
  symbol_at ps place l =
      let levels = map level (take 210 ps) in
      ap (λ (k : ℕ). get_or (spread levels) k (pos 0)) (index_first place l)
      ∙ spread_at levels (carrier_of (suc place)) (carrier_of-lt (suc place))
      ∙ ap (level_on levels) (carrier_place (suc place) (omega arith) l)
      ∙ ap (get_or levels place) (sym none)
      ∙ get_or-map level (take 210 ps) place Nothing
      ∙ ap level (get_or-take 210 ps place Nothing l)

  one_placed : (m : ℕ) (ps : List Point) → ((place : ℕ) → PlacedAt level m (drop 210 ps) place) → (place : ℕ) → PlacedAt level (suc m) ps place
  unfolding placed
  one_placed m ps rest = by_parts 210 (PlacedAt level (suc m) ps) first later
    where
      first : (place : ℕ) → place < 210 → PlacedAt level (suc m) ps place
      first place l h =
          let k : index_of place < 256 = index_lt 1 place (omega arith) in
          get_or-append (spread (map level (take 210 ps))) _ (pos 0) (index_of place) (rw length-spread k) ∙ symbol_at ps place l

      later : (place : ℕ) → PlacedAt level (suc m) ps (210 + place)
      later place h =
          ap (λ (k : ℕ). get_or (placed level (suc m) ps) k (pos 0)) (index_later place)
          ∙ get_or_behind (spread (map level (take 210 ps))) _ 256 (index_of place) (pos 0) (length-spread (map level (take 210 ps)))
          ∙ rest place (omega arith) ∙ ap level (get_or-drop 210 ps place Nothing)

  placed_at : (m : ℕ) (ps : List Point) (place : ℕ) → place < 210 * m → get_or (placed level m ps) (index_of place) (pos 0) ≡ level (get_or ps place Nothing)
  placed_at zero ps place h = absurd (omega arith)
  placed_at (suc m) ps place h = one_placed m ps (placed_at m (drop 210 ps)) place h

-- each of the list is a point, with levels of its own
abbrev pub Points : List Point → Type 0
Points ps = (k : ℕ) → k < length ps → At (level_i (get_or ps k Nothing)) (level_q (get_or ps k Nothing)) ≡ get_or ps k Nothing

-- points that are placed are received
pub received-placed : (m : ℕ) (ps : List Point) → length ps ≡ 210 * m → Points ps → received m (placed level_i m ps) (placed level_q m ps) ≡ ps
received-placed m ps e each =
    let is = placed level_i m ps in
    let qs = placed level_q m ps in
    ext_get_or Nothing (received m is qs) ps (length-received m is qs ∙ sym e)
    (λ place h.
    let l : place < 210 * m = omega (arith, length-received m is qs) in
    received_at m is qs place l ∙ ap₂ At (placed_at level_i refl m ps place l) (placed_at level_q refl m ps place l) ∙ each place (omega arith))
