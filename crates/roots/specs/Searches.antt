-- The planes of all 512 elements, and what the search for the zeros of a locator promises.
-- Digit b of the elements of row w stands at 8 b + w; lane l of row w stands for the element 64 w + l.
-- Assumes nothing.
use Rattle.std.specs.Prelude.{◌≡◌, ◌≢◌, List, ℕ, zero, suc, ◌+◌, ◌-◌, ◌*◌, ◌≤◌, ◌<◌, length, get_or, set}
use Rattle.algebra.proofs.Polynomials.{ev}
use Rattle.field.proofs.Elements.{gf512, element_of}
use Rattle.field.proofs.Values.{series}
use Rattle.planes.specs.Lanes.{bit_of, lane_of, Summed, value_of, row_at}
use Rattle.planes.specs.declared.Planes.{Planes}
use Rattle.planes.specs.declared.Affine.{Affine}

-- the planes of row w
unfoldable pub planes_at : List ℕ → ℕ → Planes
planes_at s w = record {
  p0 = get_or s w 0;
  p1 = get_or s (8 + w) 0;
  p2 = get_or s (16 + w) 0;
  p3 = get_or s (24 + w) 0;
  p4 = get_or s (32 + w) 0;
  p5 = get_or s (40 + w) 0;
  p6 = get_or s (48 + w) 0;
  p7 = get_or s (56 + w) 0;
  p8 = get_or s (64 + w) 0;
}

-- v is put at row w
unfoldable pub row_put : List ℕ → ℕ → Planes → List ℕ
row_put s w v =
    set (set (set (set (set (set (set (set (set s w v.p0) (8 + w) v.p1) (16 + w) v.p2) (24 + w) v.p3) (32 + w) v.p4) (40 + w) v.p5)
    (48 + w) v.p6) (56 + w) v.p7) (64 + w) v.p8

-- x^3
unfoldable pub cube : gf512.Element → gf512.Element
cube x = gf512.mul x (gf512.mul x x)

-- the sums are the cubes of all elements
unfoldable pub Cubes : List ℕ → Type 0
Cubes s = (w l : ℕ) → w < 8 → l < 64 → lane_of (planes_at s w) l ≡ cube (element_of (64 * w + l))

-- the sums are f
pub record Grown (f : ℕ → ℕ → gf512.Element) (s : List ℕ) : Type 0 where
  pub long : length s ≡ 72
  pub each : (w l : ℕ) → w < 8 → l < 64 → lane_of (planes_at s w) l ≡ f w l

-- a sum times the cube of its lane's element
abbrev pub times_cube : List ℕ → ℕ → ℕ → gf512.Element
times_cube s w l = gf512.mul (lane_of (planes_at s w) l) (cube (element_of (64 * w + l)))

-- a sum and what t has in its lane
abbrev pub plus_row : List ℕ → Affine → ℕ → ℕ → gf512.Element
plus_row s t w l = gf512.add (lane_of (planes_at s w) l) (row_at t w l)

-- v is added to row w
abbrev pub AddedAt : List ℕ → ℕ → Planes → List ℕ → Type 0
AddedAt s w v new = (r : Planes) × Summed (planes_at s w) v r × (new ≡ row_put s w r)

-- the sums of row w are those of t
pub record Filled (t : Affine) (s : List ℕ) : Type 0 where
  pub long : length s ≡ 72
  pub each : (w l : ℕ) → w < 8 → l < 64 → lane_of (planes_at s w) l ≡ row_at t w l

-- the old sums times x^3, and what t adds
pub record Advanced (t : Affine) (old new : List ℕ) : Type 0 where
  pub long : length new ≡ 72
  pub each : (w l : ℕ) → w < 8 → l < 64 → lane_of (planes_at new w) l ≡ gf512.add (times_cube old w l) (row_at t w l)

-- bit l of the machine word w tells whether lane l of row w is 0
unfoldable pub RowsTold : List ℕ → List ℕ → Type 0
RowsTold s z =
    (w l : ℕ) → w < 8 → l < 64
    → (lane_of (planes_at s w) l ≡ gf512.zero → bit_of (get_or z w 0) l ≡ 1) × (lane_of (planes_at s w) l ≢ gf512.zero → bit_of (get_or z w 0) l ≡ 0)

-- n terms of the locator at x
abbrev pub locator_at : List ℕ → ℕ → gf512.Element → gf512.Element
locator_at locator n x = ev gf512 n (series locator) x

-- bit l of machine word w is set exactly when the locator's first n terms vanish at the element 64 w + l
pub record Searched (locator : List ℕ) (n : ℕ) (z : List ℕ) : Type 0 where
  pub zero : (w l : ℕ) → w < 8 → l < 64 → locator_at locator n (element_of (64 * w + l)) ≡ gf512.zero → bit_of (get_or z w 0) l ≡ 1
  pub other : (w l : ℕ) → w < 8 → l < 64 → locator_at locator n (element_of (64 * w + l)) ≢ gf512.zero → bit_of (get_or z w 0) l ≡ 0

-- t is c + d x + e x^2 for the coefficients c, d, e from place 3 i on
unfoldable pub Triple : List ℕ → ℕ → Affine → Type 0
Triple locator i t =
    (w l : ℕ) → w < 8 → l < 64
    → row_at t w l ≡ value_of (series locator (3 * i)) (series locator (3 * i + 1)) (series locator (3 * i + 2)) (element_of (64 * w + l))

-- k times three terms, from the place 3 i on
unfoldable pub triples : List ℕ → ℕ → ℕ → gf512.Element → gf512.Element
triples locator zero i x = gf512.zero
triples locator (suc k) i x =
    gf512.add (gf512.mul (triples locator k (suc i) x) (cube x))
    (value_of (series locator (3 * i)) (series locator (3 * i + 1)) (series locator (3 * i + 2)) x)

-- the sums hold the terms from the place 3 i on, of those up to 3 n + 2
unfoldable pub Reached : List ℕ → ℕ → List ℕ → ℕ → Type 0
Reached locator n s i = (w l : ℕ) → w < 8 → l < 64 → lane_of (planes_at s w) l ≡ triples locator (suc n - i) i (element_of (64 * w + l))

-- where the old sums hold the terms from the place 3 i on, the new ones hold all
abbrev pub GoneDown : List ℕ → ℕ → List ℕ → List ℕ → Type 0
GoneDown locator i old new = (n : ℕ) → i ≤ n → Reached locator n old i → Reached locator n new 0
