-- Planes: nine machine words hold an element of GF(512) for each of 64 lanes. Digit b of the element of lane l is bit l of plane b.
-- Assumes nothing.
use Rattle.std.specs.Prelude.{◌≡◌, ◌≢◌, ℕ, ◌+◌, ◌*◌, ◌/◌, ◌%◌, ◌^◌, ◌<◌}
use Rattle.field.proofs.Elements.{gf512, element_of}
use Rattle.field.proofs.Values.{a}
use Rattle.planes.specs.declared.Planes.{Planes}
use Rattle.planes.specs.declared.Trio.{Trio}
use Rattle.planes.specs.declared.Affine.{Affine}

-- bit l of a machine word, the lowest first
unfoldable pub bit_of : ℕ → ℕ → ℕ
bit_of x l = x / 2 ^ l % 2

-- the number of nine digits, the lowest first
unfoldable pub nine : ℕ → ℕ → ℕ → ℕ → ℕ → ℕ → ℕ → ℕ → ℕ → ℕ
nine d0 d1 d2 d3 d4 d5 d6 d7 d8 = d0 + 2 * (d1 + 2 * (d2 + 2 * (d3 + 2 * (d4 + 2 * (d5 + 2 * (d6 + 2 * (d7 + 2 * d8)))))))

-- the number in lane l
unfoldable pub number_at : Planes → ℕ → ℕ
number_at p l =
    nine (bit_of p.p0 l) (bit_of p.p1 l) (bit_of p.p2 l) (bit_of p.p3 l) (bit_of p.p4 l) (bit_of p.p5 l) (bit_of p.p6 l) (bit_of p.p7 l)
    (bit_of p.p8 l)

-- the element in lane l
unfoldable pub lane_of : Planes → ℕ → gf512.Element
lane_of p l = element_of (number_at p l)

-- 1 in the lanes that a machine word has, 0 in the others
unfoldable pub lane_bit : ℕ → ℕ → gf512.Element
lane_bit y l = element_of (bit_of y l)

-- r is a v, with x added where y has a lane
unfoldable pub Stepped : Planes → Planes → ℕ → Planes → Type 0
Stepped v x y r = (l : ℕ) → lane_of r l ≡ gf512.add (gf512.mul a (lane_of v l)) (gf512.mul (lane_bit y l) (lane_of x l))

-- r is v, with x added where y has a lane
unfoldable pub PlusWhere : Planes → Planes → ℕ → Planes → Type 0
PlusWhere v x y r = (l : ℕ) → lane_of r l ≡ gf512.add (lane_of v l) (gf512.mul (lane_bit y l) (lane_of x l))

-- r is x where y has a lane, and 0 elsewhere
unfoldable pub OnlyWhere : Planes → ℕ → Planes → Type 0
OnlyWhere x y r = (l : ℕ) → lane_of r l ≡ gf512.mul (lane_bit y l) (lane_of x l)

-- r is v + x
unfoldable pub Summed : Planes → Planes → Planes → Type 0
Summed v x r = (l : ℕ) → lane_of r l ≡ gf512.add (lane_of v l) (lane_of x l)

-- r is a v
unfoldable pub TimesA : Planes → Planes → Type 0
TimesA v r = (l : ℕ) → lane_of r l ≡ gf512.mul a (lane_of v l)

-- r is x y
unfoldable pub Multiplied : Planes → Planes → Planes → Type 0
Multiplied x y r = (l : ℕ) → lane_of r l ≡ gf512.mul (lane_of x l) (lane_of y l)

-- r is x in each of the 64 lanes
unfoldable pub Throughout : ℕ → Planes → Type 0
Throughout x r = (l : ℕ) → l < 64 → lane_of r l ≡ element_of x

-- z has the lanes at which v is 0
unfoldable pub Vanishing : Planes → ℕ → Type 0
Vanishing v z = (l : ℕ) → l < 64 → (lane_of v l ≡ gf512.zero → bit_of z l ≡ 1) × (lane_of v l ≢ gf512.zero → bit_of z l ≡ 0)

-- ---- c + d x + e x^2 at every element x: lane l of row w is for the element 64 w + l

-- v + d x + e x^2
unfoldable pub value_of : gf512.Element → gf512.Element → gf512.Element → gf512.Element → gf512.Element
value_of v d e x = gf512.add v (gf512.add (gf512.mul d x) (gf512.mul e (gf512.mul x x)))

-- in lane l, for what is not known yet of x
unfoldable pub rest_at : Trio → ℕ → gf512.Element → gf512.Element
rest_at t l x = value_of (lane_of t.v l) (lane_of t.d l) (lane_of t.e l) x

-- y is x's lowest digit
unfoldable pub DigitTaken : Trio → ℕ → Trio → Type 0
DigitTaken t y r = (l : ℕ) (x : gf512.Element) → rest_at r l x ≡ rest_at t l (gf512.add (lane_bit y l) (gf512.mul a x))

-- x's six low digits are those of the lane's number
unfoldable pub LowsTaken : Trio → Trio → Type 0
LowsTaken t r = (w l : ℕ) → w < 8 → l < 64 → rest_at r l (element_of w) ≡ rest_at t l (element_of (64 * w + l))

-- nothing is known of x yet: c, d and e in every lane
unfoldable pub Begun : ℕ → ℕ → ℕ → Trio → Type 0
Begun c d e t = (l : ℕ) (x : gf512.Element) → l < 64 → rest_at t l x ≡ value_of (element_of c) (element_of d) (element_of e) x

-- what stands in lane l of row w
unfoldable pub row_at : Affine → ℕ → ℕ → gf512.Element
row_at t w l =
    gf512.add
    (gf512.add (gf512.add (lane_of t.low l) (gf512.mul (element_of (w % 2)) (lane_of t.six l)))
    (gf512.mul (element_of (w / 2 % 2)) (lane_of t.seven l)))
    (gf512.mul (element_of (w / 4 % 2)) (lane_of t.eight l))

-- the three digits that are left are those of the row's number
unfoldable pub Highs : Trio → Affine → Type 0
Highs t r = (w l : ℕ) → w < 8 → row_at r w l ≡ rest_at t l (element_of w)

-- in lane l of row w stands c + d x + e x^2 at the element x = 64 w + l
unfoldable pub Quadratic : ℕ → ℕ → ℕ → Affine → Type 0
Quadratic c d e r = (w l : ℕ) → w < 8 → l < 64 → row_at r w l ≡ value_of (element_of c) (element_of d) (element_of e) (element_of (64 * w + l))
