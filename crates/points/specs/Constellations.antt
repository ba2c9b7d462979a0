-- The nine constellations of Annex B: the point of a label and the label of a point, for n bits per point.
-- A table's left column and then its right has the labels in rising order, so that a point's label is its place.
use Rattle.std.specs.Prelude.{ℕ, suc, Bool, true, false, cond, ◌&&◌, List, [], ◌∷◌, ◌++◌, map, eqb, ℤ, pos, negsuc, get_or, Option, Some, None}
use Rattle.points.specs.AnnexB.{Row, table_b1, table_b2, table_b3, table_b4, table_b5, table_b6, table_b7, table_b8, table_b9}
use Rattle.points.specs.declared.Point.{Point}
use Rattle.points.specs.declared.Point.TheVariants.{At, Nothing}

-- the table of n bits per point, for n from 0: there is none of 0 and of 1 bits
unfoldable pub tables : List (List Row)
tables = [] ∷ [] ∷ table_b1 ∷ table_b2 ∷ table_b3 ∷ table_b4 ∷ table_b5 ∷ table_b6 ∷ table_b7 ∷ table_b8 ∷ table_b9 ∷ []

-- the points of a table: the left column, then the right
unfoldable pub columns : List Row → List Point
columns rows = map (λ r. At r.1 r.2) rows ++ map (λ r. At r.4 r.5) rows

-- the points of n bits, each at its label's place: none at all, unless n is 2 to 10
unfoldable pub points : ℕ → List Point
points n = columns (get_or tables n [])

-- the point of a label of n bits
unfoldable pub point_of : ℕ → ℕ → Point
point_of n l = get_or (points n) l Nothing

-- whether two levels are the same
abbrev pub same : ℤ → ℤ → Bool
same (pos a) (pos b) = eqb a b
same (pos a) (negsuc b) = false
same (negsuc a) (pos b) = false
same (negsuc a) (negsuc b) = eqb a b

-- whether a point is (i, q)
abbrev pub is_at : Point → ℤ → ℤ → Bool
is_at (At x y) i q = same x i && same y q
is_at Nothing i q = false

-- one place on
unfoldable pub next : Option ℕ → Option ℕ
next (Some l) = Some (suc l)
next None = None

-- the place at which (i, q) first stands in a list of points
unfoldable pub label_at : List Point → ℤ → ℤ → Option ℕ
label_at [] i q = None
label_at (p ∷ ps) i q = cond (is_at p i q) (Some 0) (next (label_at ps i q))

-- the label of n bits of (i, q)
unfoldable pub label_of : ℕ → ℤ → ℤ → Option ℕ
label_of n i q = label_at (points n) i q

-- the levels of a point: where there is none, both are 0
abbrev pub level_i : Point → ℤ
level_i (At i q) = i
level_i Nothing = pos 0

abbrev pub level_q : Point → ℤ
level_q (At i q) = q
level_q Nothing = pos 0

-- the number of a label: of a stray point it is 0
abbrev pub label_number : Option ℕ → ℕ
label_number (Some l) = l
label_number None = 0

abbrev pub is_stray : Option ℕ → Bool
is_stray (Some l) = false
is_stray None = true
