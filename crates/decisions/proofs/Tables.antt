-- Points decided by a list of tables.
-- Assumes nothing.
use mathlib.Core.Path.{◌≡◌, refl, ap}
use mathlib.Core.List.{List, [], ◌∷◌, ◌++◌}
use Prim.Native.Nat.{ℕ, zero, suc, ◌<◌}
use native.Mathlib.Omega.{arith}
use lib.ListN.{length, get_or}
use Rattle.points.specs.declared.Point.{Point}
use Rattle.points.specs.declared.Point.TheVariants.{Nothing}
use Rattle.points.specs.Constellations.{level_i, level_q}
use Rattle.nearest.specs.Nearest.{nearest}
use Rattle.decisions.specs.Decided.{decided}

-- a point for each table
pub length-decided : (tables : List (List Point)) (ps : List Point) → length ps ≡ length tables → length (decided tables ps) ≡ length tables
unfolding decided
length-decided [] ps e = refl
length-decided (t ∷ ts) [] e = absurd (omega arith)
length-decided (t ∷ ts) (p ∷ ps) e = ap suc (length-decided ts ps (omega arith))

-- parts are decided apart
pub decided-append : (ts us : List (List Point)) (ps rs : List Point) → length ps ≡ length ts
    → decided (ts ++ us) (ps ++ rs) ≡ decided ts ps ++ decided us rs
unfolding decided
decided-append [] us [] rs e = refl
decided-append [] us (p ∷ ps) rs e = absurd (omega arith)
decided-append (t ∷ ts) us [] rs e = absurd (omega arith)
decided-append (t ∷ ts) us (p ∷ ps) rs e = ap (λ (l : List Point). nearest t (level_i p) (level_q p) ∷ l) (decided-append ts us ps rs (omega arith))

-- the point at a place
pub decided_at : (tables : List (List Point)) (ps : List Point) (k : ℕ) → k < length tables → k < length ps
    → get_or (decided tables ps) k Nothing ≡ nearest (get_or tables k []) (level_i (get_or ps k Nothing)) (level_q (get_or ps k Nothing))
unfolding decided
decided_at [] ps k h l = absurd (omega arith)
decided_at (t ∷ ts) [] k h l = absurd (omega arith)
decided_at (t ∷ ts) (p ∷ ps) zero h l = refl
decided_at (t ∷ ts) (p ∷ ps) (suc k) h l = decided_at ts ps k (omega arith) (omega arith)
