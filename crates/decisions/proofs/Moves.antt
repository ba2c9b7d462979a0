-- Points that are moved by less than half the least distance of their tables are decided as they were sent, over any tables; and a decided point is one of its
-- table.
-- Assumes nothing.
use mathlib.Core.Path.{◌≡◌, refl, sym, ap, subst, ◌∙◌}
use mathlib.Core.Bool.{false, true≢false}
use mathlib.Core.List.{List, [], map}
use Prim.Native.Nat.{ℕ, zero, suc, ◌*◌, ◌<◌, ◌≤◌}
use native.Mathlib.Omega.{arith}
use lib.IntN.{ℤ, pos, nat_abs, ◌-ℤ◌, ◌*ℤ◌, +ℤ_invr}
use lib.ListN.{length, get_or, length-map, get_or-map}
use lib.Seq.{ext_get_or}
use Rattle.std.specs.Prelude.{Option, Some, None}
use Rattle.points.specs.declared.Point.{Point}
use Rattle.points.specs.declared.Point.TheVariants.{At, Nothing}
use Rattle.points.specs.Constellations.{label_at, next, points, point_of, label_of, is_stray, level_i, level_q}
use Rattle.points.specs.Dqpsk.{phases, phase_of}
use Rattle.points.specs.Rules.{square}
use Rattle.points.proofs.Places.{point_of_label, in_list, read_in}
use Rattle.points.proofs.Lending.{some_point}
use Rattle.points.proofs.Rules.{label_of_point}
use Rattle.nearest.specs.Nearest.{far, nearest_label, nearest}
use Rattle.nearest.specs.Margins.{Spaced, Moved}
use Rattle.nearest.proofs.Distances.{nearest_is, nearest_point}
use Rattle.nearest.proofs.Margins.{kept_within}
use Rattle.nearest.proofs.Spacings.{spaced}
use Rattle.decisions.specs.Decided.{decided}
use Rattle.decisions.specs.Moves.{AllMoved, fine}
use Rattle.decisions.proofs.Tables.{length-decided, decided_at}

-- ---- points that are moved so far are kept

kept_point : {ps : List Point} {d : ℕ} → Spaced ps d → (l : ℕ) → l < length ps → (i q : ℤ) → Moved d i q (get_or ps l Nothing)
    → nearest ps i q ≡ get_or ps l Nothing
unfolding nearest
kept_point {ps} spaced l there i q moved = ap (λ (k : ℕ). get_or ps k Nothing) (kept_within spaced l there i q moved)

-- a point is one of a table
abbrev pub Among : List Point → Point → Type 0
Among table p = (l : ℕ) × (l < length table) × (p ≡ get_or table l Nothing)

-- what came in is decided as the points of the tables from which it is moved so
pub moved_kept : (d : ℕ) (tables : List (List Point)) (xs ps : List Point) → length xs ≡ length tables → length ps ≡ length tables
    → ((k : ℕ) → k < length tables → Spaced (get_or tables k []) d)
    → ((k : ℕ) → k < length tables → Among (get_or tables k []) (get_or ps k Nothing))
    → AllMoved d xs ps → decided tables xs ≡ ps
moved_kept d tables xs ps ex ep spaced among moved = ext_get_or Nothing (decided tables xs) ps (length-decided tables xs ex ∙ sym ep) each
  where
    each : (k : ℕ) → k < length (decided tables xs) → get_or (decided tables xs) k Nothing ≡ get_or ps k Nothing
    each k h =
        let there : k < length tables = omega (arith, length-decided tables xs ex) in
        let one = among k there in
        let i = level_i (get_or xs k Nothing) in
        let q = level_q (get_or xs k Nothing) in
        let near : Moved d i q (get_or (get_or tables k []) one.0 Nothing) = subst (Moved d i q) one.2 (moved k (omega arith)) in
        decided_at tables xs k there (omega arith) ∙ kept_point (spaced k there) one.0 one.1 i q near ∙ sym one.2

-- ---- clean points, in sixty-fourths

no_square : (x : ℤ) → square (x -ℤ x) ≡ 0
unfolding square
no_square x = ap (λ (z : ℤ). nat_abs z * nat_abs z) (+ℤ_invr x)

no_far : (p : Point) → far (pos 64 *ℤ level_i p) (pos 64 *ℤ level_q p) p ≡ 0
unfolding far
no_far p = omega (arith, no_square (pos 64 *ℤ level_i p), no_square (pos 64 *ℤ level_q p))

-- they are moved by nothing
pub fine_moved : (d : ℕ) → 0 < d → (ps : List Point) → AllMoved d (map fine ps) ps
fine_moved d some ps k h =
    let p = get_or ps k Nothing in
    let e : get_or (map fine ps) k Nothing ≡ fine p =
    read_in (map fine ps) k Nothing (fine Nothing) (rw (length-map ps fine) h) ∙ get_or-map fine ps k Nothing
    in
    let near : Moved d (level_i (fine p)) (level_q (fine p)) p = omega (arith, no_far p) in
    subst (λ (x : Point). Moved d (level_i x) (level_q x) p) (sym e) near

-- ---- the points of a table

-- the nearest point is one of its table
pub nearest_among : (ps : List Point) (i q : ℤ) → 0 < length ps → Among ps (nearest ps i q)
nearest_among ps i q some = let n = nearest_is ps i q some in (nearest_label ps i q, n.there, nearest_point n)

-- what holds of each nearest point holds of each that is decided
pub decided_each : (P : ℕ → Point → Type 0) (tables : List (List Point)) (xs : List Point) → length xs ≡ length tables
    → ((k : ℕ) → k < length tables → (i q : ℤ) → P k (nearest (get_or tables k []) i q))
    → (k : ℕ) → k < length tables → P k (get_or (decided tables xs) k Nothing)
decided_each P tables xs long each k there = subst (P k) (sym (decided_at tables xs k there (omega arith))) (each k there _ _)

-- ---- those of DQPSK

-- there are four
pub phases_four : length phases ≡ 4
unfolding phases
phases_four = refl

-- a legal point is one of the four phases
pub phase_there : (p : Point) → is_stray (phase_of (level_i p) (level_q p)) ≡ false → (l : ℕ) × (l < 4) × (p ≡ get_or phases l Nothing)
unfolding phase_of phases label_at next
phase_there Nothing e = absurd (true≢false e)
phase_there (At i q) e = by (label_at phases i q) refl e
  where
    by : (label : Option ℕ) → label_at phases i q ≡ label → is_stray label ≡ false → (l : ℕ) × (l < 4) × (At i q ≡ get_or phases l Nothing)
    by (Some l) s k = let p = point_of_label phases i q l s in (l, in_list phases i q l p, sym p)
    by None s k = absurd (true≢false k)

-- and each of the four is legal
pub phase_legal : (l : ℕ) → l < 4 → is_stray (phase_of (level_i (get_or phases l Nothing)) (level_q (get_or phases l Nothing))) ≡ false
unfolding phase_of phases label_at next
phase_legal zero h = refl
phase_legal (suc zero) h = refl
phase_legal (suc (suc zero)) h = refl
phase_legal (suc (suc (suc zero))) h = refl
phase_legal (suc (suc (suc (suc l)))) h = absurd (omega arith)

-- and a point, with levels of its own
pub phase_point : (l : ℕ) → l < 4 → At (level_i (get_or phases l Nothing)) (level_q (get_or phases l Nothing)) ≡ get_or phases l Nothing
unfolding phases
phase_point zero h = refl
phase_point (suc zero) h = refl
phase_point (suc (suc zero)) h = refl
phase_point (suc (suc (suc zero))) h = refl
phase_point (suc (suc (suc (suc l)))) h = absurd (omega arith)

-- the nearest of them
module _ (i q : ℤ) where
  -- one of the four
  pub nearest_phase : (l : ℕ) × (l < 4) × (nearest phases i q ≡ get_or phases l Nothing)
  nearest_phase = let n = nearest_among phases i q (rw phases_four (omega arith)) in (n.0, rw phases_four at n.1, n.2)

  abbrev phase : Point
  phase = nearest phases i q

  -- it is legal
  pub nearest_phase_legal : is_stray (phase_of (level_i phase) (level_q phase)) ≡ false
  nearest_phase_legal = rw nearest_phase.2 (phase_legal nearest_phase.0 nearest_phase.1)

  -- and a point
  pub nearest_phase_at : At (level_i phase) (level_q phase) ≡ phase
  nearest_phase_at = rw nearest_phase.2 (phase_point nearest_phase.0 nearest_phase.1)

-- ---- those of Annex B

-- there are some for 2 to 10 bits
pub some_points : (n : ℕ) → 2 ≤ n → n ≤ 10 → 0 < length (points n)
some_points n low high = omega (arith, (spaced n low high).one_there)

-- the nearest of n bits
module _ (n : ℕ) (low : 2 ≤ n) (high : n ≤ 10) (i q : ℤ) where
  -- one of its table
  pub nearest_of : (l : ℕ) × (l < length (points n)) × (nearest (points n) i q ≡ point_of n l)
  unfolding point_of
  nearest_of = nearest_among (points n) i q (some_points n low high)

  abbrev of : Point
  of = nearest (points n) i q

  -- it is a point
  pub nearest_of_at : At (level_i of) (level_q of) ≡ of
  nearest_of_at = rw nearest_of.2 (sym (some_point n nearest_of.0 nearest_of.1))

  -- it has its label
  pub nearest_of_label : label_of n (level_i of) (level_q of) ≡ Some nearest_of.0
  nearest_of_label = label_of_point n nearest_of.0 (level_i of) (level_q of) (sym nearest_of.2 ∙ sym nearest_of_at)

  -- and so is not stray
  pub nearest_of_legal : is_stray (label_of n (level_i of) (level_q of)) ≡ false
  nearest_of_legal = ap is_stray nearest_of_label
