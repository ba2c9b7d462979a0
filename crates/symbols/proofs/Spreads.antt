-- Points put onto the sub-carriers of one OFDM symbol, one more in each turn: nothing is there at first, and each has a sub-carrier of its own.
-- Assumes nothing.
use mathlib.Core.Path.{◌≡◌, refl, sym, ap, ◌∙◌}
use mathlib.Core.List.{List, [], ◌∷◌, ◌++◌, map, map-append}
use Prim.Native.Nat.{ℕ, zero, suc, ◌+◌, ◌≤◌, ◌<◌}
use native.Mathlib.Decide.{ℕ_discrete}
use native.Mathlib.Numerals.{add-one}
use native.Mathlib.Omega.{arith}
use lib.IntN.{ℤ, pos}
use lib.ListN.{length, get_or, set, take, replicate, length-set, length-map, length-replicate, get_or-replicate}
use lib.Seq.{take-suc, take_all, get_or_at, get_or-set_same, get_or-set_other, length-take-le, ext_get_or}
use Rattle.points.specs.declared.Point.{Point}
use Rattle.points.specs.declared.Point.TheVariants.{Nothing}
use Rattle.symbols.specs.declared.Carrier.{Carrier}
use Rattle.symbols.specs.declared.Carrier.TheVariants.{Holds, Empty}
use Rattle.symbols.specs.Grid.{carrier_at, carrier_of}
use Rattle.symbols.specs.Grids.{level_on, spread}
use Rattle.symbols.proofs.Placement.{carrier_place, place_carrier}
use Rattle.symbols.proofs.Indices.{carrier_of-lt}
use Rattle.symbols.proofs.Placings.{length-spread, spread_at}

-- ---- no point

level_none : (holds : Carrier) → level_on [] holds ≡ pos 0
level_none (Holds zero) = refl
level_none (Holds (suc s)) = refl
level_none Empty = refl

pub spread_none : spread [] ≡ replicate 256 (pos 0)
spread_none =
    ext_get_or (pos 0) (spread []) (replicate 256 (pos 0)) (length-spread [] ∙ sym (length-replicate 256 (pos 0)))
    (λ k h.
    let l : k < 256 = omega (arith, length-spread []) in
    spread_at [] k l ∙ level_none (carrier_at k) ∙ sym (get_or-replicate 256 k (pos 0) (pos 0) l))

-- ---- one point more

module _ (levels : List ℤ) (x : ℤ) where
  -- the sub-carriers of other points have the levels that they had
  others : (levels : List ℤ) (s : ℕ) → (s ≡ length levels → ⊥) → get_or levels s (pos 0) ≡ get_or (levels ++ (x ∷ [])) s (pos 0)
  others [] zero d = absurd (d refl)
  others [] (suc s) d = refl
  others (y ∷ levels) zero d = refl
  others (y ∷ levels) (suc s) d = others levels s (λ e. d (ap suc e))

  kept : (holds : Carrier) → (holds ≡ Holds (suc (length levels)) → ⊥) → level_on levels holds ≡ level_on (levels ++ (x ∷ [])) holds
  kept (Holds zero) d = refl
  kept (Holds (suc s)) d = others levels s (λ e. d (ap (λ (n : ℕ). Holds (suc n)) e))
  kept Empty d = refl

  module _ (few : length levels < 210) where
    abbrev there : ℕ
    there = carrier_of (suc (length levels))

    here : get_or (spread (levels ++ (x ∷ []))) there (pos 0) ≡ x
    here =
        spread_at (levels ++ (x ∷ [])) there (carrier_of-lt (suc (length levels)))
        ∙ ap (level_on (levels ++ (x ∷ []))) (carrier_place (suc (length levels)) (omega arith) few)
        ∙ get_or_at levels x [] (pos 0) (length levels) refl

    each : (k : ℕ) → k < 256 → get_or (set (spread levels) there x) k (pos 0) ≡ get_or (spread (levels ++ (x ∷ []))) k (pos 0)
    each k l = by (ℕ_discrete k there)
      where
        by : Dec (k ≡ there) → get_or (set (spread levels) there x) k (pos 0) ≡ get_or (spread (levels ++ (x ∷ []))) k (pos 0)
        by (yes e) = rw e (get_or-set_same (spread levels) there x (pos 0) (rw (length-spread levels) (carrier_of-lt (suc (length levels)))) ∙ sym here)
        by (no d) =
            get_or-set_other (spread levels) there k x (pos 0) d ∙ spread_at levels k l
            ∙ kept (carrier_at k) (λ e. d (sym (place_carrier k (suc (length levels)) e).0))
            ∙ sym (spread_at (levels ++ (x ∷ [])) k l)

    pub spread-set : set (spread levels) there x ≡ spread (levels ++ (x ∷ []))
    spread-set =
        let long = length-set (spread levels) there x ∙ length-spread levels in
        ext_get_or (pos 0) (set (spread levels) there x) (spread (levels ++ (x ∷ []))) (long ∙ sym (length-spread (levels ++ (x ∷ []))))
        (λ k h. each k (omega (arith, long)))

-- the levels of the first s of the points are there
abbrev pub Put : (Point → ℤ) → List Point → ℕ → List ℤ → Type 0
Put level ps s levels = levels ≡ spread (map level (take s ps))

pub put_none : (level : Point → ℤ) (ps : List Point) {levels : List ℤ} (n : ℕ) → n ≡ 256 → levels ≡ replicate n (pos 0) → Put level ps 0 levels
put_none level ps n e there = (rw e at there) ∙ sym spread_none

-- a turn
pub put_more : (level : Point → ℤ) (ps : List Point) {levels : List ℤ} (s k : ℕ) (x : ℤ) → s < length ps → s < 210
    → k ≡ carrier_of (s + 1) → x ≡ level (get_or ps s Nothing) → Put level ps s levels → Put level ps (s + 1) (set levels k x)
put_more level ps s k x h l ek ex put =
    let front = map level (take s ps) in
    let long : length front ≡ s = length-map (take s ps) level ∙ length-take-le s ps (omega arith) in
    let more = spread-set front x (omega (arith, long)) in
    let next : map level (take (suc s) ps) ≡ front ++ (level (get_or ps s Nothing) ∷ [])
    = ap (map level) (take-suc ps s Nothing h) ∙ map-append level (take s ps) (get_or ps s Nothing ∷ []) in
    rw (put, ek, add-one, next, ← ex) (rw long at more)

pub put_long : (level : Point → ℤ) (ps : List Point) (s : ℕ) {levels : List ℤ} → Put level ps s levels → length levels ≡ 256
put_long level ps s put = ap length put ∙ length-spread (map level (take s ps))

-- at last
pub put_all : (level : Point → ℤ) (ps : List Point) (s : ℕ) {levels : List ℤ} → length ps ≤ s → Put level ps s levels → levels ≡ spread (map level ps)
put_all level ps s h put = put ∙ ap (λ (qs : List Point). spread (map level qs)) (take_all s ps h)
