-- The first stray point, by the two ways to read points: what the look by places finds is what the points, one by one, say.
-- Assumes nothing.
use mathlib.Core.Path.{◌≡◌, refl, sym, ap, ap₂, ◌∙◌}
use mathlib.Core.Bool.{Bool, cond}
use mathlib.Core.List.{List, [], ◌∷◌}
use Prim.Native.Nat.{ℕ, suc, ◌*◌, ◌<◌}
use native.Mathlib.Nat.{zero-add}
use native.Mathlib.Omega.{arith}
use lib.IntN.{ℤ}
use lib.ListN.{length, get_or}
use Rattle.std.specs.Prelude.{None}
use Rattle.ground.specs.First.{first_in, up_from}
use Rattle.ground.proofs.Firsts.{length_up, up_at}
use Rattle.points.specs.declared.Point.{Point}
use Rattle.points.specs.declared.Point.TheVariants.{Nothing}
use Rattle.points.specs.Constellations.{label_of, is_stray, level_i, level_q}
use Rattle.points.specs.Dqpsk.{phase_of, stray_at}
use Rattle.symbols.specs.Grids.{received}
use Rattle.symbols.specs.Schemes.{Scheme, repeated, stray_in}
use Rattle.symbols.specs.Faults.{stray_by, first_stray}
use Rattle.symbols.proofs.Readings.{length-received, received_at}
use Rattle.symbols.proofs.Labelled.{labels, labels_long, labels_at}

-- two tests that say the same at each place of two lists
first_same : {A B : Type 0} (f : A → Bool) (g : B → Bool) (a : A) (b : B) (xs : List A) (ys : List B) → length xs ≡ length ys
    → ((k : ℕ) → k < length xs → f (get_or xs k a) ≡ g (get_or ys k b)) → first_in f xs ≡ first_in g ys
unfolding first_in
first_same f g a b [] [] long each = refl
first_same f g a b [] (y ∷ ys) long each = absurd (omega arith)
first_same f g a b (x ∷ xs) [] long each = absurd (omega arith)
first_same f g a b (x ∷ xs) (y ∷ ys) long each =
    let rest = first_same f g a b xs ys (omega arith) (λ k h. each (suc k) (omega arith)) in
    ap₂ (λ (t : Bool) (k : ℕ). cond t 0 (suc k)) (each 0 (omega arith)) rest

module _ (m : ℕ) (is qs : List ℤ) where
  -- a list of 210 m elements, of which a test says what the look by places says
  strays_same : {B : Type 0} (strays : ℕ → ℤ → ℤ → Bool) (g : B → Bool) (b : B) (ys : List B) → length ys ≡ 210 * m
      → ((place : ℕ) → place < 210 * m → stray_by strays is qs place ≡ g (get_or ys place b)) → first_stray strays m is qs ≡ first_in g ys
  strays_same strays g b ys long each =
      let up = length_up 0 (210 * m) in
      first_same (stray_by strays is qs) g 0 b (up_from 0 (210 * m)) ys (up ∙ sym long) (λ place h.
      let l : place < 210 * m = omega (arith, up) in
      ap (stray_by strays is qs) (up_at 0 (210 * m) place l ∙ zero-add place) ∙ each place l)

  pub stray_scheme : {scheme : List ℕ} → Scheme scheme
      → first_stray (λ s i q. is_stray (label_of (get_or scheme s 0) i q)) m is qs ≡ stray_in (repeated m scheme) (received m is qs)
  stray_scheme {scheme} good =
      strays_same (λ s i q. is_stray (label_of (get_or scheme s 0) i q)) is_stray None (labels good m is qs) (labels_long good m is qs)
      (λ place l. ap is_stray (sym (labels_at good m is qs place l)))

  abbrev straying : Point → Bool
  straying p = is_stray (phase_of (level_i p) (level_q p))

  pub stray_phases : first_stray (λ s i q. is_stray (phase_of i q)) m is qs ≡ stray_at (received m is qs)
  stray_phases =
      strays_same (λ s i q. is_stray (phase_of i q)) straying Nothing (received m is qs) (length-received m is qs)
      (λ place l. ap straying (sym (received_at m is qs place l)))
