-- The number of places where two words differ is a distance, and it adds up over the parts of a word.
-- Assumes nothing.
use mathlib.Core.Path.{◌≡◌, refl, sym, ap₂, ◌∙◌}
use mathlib.Core.Bool.{Bool, true, false, cond}
use mathlib.Core.List.{List, [], ◌∷◌, ◌++◌}
use mathlib.Core.Logic.{◌≢◌, by_cases}
use Prim.Native.Nat.{ℕ, zero, suc, ◌+◌, ◌≤◌}
use native.Mathlib.Nat.{zero-add, add_assoc}
use native.Mathlib.Decide.{ℕ_discrete}
use native.Mathlib.Omega.{arith}
use lib.Dec.{T, eqb, eqb→eq, eqb_refl}
use lib.ListN.{length}
use Rattle.bits.specs.Words.{differ}

-- ---- one place

-- 1 where two elements differ
pub apart : ℕ → ℕ → ℕ
apart v w = cond (eqb v w) 0 1

pub differ-cons : (v w : ℕ) (vs ws : List ℕ) → differ (v ∷ vs) (w ∷ ws) ≡ apart v w + differ vs ws
unfolding differ apart
differ-cons v w vs ws = refl

pub apart_same : (v w : ℕ) → v ≡ w → apart v w ≡ 0
unfolding apart
apart_same v w e = rw e (go (eqb w w) (eqb_refl w))
  where
    go : (b : Bool) → T b → ◌≡◌ {A = ℕ} (cond b 0 1) 0
    go true t = refl
    go false t = absurd t

pub apart_other : (v w : ℕ) → v ≢ w → apart v w ≡ 1
unfolding apart
apart_other v w h = go (eqb v w) (λ t. h (eqb→eq v w t))
  where
    go : (b : Bool) → (T b → ⊥) → ◌≡◌ {A = ℕ} (cond b 0 1) 1
    go true t = absurd (t tt)
    go false t = refl

apart-le : (v w : ℕ) → apart v w ≤ 1
apart-le v w = by_cases (ℕ_discrete v w) (λ e. omega (arith, apart_same v w e)) (λ n. omega (arith, apart_other v w n))

apart_comm : (v w : ℕ) → apart v w ≡ apart w v
apart_comm v w =
    by_cases (ℕ_discrete v w) (λ e. apart_same v w e ∙ sym (apart_same w v (sym e)))
    (λ n. apart_other v w n ∙ sym (apart_other w v (λ e. n (sym e))))

apart_triangle : (u v w : ℕ) → apart u w ≤ apart u v + apart v w
apart_triangle u v w =
    by_cases (ℕ_discrete u v) (λ e. rw e (omega arith)) (λ n. by_cases (ℕ_discrete u w)
    (λ e. omega (arith, apart_same u w e)) (λ m. omega (arith, apart_other u v n, apart_other u w m)))

apart-zero : (v w : ℕ) → apart v w ≡ 0 → v ≡ w
apart-zero v w h = by_cases (ℕ_discrete v w) (λ e. e) (λ n. absurd (omega (arith, apart_other v w n)))

-- ---- words

pub differ-nil : (w : List ℕ) → differ [] w ≡ length w
unfolding differ
differ-nil w = refl

pub differ_to_nil : (v : List ℕ) → differ v [] ≡ length v
unfolding differ
differ_to_nil [] = refl
differ_to_nil (v ∷ vs) = refl

pub differ_self : (v : List ℕ) → differ v v ≡ 0
differ_self [] = differ-nil []
differ_self (v ∷ vs) = rw (differ-cons, apart_same v v refl, differ_self vs)

pub differ_comm : (v w : List ℕ) → differ v w ≡ differ w v
differ_comm [] w = differ-nil w ∙ sym (differ_to_nil w)
differ_comm (v ∷ vs) [] = differ_to_nil (v ∷ vs) ∙ sym (differ-nil (v ∷ vs))
differ_comm (v ∷ vs) (w ∷ ws) = rw (differ-cons v w vs ws, differ-cons w v ws vs) (ap₂ ◌+◌ (apart_comm v w) (differ_comm vs ws))

-- no more places than the longer word has
pub differ-le : (v w : List ℕ) (n : ℕ) → length v ≤ n → length w ≤ n → differ v w ≤ n
differ-le [] w n hv hw = rw (differ-nil w) hw
differ-le (v ∷ vs) [] n hv hw = rw (differ_to_nil (v ∷ vs)) hv
differ-le (v ∷ vs) (w ∷ ws) zero hv hw = absurd (omega arith)
differ-le (v ∷ vs) (w ∷ ws) (suc n) hv hw =
    rw (differ-cons v w vs ws) (omega (arith, apart-le v w, differ-le vs ws n (omega arith) (omega arith)))

-- a word is no longer than another and the places where they differ
length-differ : (v w : List ℕ) → length w ≤ length v + differ v w
length-differ [] w = rw (differ-nil w) (omega arith)
length-differ (v ∷ vs) [] = omega arith
length-differ (v ∷ vs) (w ∷ ws) = rw (differ-cons v w vs ws) (omega (arith, length-differ vs ws))

pub triangle : (u v w : List ℕ) → differ u w ≤ differ u v + differ v w
triangle [] v w = rw (differ-nil w, differ-nil v) (length-differ v w)
triangle (u ∷ us) [] w = rw (differ_to_nil (u ∷ us), differ-nil w) (differ-le (u ∷ us) w (length (u ∷ us) + length w) (omega arith) (omega arith))
triangle (u ∷ us) (v ∷ vs) [] =
    rw (differ_to_nil (u ∷ us), differ_to_nil (v ∷ vs)) (omega (arith, length-differ (v ∷ vs) (u ∷ us), differ_comm (u ∷ us) (v ∷ vs)))
triangle (u ∷ us) (v ∷ vs) (w ∷ ws) =
    rw (differ-cons u w us ws, differ-cons u v us vs, differ-cons v w vs ws) (omega (arith, apart_triangle u v w, triangle us vs ws))

pub differ-zero : (v w : List ℕ) → differ v w ≡ 0 → v ≡ w
differ-zero [] [] h = refl
differ-zero [] (w ∷ ws) h = absurd (omega (arith, differ-nil (w ∷ ws)))
differ-zero (v ∷ vs) [] h = absurd (omega (arith, differ_to_nil (v ∷ vs)))
differ-zero (v ∷ vs) (w ∷ ws) h =
    let s = differ-cons v w vs ws in
    ap₂ ◌∷◌ (apart-zero v w (omega arith)) (differ-zero vs ws (omega arith))

pub differ-append : (v w v' w' : List ℕ) → length v ≡ length w → differ (v ++ v') (w ++ w') ≡ differ v w + differ v' w'
differ-append [] [] v' w' e = rw (differ-nil, zero-add)
differ-append [] (w ∷ ws) v' w' e = absurd (omega arith)
differ-append (v ∷ vs) [] v' w' e = absurd (omega arith)
differ-append (v ∷ vs) (w ∷ ws) v' w' e =
    rw (differ-cons v w vs ws, differ-cons v w (vs ++ v') (ws ++ w'), differ-append vs ws v' w' (omega arith)) (sym (add_assoc _ _ _))
