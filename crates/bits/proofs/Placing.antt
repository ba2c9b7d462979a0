-- The places where two words differ: as many as `differ` counts, rising, none twice, each an index of the word; and flipping those of one word gives the other.
-- Assumes nothing.
use mathlib.Core.Path.{◌≡◌, refl, sym, ap, ap₂, ◌∙◌}
use mathlib.Core.Bool.{cond}
use mathlib.Core.List.{List, [], ◌∷◌, ◌++◌, append_assoc}
use mathlib.Core.Logic.{◌≢◌, by_cases}
use Prim.Native.Nat.{ℕ, zero, suc, ◌+◌, ◌-◌, ◌≤◌, ◌<◌}
use native.Mathlib.Decide.{dec_lt, ℕ_discrete}
use native.Mathlib.Omega.{arith}
use borrow.Author.Tests.{eq-eqb, ne_eqb}
use lib.Dec.{eqb}
use lib.ListN.{length, get_or, set, length-append}
use lib.Seq.{ext_get_or}
use Rattle.bits.specs.Words.{Bits, differ}
use Rattle.bits.specs.Places.{places_from, places, flipped_at}
use Rattle.bits.proofs.Digits.{bits_at}
use Rattle.bits.proofs.Distances.{apart_same, apart_other, differ-cons, differ-nil, differ_to_nil, differ_self}

-- ---- one place

-- the index, where two elements differ
mark : ℕ → ℕ → ℕ → List ℕ
mark i v w = cond (eqb v w) [] (i ∷ [])

mark_same : (i v w : ℕ) → v ≡ w → mark i v w ≡ []
unfolding mark
mark_same i v w e = rw (eq-eqb v w e)

mark_other : (i v w : ℕ) → v ≢ w → mark i v w ≡ i ∷ []
unfolding mark
mark_other i v w n = rw (ne_eqb v w n)

places_cons : (i v w : ℕ) (vs ws : List ℕ) → places_from i (v ∷ vs) (w ∷ ws) ≡ mark i v w ++ places_from (suc i) vs ws
unfolding places_from mark
places_cons i v w vs ws = refl

-- by whether two first elements differ
by_mark : (P : List ℕ → Type 0) (i v w : ℕ) (vs ws : List ℕ) → (v ≡ w → P (places_from (suc i) vs ws)) → (v ≢ w → P (i ∷ places_from (suc i) vs ws))
    → P (places_from i (v ∷ vs) (w ∷ ws))
by_mark P i v w vs ws same other =
    rw (places_cons i v w vs ws) (by_cases (ℕ_discrete v w) (λ e. rw (mark_same i v w e) (same e)) (λ n. rw (mark_other i v w n) (other n)))

-- ---- as many as differ

as_many_from : (i : ℕ) (v w : List ℕ) → length (places_from i v w) ≡ differ v w
unfolding places_from
as_many_from i [] [] = sym (differ-nil [])
as_many_from i [] (w ∷ ws) = ap suc (as_many_from (suc i) [] ws ∙ differ-nil ws) ∙ sym (differ-nil (w ∷ ws))
as_many_from i (v ∷ vs) [] = ap suc (as_many_from (suc i) vs [] ∙ differ_to_nil vs) ∙ sym (differ_to_nil (v ∷ vs))
as_many_from i (v ∷ vs) (w ∷ ws) =
    by_mark (λ l. length l ≡ differ (v ∷ vs) (w ∷ ws)) i v w vs ws
    (λ e. as_many_from (suc i) vs ws ∙ sym (differ-cons v w vs ws ∙ rw (apart_same v w e) (omega arith)))
    (λ n. ap suc (as_many_from (suc i) vs ws) ∙ sym (differ-cons v w vs ws ∙ rw (apart_other v w n) (omega arith)))

pub as_many : (v w : List ℕ) → length (places v w) ≡ differ v w
as_many = as_many_from 0

-- ---- in order, and in the word

-- every entry lies from i on, below i + n
abbrev Between : ℕ → ℕ → List ℕ → Type 0
Between i n l = (a : ℕ) → a < length l → (i ≤ get_or l a 0) × (get_or l a 0 < i + n)

-- each entry is greater than those before it
abbrev pub Rising : List ℕ → Type 0
Rising l = (a b : ℕ) → a < b → b < length l → get_or l a 0 < get_or l b 0

between_nil : (i n : ℕ) → Between i n []
between_nil i n a l = absurd (omega arith)

-- an index in front of what lies behind it
between_cons : (i n : ℕ) (l : List ℕ) → Between (suc i) n l → Between i (suc n) (i ∷ l)
between_cons i n l h zero r = (omega arith, omega arith)
between_cons i n l h (suc a) r = let k = h a (omega arith) in (omega (arith, k.0), omega (arith, k.1))

between_more : (i n : ℕ) (l : List ℕ) → Between (suc i) n l → Between i (suc n) l
between_more i n l h a r = let k = h a r in (omega (arith, k.0), omega (arith, k.1))

between : (i n : ℕ) (v w : List ℕ) → length v ≤ n → length w ≤ n → Between i n (places_from i v w)
unfolding places_from
between i n [] [] hv hw = between_nil i n
between i zero [] (w ∷ ws) hv hw = absurd (omega arith)
between i (suc n) [] (w ∷ ws) hv hw = between_cons i n (places_from (suc i) [] ws) (between (suc i) n [] ws (omega arith) (omega arith))
between i zero (v ∷ vs) w hv hw = absurd (omega arith)
between i (suc n) (v ∷ vs) [] hv hw = between_cons i n (places_from (suc i) vs []) (between (suc i) n vs [] (omega arith) (omega arith))
between i (suc n) (v ∷ vs) (w ∷ ws) hv hw =
    let behind = between (suc i) n vs ws (omega arith) (omega arith) in
    by_mark (Between i (suc n)) i v w vs ws (λ _. between_more i n (places_from (suc i) vs ws) behind) (λ _. between_cons i n (places_from (suc i) vs ws) behind)

rising_cons : (i n : ℕ) (l : List ℕ) → Between (suc i) n l → Rising l → Rising (i ∷ l)
rising_cons i n l h r zero zero o k = absurd (omega arith)
rising_cons i n l h r zero (suc b) o k = omega (arith, (h b (omega arith)).0)
rising_cons i n l h r (suc a) zero o k = absurd (omega arith)
rising_cons i n l h r (suc a) (suc b) o k = r a b (omega arith) (omega arith)

rising_nil : Rising []
rising_nil a b o k = absurd (omega arith)

behind : (i : ℕ) (v w : List ℕ) → Between i (length v + length w) (places_from i v w)
behind i v w = between i (length v + length w) v w (omega arith) (omega arith)

rises_from : (i : ℕ) (v w : List ℕ) → Rising (places_from i v w)
unfolding places_from
rises_from i [] [] = rising_nil
rises_from i [] (w ∷ ws) = rising_cons i (length {A = ℕ} [] + length ws) (places_from (suc i) [] ws) (behind (suc i) [] ws) (rises_from (suc i) [] ws)
rises_from i (v ∷ vs) [] = rising_cons i (length vs + length {A = ℕ} []) (places_from (suc i) vs []) (behind (suc i) vs []) (rises_from (suc i) vs [])
rises_from i (v ∷ vs) (w ∷ ws) =
    by_mark Rising i v w vs ws (λ _. rises_from (suc i) vs ws)
    (λ _. rising_cons i (length vs + length ws) (places_from (suc i) vs ws) (behind (suc i) vs ws) (rises_from (suc i) vs ws))

pub rises : (v w : List ℕ) → Rising (places v w)
rises = rises_from 0

pub none_twice : (v w : List ℕ) (a b : ℕ) → a < length (places v w) → b < length (places v w) → get_or (places v w) a 0 ≡ get_or (places v w) b 0 → a ≡ b
none_twice v w a b ha hb e =
    by_cases (dec_lt a b) (λ l. absurd (let k = rises v w a b l hb in omega arith)) (λ n. by_cases (dec_lt b a)
    (λ l. absurd (let k = rises v w b a l ha in omega arith)) (λ m. omega arith))

pub in_word : (v w : List ℕ) → length v ≡ length w → (a : ℕ) → a < length (places v w) → get_or (places v w) a 0 < length w
in_word v w e a l = let k = between 0 (length w) v w (omega arith) (omega arith) a l in omega (arith, k.1)

-- ---- flipped there, one word is the other

-- the element behind those in front
pub set_behind : (front : List ℕ) (x y : ℕ) (l : List ℕ) → set (front ++ (x ∷ l)) (length front) y ≡ front ++ (y ∷ l)
set_behind [] x y l = refl
set_behind (f ∷ front) x y l = ap (λ (r : List ℕ). f ∷ r) (set_behind front x y l)

get_behind : (front : List ℕ) (x : ℕ) (l : List ℕ) → get_or (front ++ (x ∷ l)) (length front) 0 ≡ x
get_behind [] x l = refl
get_behind (f ∷ front) x l = get_behind front x l

flips_from : (front v w : List ℕ) → Bits v → Bits w → length v ≡ length w → flipped_at (places_from (length front) v w) (front ++ w) ≡ front ++ v
unfolding places_from flipped_at
flips_from front [] [] bv bw e = refl
flips_from front [] (w ∷ ws) bv bw e = absurd (omega arith)
flips_from front (v ∷ vs) [] bv bw e = absurd (omega arith)
flips_from front (v ∷ vs) (w ∷ ws) bv bw e =
    by_mark (λ l. flipped_at l (front ++ (w ∷ ws)) ≡ front ++ (v ∷ vs)) (length front) v w vs ws
    (λ same. rw same (on w (flips_from (front ++ (w ∷ [])) vs ws bv.1 bw.1 (omega arith))))
    (λ other. let y : 1 - w ≡ v = omega (arith, bv.0, bw.0, other) in
    ap (flipped_at (places_from (suc (length front)) vs ws))
    (ap (set (front ++ (w ∷ ws)) (length front)) (ap (λ (x : ℕ). 1 - x) (get_behind front w ws) ∙ y) ∙ set_behind front w v ws)
    ∙ on v (flips_from (front ++ (v ∷ [])) vs ws bv.1 bw.1 (omega arith)))
  where
    -- the first elements the same, and so on behind them
    on : (x : ℕ) → flipped_at (places_from (length (front ++ (x ∷ []))) vs ws) ((front ++ (x ∷ [])) ++ ws) ≡ (front ++ (x ∷ [])) ++ vs
        → flipped_at (places_from (suc (length front)) vs ws) (front ++ (x ∷ ws)) ≡ front ++ (x ∷ vs)
    on x h =
        let long : length (front ++ (x ∷ [])) ≡ suc (length front) = length-append front (x ∷ []) ∙ omega arith in
        ap₂ (λ (n : ℕ) (l : List ℕ). flipped_at (places_from n vs ws) l) (sym long) (sym (append_assoc front (x ∷ []) ws)) ∙ h ∙ append_assoc front (x ∷ []) vs

pub flips : (v w : List ℕ) → Bits v → Bits w → length v ≡ length w → flipped_at (places v w) w ≡ v
flips = flips_from []

-- ---- where nothing differs

empty : (l : List ℕ) → length l ≡ 0 → l ≡ []
empty [] e = refl
empty (x ∷ l) e = absurd (omega arith)

none_from : (i : ℕ) (v : List ℕ) → places_from i v v ≡ []
none_from i v = empty (places_from i v v) (as_many_from i v v ∙ differ_self v)

pub places_self : (v : List ℕ) → places v v ≡ []
places_self = none_from 0

-- ---- one element changed, behind all that differ

-- from the index p on the words are the same
abbrev Same : ℕ → List ℕ → List ℕ → Type 0
Same p v w = (j : ℕ) → p ≤ j → get_or v j 0 ≡ get_or w j 0

set_from : (i : ℕ) (v w : List ℕ) (p x : ℕ) → length v ≡ length w → p < length w → Same p v w → x ≢ get_or w p 0
    → places_from i (set v p x) w ≡ places_from i v w ++ ((i + p) ∷ [])
set_from i [] [] p x e low same other = absurd (omega arith)
set_from i [] (w ∷ ws) p x e low same other = absurd (omega arith)
set_from i (v ∷ vs) [] p x e low same other = absurd (omega arith)
set_from i (v ∷ vs) (w ∷ ws) zero x e low same other =
    let behind : vs ≡ ws = ext_get_or 0 vs ws (omega arith) (λ j _. same (suc j) (omega arith)) in
    let at : i ≡ i + 0 = omega arith in
    let now : mark i x w ++ places_from (suc i) vs ws ≡ (i + 0) ∷ []
    = rw (behind, none_from (suc i) ws, mark_other i x w other) (ap (λ (n : ℕ). n ∷ []) at) in
    let none : mark i v w ++ places_from (suc i) vs ws ≡ [] = rw (behind, none_from (suc i) ws, mark_same i v w (same 0 (omega arith))) in
    places_cons i x w vs ws ∙ now ∙ ap (λ (l : List ℕ). l ++ ((i + 0) ∷ [])) (sym (places_cons i v w vs ws ∙ none))
set_from i (v ∷ vs) (w ∷ ws) (suc p) x e low same other =
    let at : suc i + p ≡ i + suc p = omega arith in
    places_cons i v w (set vs p x) ws
    ∙ ap (λ (l : List ℕ). mark i v w ++ l)
    (set_from (suc i) vs ws p x (omega arith) (omega arith) (λ j l. same (suc j) (omega arith)) other
    ∙ ap (λ (n : ℕ). places_from (suc i) vs ws ++ (n ∷ [])) at)
    ∙ sym (append_assoc (mark i v w) (places_from (suc i) vs ws) ((i + suc p) ∷ []))
    ∙ ap (λ (l : List ℕ). l ++ ((i + suc p) ∷ [])) (sym (places_cons i v w vs ws))

places-set : (v w : List ℕ) (p x : ℕ) → length v ≡ length w → p < length w → Same p v w → x ≢ get_or w p 0
    → places (set v p x) w ≡ places v w ++ (p ∷ [])
places-set v w p x e low same other = set_from 0 v w p x e low same other ∙ ap (λ (n : ℕ). places v w ++ (n ∷ [])) (omega arith)

-- one bit of a word
pub places_flipped : (w : List ℕ) → Bits w → (p : ℕ) → p < length w → places (set w p (1 - get_or w p 0)) w ≡ p ∷ []
places_flipped w bits p low =
    places-set w w p (1 - get_or w p 0) refl low (λ j _. refl) (λ e. omega (arith, bits_at w bits p)) ∙ ap (λ (l : List ℕ). l ++ (p ∷ [])) (places_self w)
