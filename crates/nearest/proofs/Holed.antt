-- Squares with holes, where n is odd: the least of four keys is the nearest's, beside a hole and round a line.
-- Assumes nothing.
use mathlib.Core.Path.{◌≡◌, refl, sym, ap, subst, ◌∙◌}
use mathlib.Core.Logic.{◌⊎◌, inl, inr}
use mathlib.Core.Bool.{Bool, true, false, cond, ◌&&◌, true≢false}
use Prim.Native.Nat.{ℕ, ◌+◌, ◌-◌, ◌*◌, ◌%◌, ◌^◌, ◌<◌, ◌≤◌}
use native.Mathlib.Nat.{le_refl, le_trans}
use native.Mathlib.Decide.{ℕ_discrete, dec_le, dec_lt}
use native.Mathlib.Omega.{arith}
use lib.Dec.{eqb, ltb}
use lib.IntN.{ℤ, pos, negsuc, nat_abs}
use lib.ListN.{length}
use borrow.Author.Tests.{ltb-true, ltb-false, eq-eqb, ne_eqb, eqb-true}
use Rattle.points.specs.declared.Point.{Point}
use Rattle.points.specs.declared.Point.TheVariants.{At}
use Rattle.points.specs.Constellations.{points, point_of}
use Rattle.points.specs.Lent.{our_quadrants}
use Rattle.nearest.specs.declared.holes.Candidate.{Candidate}
use Rattle.nearest.specs.Nearest.{Nearest}
use Rattle.nearest.specs.Axes.{raised, width_of, stretch_of, beyond_of, level_in, is_hole, off_of, far_of, key_of, candidate_of, lesser, least_of, standing, round_line, beside_hole, on_none, in_holed}
use Rattle.nearest.proofs.Charts.{label_for, Solid, Charted}
use Rattle.nearest.proofs.Stretches.{stretch_lt, nearest_stretch, OnLine, line_cases, beyond_near, beyond_lt, as_near, off_before, off_behind}
use Rattle.nearest.proofs.Squares.{sum_le, sum_alike, nearest_of}

-- ---- the least of four: it is one of them, and its key at most each one's

lesser_is : (P : Candidate → Type 0) (a b : Candidate) → P a → P b → P (lesser a b)
lesser_is P a b pa pb = by (ltb b.key a.key)
  where
    by : (t : Bool) → P (cond t b a)
    by true = pb
    by false = pa

lesser_left : (a b : Candidate) → (lesser a b).key ≤ a.key
lesser_left a b = by (ltb b.key a.key) refl
  where
    by : (t : Bool) → ltb b.key a.key ≡ t → (cond t b a).key ≤ a.key
    by true e = let h : b.key < a.key = ltb-true b.key a.key e in omega arith
    by false e = le_refl a.key

lesser_right : (a b : Candidate) → (lesser a b).key ≤ b.key
lesser_right a b = by (ltb b.key a.key) refl
  where
    by : (t : Bool) → ltb b.key a.key ≡ t → (cond t b a).key ≤ b.key
    by true e = le_refl b.key
    by false e = ltb-false b.key a.key e

module _ (a b c d : Candidate) where
  least_is : (P : Candidate → Type 0) → P a → P b → P c → P d → P (least_of a b c d)
  least_is P pa pb pc pd = lesser_is P (lesser a b) (lesser c d) (lesser_is P a b pa pb) (lesser_is P c d pc pd)

  least_1 : (least_of a b c d).key ≤ a.key
  least_1 = le_trans (lesser_left (lesser a b) (lesser c d)) (lesser_left a b)

  least_2 : (least_of a b c d).key ≤ b.key
  least_2 = le_trans (lesser_left (lesser a b) (lesser c d)) (lesser_right a b)

  least_3 : (least_of a b c d).key ≤ c.key
  least_3 = le_trans (lesser_right (lesser a b) (lesser c d)) (lesser_left c d)

  least_4 : (least_of a b c d).key ≤ d.key
  least_4 = le_trans (lesser_right (lesser a b) (lesser c d)) (lesser_right c d)

-- ---- holes

and_false : (a b : Bool) → b ≡ false → (a && b) ≡ false
and_false true b e = e
and_false false b e = refl

no_hole_i : (j k : ℕ) → (j % 3 ≡ 1 → ⊥) → is_hole j k ≡ false
no_hole_i j k h = ap (λ (t : Bool). t && eqb (k % 3) 1) (ne_eqb (j % 3) 1 h)

no_hole_q : (j k : ℕ) → (k % 3 ≡ 1 → ⊥) → is_hole j k ≡ false
no_hole_q j k h = and_false (eqb (j % 3) 1) (eqb (k % 3) 1) (ne_eqb (k % 3) 1 h)

hole_is : (j k : ℕ) → is_hole j k ≡ true → (j % 3 ≡ 1) × (k % 3 ≡ 1)
hole_is j k = by (eqb (j % 3) 1) (eqb (k % 3) 1) refl refl
  where
    by : (a b : Bool) → eqb (j % 3) 1 ≡ a → eqb (k % 3) 1 ≡ b → (a && b) ≡ true → (j % 3 ≡ 1) × (k % 3 ≡ 1)
    by true true p r e = (eqb-true (j % 3) 1 p, eqb-true (k % 3) 1 r)
    by true false p r e = absurd (true≢false (sym e))
    by false b p r e = absurd (true≢false (sym e))

-- two thirds beside each other are not both 1
thirds_apart : (s : ℕ) → 0 < s → s % 3 ≡ 1 → (s - 1) % 3 ≡ 1 → ⊥
thirds_apart s h p r = omega arith

before_lt : (s w : ℕ) → s < w → s - 1 < w
before_lt s w h = omega arith

behind : (f g h : ℕ) → f ≡ g → (h ≤ g → ⊥) → (f ≤ h) × (h ≤ f → ⊥)
behind f g h e no_less = (omega arith, λ l. omega arith)

raised_low : (i : ℤ) → nat_abs i ≤ 32768 → raised i ≤ 65536
raised_low (pos n) h = omega arith
raised_low (negsuc n) h = omega arith

off_low : (w x j : ℕ) → w ≤ 32 → j < w → x ≤ 65536 → off_of w x j ≤ 65536
off_low w x j h k l = omega arith

-- ---- four candidates

module _ (n : ℕ) (charted : Charted n) (odd : n % 2 ≡ 1) (i q : ℤ) (hi : nat_abs i ≤ 32768) (hq : nat_abs q ≤ 32768) where
  abbrev x : ℕ
  x = raised i

  abbrev y : ℕ
  y = raised q

  abbrev w : ℕ
  w = width_of n

  -- the squared distance to the point of two stretches, the candidate, and its key
  abbrev far_to : ℕ → ℕ → ℕ
  far_to j k = far_of w x y j k

  abbrev at : ℕ → ℕ → Candidate
  at j k = candidate_of our_quadrants n w x y j k

  abbrev key_at : ℕ → ℕ → ℕ
  key_at j k = key_of our_quadrants n w x y j k

  key_hole : (j k : ℕ) → is_hole j k ≡ true → key_at j k ≡ 2 ^ 63
  key_hole j k h = rw h

  key_solid : (j k : ℕ) → is_hole j k ≡ false → key_at j k ≡ 1024 * far_to j k + label_for n j k
  unfolding label_for
  key_solid j k h = rw h

  key_low : (j k : ℕ) → Solid n j k → key_at j k < 2 ^ 63
  key_low j k s =
      let a = off_low w x j charted.most s.low_j (raised_low i hi) in
      let b = off_low w y k charted.most s.low_k (raised_low q hq) in
      let f : far_to j k ≤ 65536 * 65536 + 65536 * 65536 = sum_le (off_of w x j) (off_of w y k) 65536 65536 a b in
      let l : label_for n j k < length (points n) = charted.label_low s in
      let m : length (points n) ≤ 1024 = charted.few in
      rw (key_solid j k (s.no_hole odd)) (omega arith)

  -- a key is at most that of stretches which come no later than a and b: in distance, then in label
  record Covered (key a b : ℕ) : Type 0 where
    c : ℕ
    d : ℕ
    solid : Solid n c d
    before : key ≤ key_at c d
    near : far_to c d ≤ far_to a b
    low : far_to a b ≤ far_to c d → label_for n c d ≤ label_for n a b

  corner : Solid n 0 0
  corner = let two = charted.two in record { low_j = omega arith; low_k = omega arith; no_hole = λ _. refl }

  Found : Point → Type 0
  Found p = (l : ℕ) × Nearest (points n) i q l × (p ≡ point_of n l)

  -- a candidate whose key is at most those that cover all others is the nearest
  foremost : (j k : ℕ) → j < w → k < w → ((a b : ℕ) → Solid n a b → Covered (key_at j k) a b) → Found (standing (at j k))
  unfolding Found
  foremost j k hj hk cover = by (is_hole j k) refl
    where
      by : (t : Bool) → is_hole j k ≡ t → (l : ℕ) × Nearest (points n) i q l × (standing (at j k) ≡ point_of n l)
      by true e =
          let v = cover 0 0 corner in
          let a : key_at j k ≤ key_at v.c v.d = v.before in
          let b = key_low v.c v.d v.solid in
          let h = key_hole j k e in
          absurd (omega arith)
      by false e =
          let s : Solid n j k = record { low_j = hj; low_k = hk; no_hole = λ _. e } in
          (label_for n j k, nearest_of n charted i q hi hq j k s (λ a b t. each a b t (cover a b t)), sym (charted.label_there s))
        where
          each : (a b : ℕ) → Solid n a b → Covered (key_at j k) a b → (far_to j k ≤ far_to a b) × (far_to a b ≤ far_to j k → label_for n j k ≤ label_for n a b)
          each a b t v =
              let before : key_at j k ≤ key_at v.c v.d = v.before in
              let own : key_at j k ≡ 1024 * far_to j k + label_for n j k = key_solid j k e in
              let other : key_at v.c v.d ≡ 1024 * far_to v.c v.d + label_for n v.c v.d = key_solid v.c v.d (v.solid.no_hole odd) in
              let l : label_for n v.c v.d < length (points n) = charted.label_low v.solid in
              compare (key_at j k) (far_to j k) (label_for n j k) (key_at v.c v.d) (far_to v.c v.d) (label_for n v.c v.d)
              (far_to a b) (label_for n a b) before own other (le_trans l charted.few) v.near v.low
            where
              compare : (k1 f1 l1 k2 f2 l2 f l : ℕ) → k1 ≤ k2 → k1 ≡ 1024 * f1 + l1 → k2 ≡ 1024 * f2 + l2 → l2 < 1024 → f2 ≤ f → (f ≤ f2 → l2 ≤ l)
                  → (f1 ≤ f) × (f ≤ f1 → l1 ≤ l)
              compare k1 f1 l1 k2 f2 l2 f l h e1 e2 m near low =
                  let first : f1 ≤ f2 = omega arith in
                  (omega arith, λ g. let second : l2 ≤ l = low (omega arith) in omega arith)

  record Among (m : Candidate) : Type 0 where
    c : ℕ
    d : ℕ
    low_c : c < w
    low_d : d < w
    is : m ≡ at c d

  found : (m : Candidate) → Among m → ((a b : ℕ) → Solid n a b → Covered m.key a b) → Found (standing m)
  found m v cover =
      subst (λ (o : Candidate). Found (standing o)) (sym v.is)
      (foremost v.c v.d v.low_c v.low_d (λ a b s. subst (λ (o : Candidate). Covered o.key a b) v.is (cover a b s)))

  -- ---- where it lies

  abbrev j : ℕ
  j = stretch_of w x

  abbrev k : ℕ
  k = stretch_of w y

  abbrev j2 : ℕ
  j2 = beyond_of w x j

  abbrev k2 : ℕ
  k2 = beyond_of w y k

  low_j : j < w
  low_j = stretch_lt w x charted.two charted.most

  low_k : k < w
  low_k = stretch_lt w y charted.two charted.most

  near_j : (a : ℕ) → a < w → off_of w x j ≤ off_of w x a
  near_j = nearest_stretch w x charted.two charted.most

  near_k : (b : ℕ) → b < w → off_of w y k ≤ off_of w y b
  near_k = nearest_stretch w y charted.two charted.most

  -- where it is on no line, one as near is the one
  only_j : j2 ≡ j → (a : ℕ) → a < w → off_of w x a ≡ off_of w x j → a ≡ j
  only_j e a h p = by (as_near w x charted.two charted.most a h p)
    where
      by : (a ≡ j) ⊎ (a ≡ j2) → a ≡ j
      by (inl r) = r
      by (inr r) = r ∙ e

  only_k : k2 ≡ k → (b : ℕ) → b < w → off_of w y b ≡ off_of w y k → b ≡ k
  only_k e b h p = by (as_near w y charted.two charted.most b h p)
    where
      by : (b ≡ k) ⊎ (b ≡ k2) → b ≡ k
      by (inl r) = r
      by (inr r) = r ∙ e

  -- stretches that are least on both axes and alone in that cover others
  covering : (key a b c d : ℕ) → Solid n c d → key ≤ key_at c d → off_of w x c ≤ off_of w x a → off_of w y d ≤ off_of w y b
      → (off_of w x a ≡ off_of w x c → a ≡ c) → (off_of w y b ≡ off_of w y d → b ≡ d) → Covered key a b
  covering key a b c d s before h l p r = record {
    c = c;
    d = d;
    solid = s;
    before = before;
    near = sum_le (off_of w x c) (off_of w y d) (off_of w x a) (off_of w y b) h l;
    low = λ e.
        let alike = sum_alike (off_of w x c) (off_of w y d) (off_of w x a) (off_of w y b) h l e in
        rw (p alike.0, r alike.1) (le_refl (label_for n c d));
  }

  -- on no line and in no hole
  alone : j2 ≡ j → k2 ≡ k → is_hole j k ≡ false → Found (At (level_in w j) (level_in w k))
  alone e f none = foremost j k low_j low_k cover
    where
      solid : Solid n j k
      solid = record { low_j = low_j; low_k = low_k; no_hole = λ _. none }

      cover : (a b : ℕ) → Solid n a b → Covered (key_at j k) a b
      cover a b s =
          covering (key_at j k) a b j k solid (le_refl (key_at j k)) (near_j a s.low_j) (near_k b s.low_k)
          (only_j e a s.low_j) (only_k f b s.low_k)

  -- on no line, in a hole
  beside : j2 ≡ j → k2 ≡ k → is_hole j k ≡ true → Found (beside_hole our_quadrants n w x y j k)
  beside e f hole = found m among cover
    where
      m : Candidate
      m = least_of (at (j - 1) k) (at (j + 1) k) (at j (k - 1)) (at j (k + 1))

      third_j : j % 3 ≡ 1
      third_j = (hole_is j k hole).0

      third_k : k % 3 ≡ 1
      third_k = (hole_is j k hole).1

      inner : (w s : ℕ) → w % 3 ≡ 0 → s % 3 ≡ 1 → s < w → (s - 1 < w) × (s + 1 < w) × ((s - 1) % 3 ≡ 1 → ⊥) × ((s + 1) % 3 ≡ 1 → ⊥)
      inner w s h p l = (omega arith, omega arith, λ r. omega arith, λ r. omega arith)

      inner_j : (j - 1 < w) × (j + 1 < w) × ((j - 1) % 3 ≡ 1 → ⊥) × ((j + 1) % 3 ≡ 1 → ⊥)
      inner_j = inner w j (charted.thirds odd) third_j low_j

      inner_k : (k - 1 < w) × (k + 1 < w) × ((k - 1) % 3 ≡ 1 → ⊥) × ((k + 1) % 3 ≡ 1 → ⊥)
      inner_k = inner w k (charted.thirds odd) third_k low_k

      among : Among m
      among = least_is (at (j - 1) k) (at (j + 1) k) (at j (k - 1)) (at j (k + 1)) Among
          record { c = j - 1; d = k; low_c = inner_j.0; low_d = low_k; is = refl }
          record { c = j + 1; d = k; low_c = inner_j.1; low_d = low_k; is = refl }
          record { c = j; d = k - 1; low_c = low_j; low_d = inner_k.0; is = refl }
          record { c = j; d = k + 1; low_c = low_j; low_d = inner_k.1; is = refl }

      cover : (a b : ℕ) → Solid n a b → Covered m.key a b
      cover a b s = by (dec_lt a j) (dec_lt j a) (dec_lt b k) (dec_lt k b)
        where
          by : Dec (a < j) → Dec (j < a) → Dec (b < k) → Dec (k < b) → Covered m.key a b
          by (yes h) _ _ _ =
              let o = off_before w x charted.two charted.most a h in
              covering m.key a b (j - 1) k record { low_j = inner_j.0; low_k = low_k; no_hole = λ _. no_hole_i (j - 1) k inner_j.2 }
              (least_1 (at (j - 1) k) (at (j + 1) k) (at j (k - 1)) (at j (k + 1))) o.0 (near_k b s.low_k) o.1 (only_k f b s.low_k)
          by (no _) (yes h) _ _ =
              let o = off_behind w x charted.two charted.most a h s.low_j in
              covering m.key a b (j + 1) k record { low_j = inner_j.1; low_k = low_k; no_hole = λ _. no_hole_i (j + 1) k inner_j.3 }
              (least_2 (at (j - 1) k) (at (j + 1) k) (at j (k - 1)) (at j (k + 1))) o.0 (near_k b s.low_k) o.1 (only_k f b s.low_k)
          by (no _) (no _) (yes h) _ =
              let o = off_before w y charted.two charted.most b h in
              covering m.key a b j (k - 1) record { low_j = low_j; low_k = inner_k.0; no_hole = λ _. no_hole_q j (k - 1) inner_k.2 }
              (least_3 (at (j - 1) k) (at (j + 1) k) (at j (k - 1)) (at j (k + 1))) (near_j a s.low_j) o.0 (only_j e a s.low_j) o.1
          by (no _) (no _) (no _) (yes h) =
              let o = off_behind w y charted.two charted.most b h s.low_k in
              covering m.key a b j (k + 1) record { low_j = low_j; low_k = inner_k.1; no_hole = λ _. no_hole_q j (k + 1) inner_k.3 }
              (least_4 (at (j - 1) k) (at (j + 1) k) (at j (k - 1)) (at j (k + 1))) (near_j a s.low_j) o.0 (only_j e a s.low_j) o.1
          by (no p) (no r) (no t) (no u) =
              let ej : a ≡ j = omega arith in
              let ek : b ≡ k = omega arith in
              absurd (true≢false (sym hole ∙ subst (λ (c : ℕ). is_hole c k ≡ false) ej (subst (λ (d : ℕ). is_hole a d ≡ false) ek (s.no_hole odd))))

  -- ---- on a line, or on two

  -- two stretches among the four round it, with no hole
  record Round : Type 0 where
    c : ℕ
    d : ℕ
    is_c : (c ≡ j) ⊎ (c ≡ j2)
    is_d : (d ≡ k) ⊎ (d ≡ k2)
    solid : Solid n c d

  round : OnLine w x j ⊎ OnLine w y k → Round
  round (inl o) = by (ℕ_discrete (j % 3) 1)
    where
      by : Dec (j % 3 ≡ 1) → Round
      by (yes t) = record {
        c = j - 1;
        d = k;
        is_c = inr (sym o.before);
        is_d = inl refl;
        solid = record { low_j = before_lt j w low_j; low_k = low_k; no_hole = λ _. no_hole_i (j - 1) k (thirds_apart j o.some t) };
      }
      by (no t) = record { c = j; d = k; is_c = inl refl; is_d = inl refl; solid = record { low_j = low_j; low_k = low_k; no_hole = λ _. no_hole_i j k t } }
  round (inr o) = by (ℕ_discrete (k % 3) 1)
    where
      by : Dec (k % 3 ≡ 1) → Round
      by (yes t) = record {
        c = j;
        d = k - 1;
        is_c = inl refl;
        is_d = inr (sym o.before);
        solid = record { low_j = low_j; low_k = before_lt k w low_k; no_hole = λ _. no_hole_q j (k - 1) (thirds_apart k o.some t) };
      }
      by (no t) = record { c = j; d = k; is_c = inl refl; is_d = inl refl; solid = record { low_j = low_j; low_k = low_k; no_hole = λ _. no_hole_q j k t } }

  alike_j : (c : ℕ) → (c ≡ j) ⊎ (c ≡ j2) → off_of w x c ≡ off_of w x j
  alike_j c (inl e) = ap (off_of w x) e
  alike_j c (inr e) = ap (off_of w x) e ∙ beyond_near w x charted.two charted.most

  alike_k : (d : ℕ) → (d ≡ k) ⊎ (d ≡ k2) → off_of w y d ≡ off_of w y k
  alike_k d (inl e) = ap (off_of w y) e
  alike_k d (inr e) = ap (off_of w y) e ∙ beyond_near w y charted.two charted.most

  rounded : OnLine w x j ⊎ OnLine w y k → Found (round_line our_quadrants n w x y j k j2 k2)
  rounded o = found m among cover
    where
      m : Candidate
      m = least_of (at j k) (at j2 k) (at j k2) (at j2 k2)

      low_j2 : j2 < w
      low_j2 = beyond_lt w x charted.two charted.most

      low_k2 : k2 < w
      low_k2 = beyond_lt w y charted.two charted.most

      among : Among m
      among = least_is (at j k) (at j2 k) (at j k2) (at j2 k2) Among
          record { c = j; d = k; low_c = low_j; low_d = low_k; is = refl }
          record { c = j2; d = k; low_c = low_j2; low_d = low_k; is = refl }
          record { c = j; d = k2; low_c = low_j; low_d = low_k2; is = refl }
          record { c = j2; d = k2; low_c = low_j2; low_d = low_k2; is = refl }

      least : (c d : ℕ) → (c ≡ j) ⊎ (c ≡ j2) → (d ≡ k) ⊎ (d ≡ k2) → m.key ≤ key_at c d
      least c d (inl e) (inl f) = rw (e, f) (least_1 (at j k) (at j2 k) (at j k2) (at j2 k2))
      least c d (inr e) (inl f) = rw (e, f) (least_2 (at j k) (at j2 k) (at j k2) (at j2 k2))
      least c d (inl e) (inr f) = rw (e, f) (least_3 (at j k) (at j2 k) (at j k2) (at j2 k2))
      least c d (inr e) (inr f) = rw (e, f) (least_4 (at j k) (at j2 k) (at j k2) (at j2 k2))

      cover : (a b : ℕ) → Solid n a b → Covered m.key a b
      cover a b s = by (dec_le (far_to a b) (far_to j k))
        where
          by : Dec (far_to a b ≤ far_to j k) → Covered m.key a b
          by (yes h) =
              let alike = sum_alike (off_of w x j) (off_of w y k) (off_of w x a) (off_of w y b) (near_j a s.low_j) (near_k b s.low_k) h in
              let is_a = as_near w x charted.two charted.most a s.low_j alike.0 in
              let is_b = as_near w y charted.two charted.most b s.low_k alike.1 in
              record { c = a; d = b; solid = s; before = least a b is_a is_b; near = le_refl (far_to a b); low = λ _. le_refl (label_for n a b) }
          by (no h) =
              let r = round o in
              let same_j = alike_j r.c r.is_c in
              let same_k = alike_k r.d r.is_d in
              let far : far_to r.c r.d ≡ far_to j k = rw (same_j, same_k) in
              let past = behind (far_to r.c r.d) (far_to j k) (far_to a b) far h in
              record {
                c = r.c;
                d = r.d;
                solid = r.solid;
                before = least r.c r.d r.is_c r.is_d;
                near = past.0;
                low = λ e. absurd (past.1 e);
              }

  -- ---- any

  on_none_lem : j2 ≡ j → k2 ≡ k → on_none j k j2 k2 ≡ true
  on_none_lem e f = ap (λ (t : Bool). t && eqb k k2) (eq-eqb j j2 (sym e)) ∙ eq-eqb k k2 (sym f)

  off_line : (s t : ℕ) → 0 < s → t ≡ s - 1 → eqb s t ≡ false
  off_line s t h e = ne_eqb s t (λ p. omega arith)

  on_some : OnLine w x j ⊎ OnLine w y k → on_none j k j2 k2 ≡ false
  on_some (inl o) = ap (λ (t : Bool). t && eqb k k2) (off_line j j2 o.some o.before)
  on_some (inr o) = and_false (eqb j j2) (eqb k k2) (off_line k k2 o.some o.before)

  abbrev chosen : Bool → Bool → Point
  chosen none hole = cond none (cond hole (beside_hole our_quadrants n w x y j k) (At (level_in w j) (level_in w k))) (round_line our_quadrants n w x y j k j2 k2)

  any : Found (in_holed our_quadrants n x y)
  unfolding in_holed
  any = by (line_cases w x j) (line_cases w y k)
    where
      crossed : OnLine w x j ⊎ OnLine w y k → Found (chosen (on_none j k j2 k2) (is_hole j k))
      crossed o = subst (λ (t : Bool). Found (chosen t (is_hole j k))) (sym (on_some o)) (rounded o)

      clear : j2 ≡ j → k2 ≡ k → (t : Bool) → is_hole j k ≡ t → Found (chosen true t)
      clear e f true h = beside e f h
      clear e f false h = alone e f h

      by : (j2 ≡ j) ⊎ OnLine w x j → (k2 ≡ k) ⊎ OnLine w y k → Found (chosen (on_none j k j2 k2) (is_hole j k))
      by (inl e) (inl f) = subst (λ (t : Bool). Found (chosen t (is_hole j k))) (sym (on_none_lem e f)) (clear e f (is_hole j k) refl)
      by (inl e) (inr o) = crossed (inr o)
      by (inr o) d = crossed (inl o)

-- in a square with holes what the code decides is the nearest point
pub holed_near : (n : ℕ) → Charted n → 2 ≤ n → n ≤ 10 → n % 2 ≡ 1 → (i q : ℤ) → nat_abs i ≤ 32768 → nat_abs q ≤ 32768
    → (l : ℕ) × Nearest (points n) i q l × (in_holed our_quadrants n (raised i) (raised q) ≡ point_of n l)
unfolding Found
holed_near n charted _ _ odd i q hi hq = any n charted odd i q hi hq
