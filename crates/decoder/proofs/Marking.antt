-- The places of a word, marked where their elements are among the zeros.
-- Assumes nothing.
use mathlib.Core.Path.{◌≡◌, refl, sym, ap, ◌∙◌}
use mathlib.Core.Logic.{◌≢◌}
use mathlib.Core.List.{List}
use Prim.Native.Nat.{ℕ, suc, ◌+◌, ◌-◌, ◌*◌, ◌/◌, ◌%◌, ◌≤◌, ◌<◌}
use native.Mathlib.Nat.{mod-lt, mod-eq_of_lt}
use native.Mathlib.Decide.{dec_lt, ℕ_discrete}
use native.Mathlib.Omega.{arith}
use lib.Dec.{lit<}
use lib.ListN.{length, get_or, set, replicate}
use lib.Seq.{get_or-set_same, get_or-set_other}
use Rattle.algebra.proofs.Powers.{pow}
use Rattle.field.specs.Field.{element, power}
use Rattle.field.proofs.Elements.{gf512, element_of}
use Rattle.field.proofs.Values.{a, of_power}
use Rattle.field.proofs.Powers.{power-lt, power-mod, power-ne_0, power_0, power_511}
use Rattle.field.proofs.Logarithms.{power_inj}
use Rattle.bits.specs.Words.{digits}
use Rattle.packed.specs.Packed.{bits_from, bits512}
use Rattle.packed.proofs.Walks.{length_512}
use Rattle.roots.specs.Searches.{Searched, locator_at}
use Rattle.decoder.specs.Locators.{value_at}
use Rattle.decoder.specs.Marks.{root_at, Exponent, Placed}
use Rattle.decoder.proofs.Shifts.{zeros_at}

-- ---- exponents

-- the powers from 1 to 511 differ
once : (g e : ℕ) → 0 < g → 0 < e → g < 512 → e < 512 → power g ≡ power e → g ≡ e
once g e hg he kg ke q =
    let same : g % 511 ≡ e % 511 = power_inj (g % 511) (e % 511) (mod-lt g (lit< tt)) (mod-lt e (lit< tt)) (power-mod g ∙ q ∙ sym (power-mod e)) in
    omega arith

module _ (v : ℕ) (h : v < 512) where
  -- the three answers
  pub exponent_first : power 0 ≡ element v → Exponent v 511
  exponent_first is = record {
    most = omega arith;
    zero = λ z. absurd (power-ne_0 0 (is ∙ mod-eq_of_lt h ∙ z));
    other = λ n. (omega arith, power_511 ∙ sym power_0 ∙ is ∙ mod-eq_of_lt h);
  }

  pub exponent_none : element v ≡ 0 → Exponent v 0
  exponent_none is = record { most = omega arith; zero = λ z. refl; other = λ n. absurd (n (sym (mod-eq_of_lt h) ∙ is)) }

  pub exponent_some : (e : ℕ) → 0 < e → e < 511 → power e ≡ element v → Exponent v e
  exponent_some e p k is = record {
    most = omega arith;
    zero = λ z. absurd (power-ne_0 e (is ∙ mod-eq_of_lt h ∙ z));
    other = λ n. (p, is ∙ mod-eq_of_lt h);
  }

-- ---- zeros taken in one after the other

module _ (z : List ℕ) (n : ℕ) (marks : List ℕ) where
  -- what is not among them
  pub placed_skip : (c d : ℕ) → Placed z n c marks → c ≤ d → ((v : ℕ) → c ≤ v → v < d → root_at z v ≡ 0) → Placed z n d marks
  placed_skip c d s l k = record {
    long = s.long;
    behind = s.behind;
    later = λ p b e. s.later p b (omega arith);
    done = λ p b e. done_at p b e (dec_lt (power (512 - n + p)) c);
  }
    where
      done_at : (p : ℕ) → p < n → power (512 - n + p) < d → Dec (power (512 - n + p) < c) → get_or (bits512 marks) p 0 ≡ root_at z (power (512 - n + p))
      done_at p b e (yes y) = s.done p b y
      done_at p b e (no y) = s.later p b (omega arith) ∙ sym (k (power (512 - n + p)) (omega arith) e)

  module _ (few : n < 512) (v e : ℕ) (x : Exponent v e) (s : Placed z n v marks) where
    -- the one that v stands for
    module _ (root : root_at z v ≡ 1) (next : List ℕ) (long : length next ≡ 8) (is : bits512 next ≡ set (bits512 marks) (e + n - 512) 1) (l : 512 - n ≤ e) where
      abbrev here : ℕ
      here = e + n - 512

      exponent_here : 512 - n + here ≡ e
      exponent_here = omega arith

      next_other : (p : ℕ) → p ≢ here → get_or (bits512 next) p 0 ≡ get_or (bits512 marks) p 0
      next_other p q = ap (λ (bits : List ℕ). get_or bits p 0) is ∙ get_or-set_other (bits512 marks) here p 1 0 q

      next_same : get_or (bits512 next) here 0 ≡ 1
      next_same = ap (λ (bits : List ℕ). get_or bits here 0) is ∙ get_or-set_same (bits512 marks) here 1 0 (omega (arith, length_512 marks, x.most))

      some : v ≢ 0
      some q = let e0 = x.zero q in omega arith

      value_here : power (512 - n + here) ≡ v
      value_here = ap power exponent_here ∙ (x.other some).1

      pub placed_mark : Placed z n (suc v) next
      placed_mark = record {
        long = long;
        behind = λ p b. next_other p (λ q. omega (arith, x.most)) ∙ s.behind p b;
        later = λ p b k. next_other p (λ q. far p k q) ∙ s.later p b (omega arith);
        done = λ p b k. done_at p b k (ℕ_discrete p here);
      }
        where
          far : (p : ℕ) → suc v ≤ power (512 - n + p) → p ≡ here → ⊥
          far p k q = let at : power (512 - n + p) ≡ v = ap (λ (i : ℕ). power (512 - n + i)) q ∙ value_here in omega arith

          done_at : (p : ℕ) → p < n → power (512 - n + p) < suc v → Dec (p ≡ here) → get_or (bits512 next) p 0 ≡ root_at z (power (512 - n + p))
          done_at p b k (yes q) = rw q (next_same ∙ sym (ap (root_at z) value_here ∙ root))
          done_at p b k (no q) =
              let other : power (512 - n + p) ≢ v =
              λ r. q (let same = once (512 - n + p) e (omega arith) (x.other some).0 (omega arith) x.most (r ∙ sym (x.other some).1) in omega arith) in
              next_other p q ∙ s.done p b (omega arith)

    -- the word has none for v
    pub placed_miss : e < 512 - n → Placed z n (suc v) marks
    placed_miss l = record {
      long = s.long;
      behind = s.behind;
      later = λ p b k. s.later p b (omega arith);
      done = λ p b k. s.done p b (less p b k);
    }
      where
        other : (p : ℕ) → p < n → power (512 - n + p) ≡ v → Dec (v ≡ 0) → ⊥
        other p b q (yes y) = power-ne_0 (512 - n + p) (q ∙ y)
        other p b q (no y) = let same = once (512 - n + p) e (omega arith) (x.other y).0 (omega arith) x.most (q ∙ sym (x.other y).1) in omega arith

        less : (p : ℕ) → p < n → power (512 - n + p) < suc v → power (512 - n + p) < v
        less p b k = let ne : power (512 - n + p) ≢ v = λ q. other p b q (ℕ_discrete v 0) in omega arith

-- ---- nothing is marked yet

no_bits : bits512 (replicate 8 0) ≡ replicate 512 0
unfolding bits512 bits_from digits
no_bits = refl

pub placed_none : (z : List ℕ) (n : ℕ) → Placed z n 0 (replicate 8 0)
placed_none z n = record {
  long = refl;
  behind = λ p b. none p;
  later = λ p b k. none p;
  done = λ p b k. absurd (omega arith);
}
  where
    none : (p : ℕ) → get_or (bits512 (replicate 8 0)) p 0 ≡ 0
    none p = ap (λ (bits : List ℕ). get_or bits p 0) no_bits ∙ zeros_at 512 p

-- ---- the promise of the search, by places

module _ (locator : List ℕ) (m : ℕ) (z : List ℕ) (s : Searched locator m z) where
  zero_here : (x : ℕ) → x < 512
      → (locator_at locator m (element_of x) ≡ gf512.zero → root_at z x ≡ 1) × (locator_at locator m (element_of x) ≢ gf512.zero → root_at z x ≡ 0)
  unfolding root_at
  zero_here x h =
      let e : 64 * (x / 64) + x % 64 ≡ x = omega arith in
      let hw : x / 64 < 8 = omega arith in
      let hl : x % 64 < 64 = mod-lt x (lit< tt) in (
        (λ v. s.zero (x / 64) (x % 64) hw hl (ap (λ (y : ℕ). locator_at locator m (element_of y)) e ∙ v)),
        (λ v. s.other (x / 64) (x % 64) hw hl (λ q. v (sym (ap (λ (y : ℕ). locator_at locator m (element_of y)) e) ∙ q))),
      )

-- the mark of a place tells whether the locator vanishes there
pub marked_told : (locator : List ℕ) (len : ℕ) (z : List ℕ) (n : ℕ) (marks : List ℕ) → n < 512 → Searched locator (suc len) z → Placed z n 512 marks
    → (p : ℕ) → p < n
    → (value_at locator (suc len) (512 - n) p ≡ gf512.zero → get_or (bits512 marks) p 0 ≡ 1)
    × (value_at locator (suc len) (512 - n) p ≢ gf512.zero → get_or (bits512 marks) p 0 ≡ 0)
marked_told locator len z n marks few s k p l =
    let g = 512 - n + p in
    let is : element_of (power g) ≡ pow gf512 a g = of_power g in
    let told = zero_here locator (suc len) z s (power g) (power-lt g) in
    let there : get_or (bits512 marks) p 0 ≡ root_at z (power g) = k.done p l (power-lt g) in (
      (λ v. there ∙ told.0 (ap (locator_at locator (suc len)) is ∙ v)),
      (λ v. there ∙ told.1 (λ q. v (sym (ap (locator_at locator (suc len)) is) ∙ q))),
    )
