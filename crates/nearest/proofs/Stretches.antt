-- One axis: the stretch in which a number lies has the nearest level, and on a line the one beyond it is as near; none other is.
-- Assumes nothing.
use mathlib.Core.Path.{◌≡◌, refl, sym, ap, ◌∙◌}
use mathlib.Core.Logic.{◌⊎◌, inl, inr}
use mathlib.Core.Bool.{Bool, true, false}
use Prim.Native.Nat.{ℕ, ◌+◌, ◌-◌, ◌*◌, ◌<◌, ◌≤◌}
use native.Mathlib.Decide.{dec_lt}
use native.Mathlib.Omega.{arith}
use lib.Dec.{eqb, ltb}
use borrow.Author.Tests.{ltb-true, lt-ltb, eqb-true, eq-eqb}
use Rattle.nearest.specs.Axes.{edge_of, stretch_of, beyond_of, off_of}

-- ---- with stretches of which the first begins at any e

-- s is the stretch of x
record Lies (e w x s : ℕ) : Type 0 where
  within : s < w
  low : 0 < s → e + 128 * s ≤ x
  high : s + 1 < w → x < e + 128 * s + 128

abbrev off : ℕ → ℕ → ℕ → ℕ
off e x j = (x - (e + 128 * j + 64)) + (e + 128 * j + 64 - x)

module _ (e w x s : ℕ) (lies : Lies e w x s) (j : ℕ) where
  -- before s all middles are before x, and behind s they are behind it
  off_low : j < s → e + 128 * j + 64 + off e x j ≡ x
  off_low h = let l : e + 128 * s ≤ x = lies.low (omega arith) in omega arith

  off_high : s < j → j < w → x + off e x j ≡ e + 128 * j + 64
  off_high h k = let l : x < e + 128 * s + 128 = lies.high (omega arith) in omega arith

  low_farther : j < s → off e x s ≤ off e x j
  low_farther h = let l : e + 128 * s ≤ x = lies.low (omega arith) in omega arith

  high_farther : s < j → j < w → off e x s ≤ off e x j
  high_farther h k = let l : x < e + 128 * s + 128 = lies.high (omega arith) in omega arith

  -- one before s that is as near: it is the last before, and x is on the line
  low_alike : j < s → off e x j ≡ off e x s → (j ≡ s - 1) × (x ≡ e + 128 * s)
  low_alike h a =
      let l : e + 128 * s ≤ x = lies.low (omega arith) in
      let x_is : x + x ≡ (e + 128 * s + 64) + (e + 128 * j + 64) = omega arith in
      let next : j + 1 ≡ s = omega arith in
      (omega arith, omega arith)

  high_alike : s < j → j < w → off e x j ≡ off e x s → ⊥
  high_alike h k a = let l : x < e + 128 * s + 128 = lies.high (omega arith) in omega arith

-- ---- with ours

module _ (w x : ℕ) (two : 2 ≤ w) (most : w ≤ 32) where
  abbrev own : ℕ
  own = stretch_of w x

  own_lies : Lies (32768 - 64 * w) w x own
  own_lies = record { within = omega arith; low = λ h. omega arith; high = λ h. omega arith }

  -- it is one of the stretches
  pub stretch_lt : own < w
  stretch_lt = own_lies.within

  -- none is nearer
  pub nearest_stretch : (j : ℕ) → j < w → off_of w x own ≤ off_of w x j
  nearest_stretch j h = by (dec_lt j own) (dec_lt own j)
    where
      by : Dec (j < own) → Dec (own < j) → off_of w x own ≤ off_of w x j
      by (yes b) d = low_farther (32768 - 64 * w) w x own own_lies j b
      by (no b) (yes c) = high_farther (32768 - 64 * w) w x own own_lies j c h
      by (no b) (no c) = let e : own ≡ j = omega arith in rw e (omega arith)

-- x is on the line before stretch j
pub record OnLine (w x j : ℕ) : Type 0 where
  pub some : 0 < j
  pub line : x ≡ edge_of w j
  pub before : beyond_of w x j ≡ j - 1

-- it is so, or the stretch beyond is j itself
pub line_cases : (w x j : ℕ) → (beyond_of w x j ≡ j) ⊎ OnLine w x j
line_cases w x j = by (ltb 0 j) (eqb x (edge_of w j)) refl refl
  where
    by : (a b : Bool) → ltb 0 j ≡ a → eqb x (edge_of w j) ≡ b → (beyond_of w x j ≡ j) ⊎ OnLine w x j
    by true true p q = inr record { some = ltb-true 0 j p; line = eqb-true x (edge_of w j) q; before = rw (p, q) }
    by true false p q = inl (rw (p, q))
    by false b p q = inl (rw p)

on_line : (w x j : ℕ) → 0 < j → x ≡ edge_of w j → beyond_of w x j ≡ j - 1
on_line w x j h e = rw (lt-ltb 0 j h, eq-eqb x (edge_of w j) e)

module _ (w x : ℕ) (two : 2 ≤ w) (most : w ≤ 32) where
  -- the one beyond a line is as near
  pub beyond_near : off_of w x (beyond_of w x (stretch_of w x)) ≡ off_of w x (stretch_of w x)
  beyond_near = by (line_cases w x (stretch_of w x))
    where
      at_line : (e s : ℕ) → 0 < s → x ≡ e + 128 * s → off e x (s - 1) ≡ off e x s
      at_line e s h p = omega arith

      by : (beyond_of w x (stretch_of w x) ≡ stretch_of w x) ⊎ OnLine w x (stretch_of w x) → off_of w x (beyond_of w x (stretch_of w x)) ≡ off_of w x (stretch_of w x)
      by (inl e) = ap (off_of w x) e
      by (inr l) = ap (off_of w x) l.before ∙ at_line (32768 - 64 * w) (stretch_of w x) l.some l.line

  -- and it is one of the stretches
  pub beyond_lt : beyond_of w x (stretch_of w x) < w
  beyond_lt = by (line_cases w x (stretch_of w x))
    where
      by : (beyond_of w x (stretch_of w x) ≡ stretch_of w x) ⊎ OnLine w x (stretch_of w x) → beyond_of w x (stretch_of w x) < w
      by (inl e) = rw e (stretch_lt w x two most)
      by (inr l) = let s = stretch_lt w x two most in rw l.before (omega arith)

  -- none other is as near
  pub as_near : (j : ℕ) → j < w → off_of w x j ≡ off_of w x (stretch_of w x) → (j ≡ stretch_of w x) ⊎ (j ≡ beyond_of w x (stretch_of w x))
  as_near j h a = by (dec_lt j (stretch_of w x)) (dec_lt (stretch_of w x) j)
    where
      by : Dec (j < stretch_of w x) → Dec (stretch_of w x < j) → (j ≡ stretch_of w x) ⊎ (j ≡ beyond_of w x (stretch_of w x))
      by (yes b) d =
          let p = low_alike (32768 - 64 * w) w x (stretch_of w x) (own_lies w x two most) j b a in
          let some : 0 < stretch_of w x = omega arith in
          inr (p.0 ∙ sym (on_line w x (stretch_of w x) some p.1))
      by (no b) (yes c) = absurd (high_alike (32768 - 64 * w) w x (stretch_of w x) (own_lies w x two most) j c h a)
      by (no b) (no c) = inl (omega arith)

  -- of those before it the last is nearest, and no other as near
  pub off_before : (j : ℕ) → j < stretch_of w x
      → (off_of w x (stretch_of w x - 1) ≤ off_of w x j) × (off_of w x j ≡ off_of w x (stretch_of w x - 1) → j ≡ stretch_of w x - 1)
  off_before j h = go (32768 - 64 * w) (stretch_of w x) (own_lies w x two most) h
    where
      go : (e s : ℕ) → Lies e w x s → j < s → (off e x (s - 1) ≤ off e x j) × (off e x j ≡ off e x (s - 1) → j ≡ s - 1)
      go e s lies h =
          let a = off_low e w x s lies j h in
          let last : s - 1 < s = omega arith in
          let b = off_low e w x s lies (s - 1) last in
          (omega arith, λ p. omega arith)

  -- of those behind it the first is
  pub off_behind : (j : ℕ) → stretch_of w x < j → j < w
      → (off_of w x (stretch_of w x + 1) ≤ off_of w x j) × (off_of w x j ≡ off_of w x (stretch_of w x + 1) → j ≡ stretch_of w x + 1)
  off_behind j h k = go (32768 - 64 * w) (stretch_of w x) (own_lies w x two most) h
    where
      go : (e s : ℕ) → Lies e w x s → s < j → (off e x (s + 1) ≤ off e x j) × (off e x j ≡ off e x (s + 1) → j ≡ s + 1)
      go e s lies h =
          let a = off_high e w x s lies j h k in
          let first : s < s + 1 = omega arith in
          let inside : s + 1 < w = omega arith in
          let b = off_high e w x s lies (s + 1) first inside in
          (omega arith, λ p. omega arith)
