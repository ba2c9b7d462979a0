-- 512 bits written into the bits of 41 machine words, from a place on: each machine word holds the last digits of the one before and the first of the next.
-- Assumes nothing.
use mathlib.Core.Path.{◌≡◌, refl, sym, ap, ap₂, ◌∙◌, subst}
use mathlib.Core.List.{List, ◌++◌}
use mathlib.Core.Logic.{◌≢◌}
use Prim.Native.Nat.{ℕ, ◌+◌, ◌-◌, ◌*◌, ◌/◌, ◌%◌, ◌^◌, ◌≤◌, ◌<◌}
use native.Mathlib.Omega.{arith}
use native.Mathlib.Nat.{le_refl}
use lib.Bits.{bit_or}
use lib.ListN.{length, get_or, take, drop, set, replicate, length-drop, drop_of_length-le}
use lib.Seq.{take_at, drop_at, take_all, take-add, take-take, drop-drop, take-append-le, drop-append-le, length-take-le}
use Rattle.bits.specs.Words.{digits}
use Rattle.bits.proofs.Digits.{length_digits}
use Rattle.bits.proofs.Shifts.{digits_shl}
use Rattle.packed.specs.Packed.{bits_from, bits512}
use Rattle.packed.proofs.Walks.{length_from, length_512, take_from, drop_from, first_from, last_from}
use Rattle.packed.proofs.Paddings.{drop-take}
use Rattle.packed.proofs.Windows.{drop-digits, take-digits, across_of, across_some}
use Rattle.packed.proofs.Stores.{Over, over_more, over_all}

-- ---- digits moved down, and digits behind them

pub above_none : (x p : ℕ) → p ≡ 0 → drop (64 - p) (digits 64 0) ≡ take p (digits 64 x)
above_none x p e = rw e (drop_of_length-le (digits 64 0) {i = 64} (omega (arith, length_digits 64 0)))

pub above_some : (x p : ℕ) → p < 64 → drop (64 - p) (digits 64 (x / 2 ^ (64 - p))) ≡ take p (digits 64 x)
above_some x p h =
    let y = x / 2 ^ (64 - p) in
    let e : 64 - (64 - p) ≡ p = omega arith in
    drop-digits (64 - p) y (omega arith) ∙ ap (λ (n : ℕ). digits n y) e ∙ sym (take-digits p x (omega arith))

pub below_none : (high low p : ℕ) → p ≡ 0 → digits 64 low ≡ across_of high low (64 - p)
below_none high low p e =
    rw e
    (ap₂ ◌++◌ (sym (drop_of_length-le (digits 64 high) {i = 64} (omega (arith, length_digits 64 high))))
    (sym (take_all 64 (digits 64 low) (omega (arith, length_digits 64 low)))))

pub below_some : (high low p : ℕ) → p < 64 → low < 2 ^ 64 → digits 64 (bit_or (high * 2 ^ (64 - p) % 2 ^ 64) (low / 2 ^ p)) ≡ across_of high low (64 - p)
below_some high low p h l =
    let e : p ≡ 64 - (64 - p) = omega arith in
    ap (λ (n : ℕ). digits 64 (bit_or (high * 2 ^ (64 - p) % 2 ^ 64) (low / 2 ^ n))) e ∙ across_some high low (64 - p) (omega arith) l

-- ---- the bits that are to stand there

abbrev pub put_of : List ℕ → List ℕ → ℕ → List ℕ
put_of run bits at = take at (bits_from 41 0 run) ++ (bits512 bits ++ drop (at + 512) (bits_from 41 0 run))

-- the machine words before j are written, and `before` ends with the digits that stand before the next
pub record Putting (run bits : List ℕ) (at : ℕ) (out : List ℕ) (before j : ℕ) : Type 0 where
  pub over : Over 41 (put_of run bits at) run out j
  pub left : drop (64 - at % 64) (digits 64 before) ≡ take (at % 64) (drop (64 * j) (put_of run bits at))

module _ (run bits : List ℕ) (at : ℕ) (room : at ≤ 2112) where
  first_long : length (take at (bits_from 41 0 run)) ≡ at
  first_long = length-take-le at (bits_from 41 0 run) (omega (arith, length_from 41 0 run))

  -- those of the run before the place
  before_put : (m k : ℕ) → m + k ≤ at → take k (drop m (put_of run bits at)) ≡ take k (drop m (bits_from 41 0 run))
  before_put m k h =
      let all = bits_from 41 0 run in
      let first = take at all in
      let rest = bits512 bits ++ drop (at + 512) all in
      ap (take k) (drop-append-le m first rest (omega (arith, first_long)))
      ∙ take-append-le k (drop m first) rest (omega (arith, first_long, length-drop m first))
      ∙ ap (take k) (drop-take m at all)
      ∙ take-take k (at - m) (drop m all) (omega arith)

  from_put : (m : ℕ) → drop (at + m) (put_of run bits at) ≡ drop m (bits512 bits ++ drop (at + 512) (bits_from 41 0 run))
  from_put m =
      let rest = bits512 bits ++ drop (at + 512) (bits_from 41 0 run) in
      sym (drop-drop m at (put_of run bits at)) ∙ ap (drop m) (drop_at (take at (bits_from 41 0 run)) rest at first_long)

  -- those that are written
  within_put : (m k : ℕ) → m + k ≤ 512 → take k (drop (at + m) (put_of run bits at)) ≡ take k (drop m (bits512 bits))
  within_put m k h =
      let rest = drop (at + 512) (bits_from 41 0 run) in
      ap (take k) (from_put m ∙ drop-append-le m (bits512 bits) rest (omega (arith, length_512 bits)))
      ∙ take-append-le k (drop m (bits512 bits)) rest (omega (arith, length_512 bits, length-drop m (bits512 bits)))

  -- those of the run behind them
  behind_put : (m : ℕ) → at + 512 ≤ m → drop m (put_of run bits at) ≡ drop m (bits_from 41 0 run)
  behind_put m h =
      let k = m - (at + 512) in
      let e : at + 512 + k ≡ m = omega arith in
      let all = bits_from 41 0 run in
      let l = put_of run bits at in
      ap (λ (n : ℕ). drop n l) (sym e) ∙ sym (drop-drop k (at + 512) l)
      ∙ ap (drop k) (from_put 512 ∙ drop_at (bits512 bits) (drop (at + 512) all) 512 (length_512 bits))
      ∙ drop-drop k (at + 512) all ∙ ap (λ (n : ℕ). drop n all) e

  -- ---- machine word after machine word

  pub putting_none : (x j : ℕ) → length run ≡ 41 → j ≡ at / 64 → drop (64 - at % 64) (digits 64 x) ≡ take (at % 64) (digits 64 (get_or run (at / 64) 0))
      → Putting run bits at run x j
  putting_none x j long ej e =
      let p = at % 64 in
      let here : bits_from j 0 run ≡ take (64 * j) (put_of run bits at)
      = sym (before_put 0 (64 * j) (omega arith) ∙ take_from run 41 j (omega arith)) in
      let next : take p (digits 64 (get_or run (at / 64) 0)) ≡ take p (drop (64 * j) (put_of run bits at))
      = ap (λ (i : ℕ). take p (digits 64 (get_or run i 0))) (sym ej)
      ∙ sym (before_put (64 * j) p (omega arith) ∙ first_from run 41 j p (omega arith) (omega arith)) in
      record { over = record { stored = (long, here); kept = λ k l. refl }; left = e ∙ next }

  -- what a machine word is to hold: what is left of the one before, and digits behind it
  word_put : {out : List ℕ} {before j : ℕ} (rest : List ℕ) (m : ℕ) → Putting run bits at out before j → 64 * j + at % 64 ≡ m
      → rest ≡ take (64 - at % 64) (drop m (put_of run bits at))
      → drop (64 - at % 64) (digits 64 before) ++ rest ≡ take 64 (drop (64 * j) (put_of run bits at))
  word_put {j = j} rest m t em e =
      let p = at % 64 in
      let l = put_of run bits at in
      let s : p + (64 - p) ≡ 64 = omega arith in
      ap₂ ◌++◌ t.left (e ∙ ap (λ (n : ℕ). take (64 - p) (drop n l)) (sym em) ∙ ap (take (64 - p)) (sym (drop-drop p (64 * j) l)))
      ∙ sym (take-add p (64 - p) (drop (64 * j) l)) ∙ ap (λ (n : ℕ). take n (drop (64 * j) l)) s

  pub putting_more : {out : List ℕ} {before j : ℕ} (y w k : ℕ) → Putting run bits at out before j → j ≡ at / 64 + w → w < 8 → k ≡ j + 1
      → digits 64 y ≡ across_of before (get_or bits w 0) (64 - at % 64) → Putting run bits at (set out j y) (get_or bits w 0) k
  unfolding bits512
  putting_more {out} {before} {j} y w k t ej h ek e =
      let p = at % 64 in
      let l = put_of run bits at in
      let b = digits 64 (get_or bits w 0) in
      let m = at + (64 * w + (64 - p)) in
      let first : take (64 - p) b ≡ take (64 - p) (drop (at + 64 * w) l)
      = sym (within_put (64 * w) (64 - p) (omega arith) ∙ first_from bits 8 w (64 - p) h (omega arith)) in
      let last : drop (64 - p) b ≡ take p (drop m l)
      = sym (within_put (64 * w + (64 - p)) p (omega arith) ∙ last_from bits 8 w (64 - p) p h (omega arith)) in
      let em : m ≡ 64 * k = omega arith in
      let more = over_more t.over y (omega arith) (e ∙ word_put (take (64 - p) b) (at + 64 * w) t (omega arith) first) in
      record {
        over = subst (λ (n : ℕ). Over 41 l run (set out j y) n) (sym ek) more;
        left = last ∙ ap (λ (n : ℕ). take p (drop n l)) em;
      }

  -- ---- and the run behind them

  -- where the last ends with a machine word
  pub put_whole : {out : List ℕ} {before j : ℕ} → Putting run bits at out before j → j ≡ at / 64 + 8 → at % 64 ≡ 0 → bits_from 41 0 out ≡ put_of run bits at
  put_whole {j = j} t ej e = over_all t.over (omega arith) (behind_put (64 * j) (omega arith) ∙ drop_from run 41 j (omega arith))

  -- where it ends within the next, i
  pub put_within : {out : List ℕ} {before j : ℕ} (y i : ℕ) → Putting run bits at out before j → j ≡ i → i ≡ at / 64 + 8 → at % 64 ≢ 0
      → digits 64 y ≡ across_of before (get_or out i 0 * 2 ^ (at % 64) % 2 ^ 64) (64 - at % 64) → bits_from 41 0 (set out i y) ≡ put_of run bits at
  put_within {out} {before} y i t ej ei ne e =
      let p = at % 64 in
      let l = put_of run bits at in
      let z = get_or run i 0 in
      let u : Putting run bits at out before i = subst (Putting run bits at out before) ej t in
      let m = 64 * i + p in
      let inside : i < 41 = omega arith in
      let up : take (64 - p) (digits 64 (get_or out i 0 * 2 ^ p % 2 ^ 64)) ≡ drop p (digits 64 z)
      = ap (λ (x : ℕ). take (64 - p) (digits 64 (x * 2 ^ p % 2 ^ 64))) (u.over.kept i (le_refl i))
      ∙ ap (take (64 - p)) (digits_shl (64 - p) p z (omega arith))
      ∙ take_at (digits (64 - p) z) (replicate p 0) (64 - p) (length_digits (64 - p) z)
      ∙ sym (drop-digits p z (omega arith)) in
      let rest : drop p (digits 64 z) ≡ take (64 - p) (drop m l)
      = sym (ap (take (64 - p)) (behind_put m (omega arith)) ∙ last_from run 41 i p (64 - p) inside (omega arith)) in
      let more = over_more u.over y inside (e ∙ word_put _ m u refl (up ∙ rest)) in
      over_all more (omega arith) (behind_put (64 * (i + 1)) (omega arith) ∙ drop_from run 41 (i + 1) (omega arith))
