-- The bits of machine words, one after the other: their number, one machine word more, one changed, some digits of one, and the bit at a place.
-- Assumes nothing.
use mathlib.Core.Path.{◌≡◌, refl, sym, ap, ap₂, ◌∙◌}
use mathlib.Core.List.{List, [], ◌++◌, append_assoc, append-nil}
use mathlib.Core.Logic.{◌≢◌}
use Prim.Native.Nat.{ℕ, zero, suc, ◌+◌, ◌-◌, ◌*◌, ◌/◌, ◌%◌, ◌^◌, ◌≤◌, ◌<◌}
use native.Mathlib.Omega.{arith}
use native.Mathlib.Nat.{add-zero, zero-add, le_refl}
use lib.ListN.{length, get_or, set, take, drop, length-append, length-drop, get_or-append}
use lib.Seq.{get_or-set_same, get_or-set_other, get_or-append-add, take_at, drop_at, take_all, drop-drop, take-append-le, drop-append-le}
use Rattle.bits.specs.Words.{Bits, digits}
use Rattle.bits.proofs.Digits.{length_digits, digits_bits, bits_append}
use Rattle.packed.specs.Packed.{bits_from, bits512}
use Rattle.bits.proofs.Shifts.{digits_at}

-- so many machine words, and then more
pub from_append : (m n i : ℕ) (ws : List ℕ) → bits_from (m + n) i ws ≡ bits_from m i ws ++ bits_from n (i + m) ws
unfolding bits_from
from_append zero n i ws = ap₂ (λ (a b : ℕ). bits_from a b ws) (zero-add n) (sym (add-zero i))
from_append (suc m) n i ws =
    let e : suc m + n ≡ suc (m + n) = omega arith in
    let s : suc i + m ≡ i + suc m = omega arith in
    ap (λ (a : ℕ). bits_from a i ws) e
    ∙ ap (λ (v : List ℕ). digits 64 (get_or ws i 0) ++ v) (from_append m n (suc i) ws ∙ ap (λ (b : ℕ). bits_from m (suc i) ws ++ bits_from n b ws) s)
    ∙ sym (append_assoc (digits 64 (get_or ws i 0)) (bits_from m (suc i) ws) (bits_from n (i + suc m) ws))

pub from_none : (i : ℕ) (ws : List ℕ) → bits_from 0 i ws ≡ []
unfolding bits_from
from_none i ws = refl

pub from_one : (i : ℕ) (ws : List ℕ) → bits_from 1 i ws ≡ digits 64 (get_or ws i 0)
unfolding bits_from
from_one i ws = append-nil (digits 64 (get_or ws i 0))

pub length_from : (n i : ℕ) (ws : List ℕ) → length (bits_from n i ws) ≡ 64 * n
unfolding bits_from
length_from zero i ws = refl
length_from (suc n) i ws =
    length-append (digits 64 (get_or ws i 0)) (bits_from n (suc i) ws) ∙ ap₂ ◌+◌ (length_digits 64 (get_or ws i 0)) (length_from n (suc i) ws) ∙ omega arith

pub bits_of_from : (n i : ℕ) (ws : List ℕ) → Bits (bits_from n i ws)
unfolding bits_from
bits_of_from zero i ws = tt
bits_of_from (suc n) i ws = bits_append (digits 64 (get_or ws i 0)) (bits_from n (suc i) ws) (digits_bits 64 (get_or ws i 0)) (bits_of_from n (suc i) ws)

-- ---- a machine word changed

-- behind them
pub from_set_behind : (n i k x : ℕ) (ws : List ℕ) → i + n ≤ k → bits_from n i (set ws k x) ≡ bits_from n i ws
unfolding bits_from
from_set_behind zero i k x ws h = refl
from_set_behind (suc n) i k x ws h =
    let ne : i ≢ k = λ (e : i ≡ k). omega arith in
    ap₂ (λ (a : ℕ) (v : List ℕ). digits 64 a ++ v) (get_or-set_other ws k i x 0 ne) (from_set_behind n (suc i) k x ws (omega arith))

-- before them
pub from_set_before : (n i k x : ℕ) (ws : List ℕ) → k < i → bits_from n i (set ws k x) ≡ bits_from n i ws
unfolding bits_from
from_set_before zero i k x ws h = refl
from_set_before (suc n) i k x ws h =
    let ne : i ≢ k = λ (e : i ≡ k). omega arith in
    ap₂ (λ (a : ℕ) (v : List ℕ). digits 64 a ++ v) (get_or-set_other ws k i x 0 ne) (from_set_before n (suc i) k x ws (omega arith))

-- the same from a machine word on
pub from_same : (n i : ℕ) (v w : List ℕ) → ((k : ℕ) → i ≤ k → get_or v k 0 ≡ get_or w k 0) → bits_from n i v ≡ bits_from n i w
unfolding bits_from
from_same zero i v w h = refl
from_same (suc n) i v w h =
    ap₂ (λ (a : ℕ) (l : List ℕ). digits 64 a ++ l) (h i (le_refl i)) (from_same n (suc i) v w (λ k l. h k (omega arith)))

-- ---- those of n machine words before, at and behind the machine word i

module _ (ws : List ℕ) (n i : ℕ) where
  pub split_from : i ≤ n → bits_from n 0 ws ≡ bits_from i 0 ws ++ bits_from (n - i) i ws
  split_from h =
      let e : n ≡ i + (n - i) = omega arith in
      ap (λ (m : ℕ). bits_from m 0 ws) e ∙ from_append i (n - i) 0 ws ∙ ap (λ (j : ℕ). bits_from i 0 ws ++ bits_from (n - i) j ws) (zero-add i)

  pub take_from : i ≤ n → take (64 * i) (bits_from n 0 ws) ≡ bits_from i 0 ws
  take_from h = ap (take (64 * i)) (split_from h) ∙ take_at (bits_from i 0 ws) (bits_from (n - i) i ws) (64 * i) (length_from i 0 ws)

  pub drop_from : i ≤ n → drop (64 * i) (bits_from n 0 ws) ≡ bits_from (n - i) i ws
  drop_from h = ap (drop (64 * i)) (split_from h) ∙ drop_at (bits_from i 0 ws) (bits_from (n - i) i ws) (64 * i) (length_from i 0 ws)

  -- k of its digits, from the place p on
  pub part_from : (p k : ℕ) → i < n → p + k ≤ 64 → take k (drop (64 * i + p) (bits_from n 0 ws)) ≡ take k (drop p (digits 64 (get_or ws i 0)))
  unfolding bits_from
  part_from p k h room =
      let here = digits 64 (get_or ws i 0) in
      let rest = bits_from (n - suc i) (suc i) ws in
      let e : n - i ≡ suc (n - suc i) = omega arith in
      let long : length here ≡ 64 = length_digits 64 (get_or ws i 0) in
      ap (take k) (sym (drop-drop p (64 * i) (bits_from n 0 ws))
      ∙ ap (drop p) (drop_from (omega arith) ∙ ap (λ (m : ℕ). bits_from m i ws) e)
      ∙ drop-append-le p here rest (omega arith))
      ∙ take-append-le k (drop p here) rest (simp length-drop (omega arith))

  -- its first k
  pub first_from : (k : ℕ) → i < n → k ≤ 64 → take k (drop (64 * i) (bits_from n 0 ws)) ≡ take k (digits 64 (get_or ws i 0))
  first_from k h room = ap (λ (m : ℕ). take k (drop m (bits_from n 0 ws))) (sym (add-zero (64 * i))) ∙ part_from 0 k h (omega arith)

  pub word_from : i < n → take 64 (drop (64 * i) (bits_from n 0 ws)) ≡ digits 64 (get_or ws i 0)
  word_from h =
      let here = digits 64 (get_or ws i 0) in
      first_from 64 h (le_refl 64) ∙ take_all 64 here (omega (arith, length_digits 64 (get_or ws i 0)))

  -- all behind its first p
  pub last_from : (p k : ℕ) → i < n → p + k ≡ 64 → take k (drop (64 * i + p) (bits_from n 0 ws)) ≡ drop p (digits 64 (get_or ws i 0))
  last_from p k h room =
      let here = digits 64 (get_or ws i 0) in
      part_from p k h (omega arith) ∙ take_all k (drop p here) (omega (arith, length-drop p here, length_digits 64 (get_or ws i 0)))

-- ---- the bits of eight

pub length_512 : (ws : List ℕ) → length (bits512 ws) ≡ 512
unfolding bits512
length_512 ws = length_from 8 0 ws

pub bits_512 : (ws : List ℕ) → Bits (bits512 ws)
unfolding bits512
bits_512 ws = bits_of_from 8 0 ws

-- before, at and behind the machine word a
pub around : (ws : List ℕ) (a : ℕ) → a < 8 → bits512 ws ≡ bits_from a 0 ws ++ (digits 64 (get_or ws a 0) ++ bits_from (7 - a) (suc a) ws)
unfolding bits512 bits_from
around ws a h =
    let e : 8 - a ≡ suc (7 - a) = omega arith in
    split_from ws 8 a (omega arith) ∙ ap (λ (n : ℕ). bits_from a 0 ws ++ bits_from n a ws) e

-- a place: so many machine words, and a digit of the next
pub place : (ws : List ℕ) (p : ℕ) → p ≡ length (bits_from (p / 64) 0 ws) + p % 64
place ws p = omega (arith, length_from (p / 64) 0 ws)

pub digit_at : (ws : List ℕ) (p : ℕ) → p < 512 → get_or (bits512 ws) p 0 ≡ get_or (digits 64 (get_or ws (p / 64) 0)) (p % 64) 0
digit_at ws p h =
    let a = p / 64 in
    let x = get_or ws a 0 in
    let back = bits_from (7 - a) (suc a) ws in
    ap₂ (λ (l : List ℕ) (q : ℕ). get_or l q 0) (around ws a (omega arith)) (place ws p)
    ∙ get_or-append-add (bits_from a 0 ws) (digits 64 x ++ back) (p % 64) 0
    ∙ get_or-append (digits 64 x) back 0 (p % 64) (omega (arith, length_digits 64 x))

pub bit_at : (ws : List ℕ) (p : ℕ) → p < 512 → get_or (bits512 ws) p 0 ≡ get_or ws (p / 64) 0 / 2 ^ (63 - p % 64) % 2
bit_at ws p h =
    let x = get_or ws (p / 64) 0 in
    let e : 64 - suc (p % 64) ≡ 63 - p % 64 = omega arith in
    digit_at ws p h ∙ digits_at 64 (p % 64) x (omega arith) ∙ ap (λ (n : ℕ). x / 2 ^ n % 2) e

-- the bits of the machine word a
pub word_at : (ws : List ℕ) (a : ℕ) → a < 8 → take 64 (drop (64 * a) (bits512 ws)) ≡ digits 64 (get_or ws a 0)
unfolding bits512
word_at ws a h = word_from ws 8 a h

-- it changed
pub around_set : (ws : List ℕ) (a x : ℕ) → length ws ≡ 8 → a < 8
    → bits512 (set ws a x) ≡ bits_from a 0 ws ++ (digits 64 x ++ bits_from (7 - a) (suc a) ws)
around_set ws a x long h =
    around (set ws a x) a h
    ∙ ap₂ (λ (l m : List ℕ). l ++ m) (from_set_behind a 0 a x ws (omega arith))
    (ap₂ (λ (y : ℕ) (l : List ℕ). digits 64 y ++ l) (get_or-set_same ws a x 0 (omega arith)) (from_set_before (7 - a) (suc a) a x ws (omega arith)))
