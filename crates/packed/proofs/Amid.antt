-- Machine words around one of them, whatever their number, and the zeros that some hold.
-- Assumes nothing.
use mathlib.Core.Path.{◌≡◌, refl, sym, ap, ap₂, ◌∙◌}
use mathlib.Core.List.{List, ◌++◌}
use Prim.Native.Nat.{ℕ, zero, suc, ◌+◌, ◌-◌, ◌*◌, ◌<◌}
use native.Mathlib.Nat.{zero-add}
use native.Mathlib.Omega.{arith}
use lib.ListN.{length, get_or, take, drop, set, replicate, length-replicate, replicate-append-replicate}
use lib.Seq.{take_at, drop_at, get_or-set_same}
use Rattle.bits.specs.Words.{digits}
use Rattle.bits.proofs.Digits.{length_digits}
use Rattle.bits.proofs.Shifts.{digits-zero}
use Rattle.packed.specs.Packed.{bits_from}
use Rattle.packed.proofs.Walks.{from_append, from_one, from_set_behind, from_set_before}

abbrev pub zeros : ℕ → List ℕ
zeros k = replicate k 0

-- ---- zeros, in parts

pub zeros_split : (m n k : ℕ) → m + n ≡ k → zeros k ≡ zeros m ++ zeros n
zeros_split m n k e = ap zeros (sym e) ∙ sym (replicate-append-replicate m n 0)

-- two parts that are zeros together are zeros each
module _ (u v : List ℕ) (m n k : ℕ) (lu : length u ≡ m) (s : m + n ≡ k) (e : u ++ v ≡ zeros k) where
  pub zeros_first : u ≡ zeros m
  zeros_first = sym (take_at u v m lu) ∙ ap (take m) (e ∙ zeros_split m n k s) ∙ take_at (zeros m) (zeros n) m (length-replicate m 0)

  pub zeros_last : v ≡ zeros n
  zeros_last = sym (drop_at u v m lu) ∙ ap (drop m) (e ∙ zeros_split m n k s) ∙ drop_at (zeros m) (zeros n) m (length-replicate m 0)

-- ---- before, at and behind the machine word a of n

pub amid : (n a : ℕ) (ws : List ℕ) → a < n → bits_from n 0 ws ≡ bits_from a 0 ws ++ (digits 64 (get_or ws a 0) ++ bits_from (n - suc a) (suc a) ws)
unfolding bits_from
amid n a ws h =
    let e : n ≡ a + suc (n - suc a) = omega arith in
    ap (λ (m : ℕ). bits_from m 0 ws) e ∙ from_append a (suc (n - suc a)) 0 ws
    ∙ ap (λ (i : ℕ). bits_from a 0 ws ++ bits_from (suc (n - suc a)) i ws) (zero-add a)

-- it changed
pub amid_set : (n a x : ℕ) (ws : List ℕ) → length ws ≡ n → a < n
    → bits_from n 0 (set ws a x) ≡ bits_from a 0 ws ++ (digits 64 x ++ bits_from (n - suc a) (suc a) ws)
amid_set n a x ws long h =
    amid n a (set ws a x) h
    ∙ ap₂ ◌++◌ (from_set_behind a 0 a x ws (omega arith))
    (ap₂ (λ (y : ℕ) (l : List ℕ). digits 64 y ++ l) (get_or-set_same ws a x 0 (omega arith)) (from_set_before (n - suc a) (suc a) a x ws (omega arith)))

-- those before it, and it
pub one_more : (a : ℕ) (ws : List ℕ) → bits_from (suc a) 0 ws ≡ bits_from a 0 ws ++ digits 64 (get_or ws a 0)
one_more a ws =
    let e : suc a ≡ a + 1 = omega arith in
    ap (λ (n : ℕ). bits_from n 0 ws) e ∙ from_append a 1 0 ws
    ∙ ap (λ (l : List ℕ). bits_from a 0 ws ++ l) (ap (λ (i : ℕ). bits_from 1 i ws) (zero-add a) ∙ from_one a ws)

pub one_more_set : (a x : ℕ) (ws : List ℕ) → a < length ws → bits_from (suc a) 0 (set ws a x) ≡ bits_from a 0 ws ++ digits 64 x
one_more_set a x ws h =
    one_more a (set ws a x) ∙ ap₂ (λ (l : List ℕ) (y : ℕ). l ++ digits 64 y) (from_set_behind a 0 a x ws (omega arith)) (get_or-set_same ws a x 0 h)

-- ---- machine words that are 0

pub at_zeros : (m i : ℕ) → get_or (zeros m) i 0 ≡ 0
at_zeros zero i = refl
at_zeros (suc m) zero = refl
at_zeros (suc m) (suc i) = at_zeros m i

pub from_zeros : (m n i : ℕ) → bits_from n i (zeros m) ≡ zeros (64 * n)
unfolding bits_from
from_zeros m zero i = refl
from_zeros m (suc n) i =
    ap₂ ◌++◌ (ap (digits 64) (at_zeros m i) ∙ digits-zero 64) (from_zeros m n (suc i)) ∙ sym (zeros_split 64 (64 * n) (64 * suc n) (omega arith))

-- those behind the next of zeros are zeros
pub fewer_zeros : (n i : ℕ) (ws : List ℕ) → bits_from (suc n) i ws ≡ zeros (64 * suc n) → bits_from n (suc i) ws ≡ zeros (64 * n)
unfolding bits_from
fewer_zeros n i ws e = zeros_last (digits 64 (get_or ws i 0)) (bits_from n (suc i) ws) 64 (64 * n) (64 * suc n) (length_digits 64 (get_or ws i 0)) (omega arith) e
