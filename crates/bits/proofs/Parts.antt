-- A lent list after its first elements were written, in one part or in two.
-- Assumes nothing.
use mathlib.Core.Path.{◌≡◌, sym, ap, ap₂, ◌∙◌}
use mathlib.Core.List.{List, ◌++◌, append_assoc}
use Prim.Native.Nat.{ℕ, ◌+◌, ◌-◌, ◌≤◌}
use native.Mathlib.Omega.{arith}
use borrow.Rule.Slice.PartMut.{put_mid}
use lib.ListN.{length, take, drop, length-drop}
use lib.Seq.{take-length, take_at, drop_at, drop-drop, length-take-le}

-- the front of one list and the rest of another
pub copied : (v out : List ℕ) (n : ℕ) → length v ≡ n → take (length v) v ++ drop (length v) out ≡ v ++ drop n out
copied v out n e = ap₂ (λ (l : List ℕ) (i : ℕ). l ++ drop i out) (take-length v) e

module _ (out v : List ℕ) (k n : ℕ) (e : length v ≡ k) (low : k ≤ n) where
  -- the second part is as long as it should be
  pub second_long : n ≤ length out → length (take (n - k) (drop k (v ++ drop k out))) ≡ n - k
  second_long room =
      ap (λ (l : List ℕ). length (take (n - k) l)) (drop_at v (drop k out) k e)
      ∙ length-take-le (n - k) (drop k out) (let l = length-drop k out in omega arith)

  pub both_written : (w : List ℕ) → put_mid k (n - k) (v ++ drop k out) w ≡ (v ++ w) ++ drop n out
  both_written w =
      let s : k + (n - k) ≡ n = omega arith in
      ap₂ (λ (l m : List ℕ). l ++ (w ++ m)) (take_at v (drop k out) k e)
      (ap (drop (n - k)) (drop_at v (drop k out) k e) ∙ drop-drop (n - k) k out ∙ ap (λ (i : ℕ). drop i out) s)
      ∙ sym (append_assoc v w (drop n out))
