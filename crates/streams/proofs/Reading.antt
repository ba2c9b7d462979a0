-- Reading on: what two reads leave is the rest, and a room that is filled from its front holds what was read.
-- Assumes nothing.
use Rattle.std.proofs.Common.{◌≡◌, ℕ, ◌+◌, ◌-◌, ◌≤◌, List, [], ◌++◌, Option, arith, length, take, slice_range, sym, ap, ◌∙◌, subst, le_refl, drop_at, length-take-le}
use Rattle.std.proofs.lemmas.Slice.{take-put_mid_below}
use Rattle.std.proofs.KnownBytes.{Consumes-nil, Consumes-trans}
use Rattle.std.specs.Io.KnownBytes.{Consumes}
use borrow.Rule.Slice.PartMut.{put_mid, post_of}
use lib.Seq.{take-add, take-append-le}
use Rattle.streams.specs.Streams.{LeavesRest}

-- where nothing is read
pub rest_none : (a : Option (List ℕ)) → LeavesRest a a
rest_none a = record { gone = []; reads = Consumes-nil a }

pub rest_trans : (a b c : Option (List ℕ)) → LeavesRest a b → LeavesRest b c → LeavesRest a c
rest_trans a b c p q = record { gone = p.gone ++ q.gone; reads = Consumes-trans a b c p.gone q.gone p.reads q.reads }

-- a room that holds what was read of it so far, and then n bytes more
module _ (a b c : Option (List ℕ)) (done k n : ℕ) (xs ys : List ℕ) (within : done ≤ length xs) (fits : n ≤ length ys) where
  front : take done (put_mid done k xs ys) ≡ take done xs
  front = take-put_mid_below _ _ _ _ _ (le_refl _) within

  part : slice_range (put_mid done k xs ys) done (done + n) ≡ take n ys
  part =
      let same : (done + n) - done ≡ n = omega arith in
      let after = post_of done k xs in
      ap (take ((done + n) - done)) (drop_at (take done xs) (ys ++ after) done (length-take-le done xs within))
      ∙ ap (λ m. take m (ys ++ after)) same ∙ take-append-le n ys after fits

  joined : take done xs ++ take n ys ≡ take (done + n) (put_mid done k xs ys)
  joined =
      let same : done + ((done + n) - done) ≡ done + n = omega arith in
      ap (λ l. take done xs ++ l) (sym part) ∙ ap (λ l. l ++ slice_range (put_mid done k xs ys) done (done + n)) (sym front)
      ∙ sym (take-add done ((done + n) - done) (put_mid done k xs ys)) ∙ ap (λ m. take m (put_mid done k xs ys)) same

  pub filled : Consumes a b (take done xs) → Consumes b c (take n ys) → Consumes a c (take (done + n) (put_mid done k xs ys))
  filled p q = subst (Consumes a c) joined (Consumes-trans a b c _ _ p q)
