-- The room of two lists: what a test of the code says of `room`.
-- Assumes nothing.
use mathlib.Core.Path.{◌≡◌, refl, sym}
use mathlib.Core.Bool.{Bool, true, false, ◌&&◌, true≢false}
use mathlib.Core.List.{List}
use Prim.Native.Nat.{ℕ, ◌≤◌, ◌<◌}
use borrow.Author.Tests.{leb-true, le-leb, lt-leb}
use lib.Dec.{leb}
use lib.IntN.{ℤ}
use lib.ListN.{length}
use Rattle.symbols.specs.Grids.{room}

pub both_true : (a b : Bool) → true ≡ a && b → (a ≡ true) × (b ≡ true)
both_true true b e = (refl, sym e)
both_true false b e = absurd (true≢false e)

module _ (n : ℕ) (is qs : List ℤ) where
  pub short_is : length is < n → false ≡ room n is qs
  short_is l = rw (lt-leb n (length is) l) refl

  pub long_is : n ≤ length is → leb n (length qs) ≡ room n is qs
  long_is l = rw (le-leb n (length is) l) refl

  pub room_enough : n ≤ length is → n ≤ length qs → true ≡ room n is qs
  room_enough i q = rw (le-leb n (length is) i, le-leb n (length qs) q) refl

  pub room_both : true ≡ room n is qs → (n ≤ length is) × (n ≤ length qs)
  room_both e =
      let both = both_true (leb n (length is)) (leb n (length qs)) e in
      (leb-true n (length is) both.0, leb-true n (length qs) both.1)
