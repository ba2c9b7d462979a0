-- Bits put into a list, from an index on: where there is room for them, and where there is none.
-- Assumes nothing.
use mathlib.Core.Path.{◌≡◌, refl, sym, ◌∙◌}
use mathlib.Core.List.{List, [], ◌++◌}
use Prim.Native.Nat.{ℕ, ◌+◌, ◌≤◌, ◌<◌}
use native.Mathlib.Omega.{arith}
use borrow.Author.Tests.{le-leb, lt-leb}
use lib.ListN.{length, take, drop, replicate, length-replicate}
use lib.Seq.{take_all}
use Rattle.bits.proofs.Copies.{put_behind}
use Rattle.payload_a.specs.Segments.{put_at}

module _ (out bits : List ℕ) (at : ℕ) where
  pub put_none : length out < at + length bits → out ≡ put_at bits at out
  put_none l = rw (lt-leb (at + length bits) (length out) l) refl

  module _ (fits : at + length bits ≤ length out) where
    pub put_there : put_at bits at out ≡ take at out ++ bits ++ drop (at + length bits) out
    put_there = rw (le-leb (at + length bits) (length out) fits) refl

    -- they stand behind what stood before them
    pub put_next : (p next : List ℕ) (end : ℕ) → end ≡ at + length bits → take at out ≡ p → next ≡ put_at bits at out → take end next ≡ p ++ bits
    put_next p next end ee ep en = put_behind out bits at fits p next end ee ep (en ∙ put_there)

-- two that fill a list of zeros stand there, the second behind the first
pub put_two : (a b : List ℕ) (at n : ℕ) → at ≡ length a → n ≡ at + length b → (one two : List ℕ) → one ≡ put_at a 0 (replicate n 0) → two ≡ put_at b at one
    → length one ≡ n → length two ≡ n → two ≡ a ++ b
put_two a b at n ea en one two e1 e2 l1 l2 =
    let zeros = length-replicate {A = ℕ} n 0 in
    let first = put_next (replicate n 0) a 0 (omega arith) [] one at (omega arith) refl e1 in
    sym (take_all n two (omega arith)) ∙ put_next one b at (omega arith) a two n en first e2
