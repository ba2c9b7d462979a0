-- `bridge::lent::numbers_in` meets its contract: the numbers before k are read.
-- Assumes nothing.
use mathlib.Core.Path.{◌≡◌, refl, sym, ap, ◌∙◌}
use mathlib.Core.List.{List}
use Prim.Native.Nat.{ℕ, ◌+◌, ◌-◌, ◌*◌, ◌<◌}
use native.Mathlib.Numerals.{add-one}
use native.Mathlib.Omega.{arith}
use lib.ListN.{get_or, length-set}
use lib.Seq.{take_all, take-suc-set}
use mir.Syntax.{w8}
use mir.Val.{Fits}
use borrow.Author.Rules.{rules}
use Rattle.bridge.specs.Streams.{each, octets, spread, number_at}
use Rattle.bridge.proofs.Holds.{each_none, each-suc, each_at, spread_none, spread_same, spread_next_of, number_read, octets_read}
use Rattle.bridge.proofs.lent.numbers_in.Goals as goal

pub loop-k-init : goal.loop-k-init
loop-k-init c =
    let f : ℕ → ℕ = λ j. number_at c.args.bytes.now (8 * j) in
    (refl, sym (each_none f), spread_none f)

pub loop-k-preserved : goal.loop-k-preserved
loop-k-preserved c =
    let l = c.loop-k in
    let bytes = c.args.bytes.now in
    let n = c.from_le_bytes.result in
    let f : ℕ → ℕ = λ j. number_at bytes (8 * j) in
    let word = c.copy_from_slice.new.self in
    let small : (i : ℕ) → get_or bytes i 0 < 256 = λ i. let one : Fits w8 (get_or bytes i 0) = search rules in one.fits in
    let read = number_read bytes word (8 * l.k) (8 * l.k + 8 - 8 * l.k) n (omega arith) (omega arith) c.copy_from_slice.ensures.after c.from_le_bytes.ensures in
    let again = octets_read bytes word (8 * l.k) (8 * l.k + 8 - 8 * l.k) n (omega arith) (omega arith) c.copy_from_slice.ensures.after c.from_le_bytes.ensures small in
    let next = spread_next_of bytes l.k f l.invariant.2 (ap octets (sym read) ∙ again) in (
      simp length-set l.invariant.0,
      rw (add-one l.k, take-suc-set l.out l.k n (omega arith), each-suc l.k f, l.invariant.1, read) refl,
      rw (add-one l.k) next,
    )

pub returns : goal.returns
returns c =
    let l = c.loop-k in
    let bytes = c.args.bytes.now in
    let f : ℕ → ℕ = λ j. number_at bytes (8 * j) in
    let all : l.k ≡ 17 = omega arith in
    let read : l.out ≡ each 17 f = sym (take_all l.k l.out (omega arith)) ∙ l.invariant.1 ∙ rw all refl in
    let stand = rw all at l.invariant.2 in
    (read, ap (λ (xs : List ℕ). spread 17 (λ k. get_or xs k 0)) read ∙ spread_same 17 (λ k. get_or (each 17 f) k 0) f (λ k m. each_at 17 f k m) ∙ stand)
