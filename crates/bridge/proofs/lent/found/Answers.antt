-- `bridge::lent::found` meets its contract: bytes hold a state where its numbers are those found, and zeros are behind the scheme.
-- Assumes nothing.
use mathlib.Core.Path.{◌≡◌, sym, subst, ap, ◌∙◌}
use mathlib.Core.Bool.{true, false, true≢false}
use mathlib.Core.List.{List}
use Prim.Native.Nat.{ℕ, ◌^◌, ◌<◌}
use native.Mathlib.Omega.{arith}
use lib.ListN.{length, get_or}
use mir.Syntax.{w64}
use mir.Val.{Fits}
use Rattle.std.proofs.lemmas.Bool.Decides.{Decides-eqb}
use Rattle.std.proofs.lemmas.Slice.{between_to_end}
use Rattle.std.proofs.lemmas.Slice.Eq.{slice_eq-Decides}
use Rattle.bridge.specs.Streams.{spread, numbers_of, numbers_in, moving_in}
use Rattle.bridge.proofs.Holdings.{numbers_so, holds_both}
use borrow.Author.Rules.{rules}
use Rattle.bridge.proofs.lent.found.Goals as goal
use Rattle.bridge.proofs.lent.found.Goals.{else-eq-via-then-eq+else-eq-2, else-eq-via-else-eq}

pub returns-then-eq-2 : goal.returns-then-eq-2
returns-then-eq-2 c =
    let bytes = c.args.bytes.now in
    let long : length bytes ≡ 352 = search rules in
    let rest = between_to_end bytes 346 352 (omega arith) in
    let n = c.numbers_in-numbers.ensures in
    let moving = c.moving_in-moving.ensures ∙ ap moving_in n.0 in
    let own = c.numbers_of.ensures.0 ∙ ap numbers_of moving in
    let alike = (slice_eq-Decides Decides-eqb _ _ _ c.eq.ensures).0 c.if-eq.true in
    let zeros = (slice_eq-Decides Decides-eqb _ _ _ c.eq-then-eq.ensures).0 c.if-eq-2.true in
    let stand = sym (ap (λ (xs : List ℕ). spread 17 (λ k. get_or xs k 0)) n.0) ∙ n.1 in
    (moving, holds_both bytes long true stand (sym n.0 ∙ alike ∙ own) (sym rest ∙ zeros))

pub returns-else-eq : goal.returns-else-eq
returns-else-eq c =
    let bytes = c.args.bytes.now in
    let long : length bytes ≡ 352 = search rules in
    let n = c.numbers_in-numbers.ensures in
    let own : c.numbers_of.result ≡ numbers_of (moving_in (numbers_in bytes)) = c.numbers_of.ensures.0 ∙ ap numbers_of (c.moving_in-moving.ensures ∙ ap moving_in n.0) in
    let fit : (k : ℕ) → get_or (numbers_of (moving_in (numbers_in bytes))) k 0 < 2 ^ 64 =
    λ k.
    let one : Fits w64 (get_or c.numbers_of.result k 0) = search rules in
    subst (λ (xs : List ℕ). get_or xs k 0 < 2 ^ 64) own one.fits in
    let rest = between_to_end bytes 346 352 (omega arith) in
    let stand = sym (ap (λ (xs : List ℕ). spread 17 (λ k. get_or xs k 0)) n.0) ∙ n.1 in
    λ e. elim c.else-eq.branch [
      | else-eq-via-then-eq+else-eq-2 w ↦ holds_both bytes long false stand (numbers_so bytes long fit e)
          (λ zeros. true≢false (sym ((slice_eq-Decides Decides-eqb _ _ _ w.eq-then-eq.ensures).1 (rest ∙ zeros)) ∙ w.if-eq-2.false)) e
      | else-eq-via-else-eq w ↦ absurd (true≢false (sym ((slice_eq-Decides Decides-eqb _ _ _ c.eq.ensures).1 (n.0 ∙ numbers_so bytes long fit e ∙ sym own)) ∙ w.if-eq.false))
    ]
