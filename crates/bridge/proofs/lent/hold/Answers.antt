-- `bridge::lent::hold` meets its contract: the numbers, the scheme and the zeros, one behind the other.
-- Assumes nothing.
use mathlib.Core.Path.{◌≡◌, subst, ap, ◌∙◌}
use mathlib.Core.List.{List, ◌++◌}
use Prim.Native.Nat.{ℕ, ◌^◌, ◌<◌}
use lib.ListN.{length, get_or, replicate}
use mir.Syntax.{w64}
use mir.Val.{Fits}
use Rattle.payload_b.specs.StreamB.{moving}
use Rattle.bridge.specs.Streams.{spread, numbers_of, Formed, lent_of, state_of}
use Rattle.bridge.proofs.Holds.{hold_is}
use Rattle.bridge.proofs.Holdings.{state_of_lem}
use borrow.Author.Rules.{rules}
use Rattle.bridge.proofs.lent.hold.Goals as goal

pub returns : goal.returns
returns c =
    let state = c.args.state in
    let long : length state.scheme ≡ 210 = search rules in
    let own = c.numbers_of.ensures.0 ∙ ap numbers_of c.without_scheme.ensures in
    let formed = subst Formed c.without_scheme.ensures c.numbers_of.ensures.1 in
    let small : (k : ℕ) → get_or (numbers_of (moving state)) k 0 < 2 ^ 64 =
    λ k.
    let one : Fits w64 (get_or c.numbers_of.result k 0) = search rules in
    subst (λ (xs : List ℕ). get_or xs k 0 < 2 ^ 64) own one.fits in
    let f : ℕ → ℕ = λ k. get_or c.numbers_of.result k 0 in
    let before : length c.args.out.now ≡ 352 = search rules in
    let made : _ ≡ lent_of state =
    hold_is f c.args.out.now state.scheme before long c.put_numbers.new.out c.copy_from_slice.new.self c.fill.new.self
    c.put_numbers.ensures c.copy_from_slice.ensures.after (c.fill.ensures.after (λ y e. e))
    ∙ ap (λ (ns : List ℕ). spread 17 (λ k. get_or ns k 0) ++ (state.scheme ++ replicate 6 0)) own in
    (made, ap state_of made ∙ state_of_lem state long formed small)
