-- `symbols::quick::wrong` meets its contract: an OR is 0 only where each of its parts is.
-- Assumes nothing.
use mathlib.Core.Path.{◌≡◌, sym, ap, ◌∙◌}
use Prim.Native.Nat.{ℕ, ◌%◌, ◌≤◌}
use Rattle.points.specs.Sizes.{most_of, odd_of}
use Rattle.symbols.proofs.Schemes.{entry_cases}
use Rattle.symbols.proofs.Ors.{or_none, xor_even}
use Rattle.symbols.proofs.quick.wrong.Goals as goal

-- levels are odd where the largest is
most_odd : (n : ℕ) → (2 ≤ n) × (n ≤ 10) → most_of n % 2 ≡ odd_of n
unfolding most_of odd_of
most_odd n h = entry_cases n h (λ e. rw e) (λ e. rw e) (λ e. rw e) (λ e. rw e) (λ e. rw e) (λ e. rw e) (λ e. rw e) (λ e. rw e) (λ e. rw e)

pub returns : goal.returns
returns c none =
    let most : c.from-most.result ≡ most_of c.args.bits.n = c.from-most.ensures ∙ c.most_of.ensures in
    let odd = ap (λ (m : ℕ). m % 2) most ∙ most_odd c.args.bits.n (c.args.bits.least, c.args.bits.most) in
    let five = or_none _ _ none in
    let four = or_none _ _ five.0 in
    let three = or_none _ _ four.0 in
    let two = or_none _ _ three.0 in
    record {
      low_e = rw most at (c.over.ensures two.0);
      low_f = rw most at (c.over-2.ensures two.1);
      odd_e = xor_even c.args.e c.from-most.result three.1 ∙ odd;
      odd_f = xor_even c.args.f c.from-most.result four.1 ∙ odd;
      no_hole = λ a b. sym c.from.ensures ∙ c.both.ensures five.1 a b;
    }
