-- `symbols::quick::most_of` meets its contract: at each n from 2 to 10 the sum is the entry of the table.
-- Assumes nothing.
use Rattle.points.specs.Sizes.{most_of}
use Rattle.symbols.proofs.Schemes.{entry_cases}
use Rattle.symbols.proofs.quick.most_of.Goals as goal

pub returns : goal.returns
unfolding most_of
returns c =
    rw (c.from.ensures.0, c.from-2.ensures.0, c.from-3.ensures.0, c.from-4.ensures.0)
    (rw (c.from-5.ensures.0, c.from-6.ensures.0, c.from-7.ensures.0, c.from-8.ensures.0)
    (entry_cases c.args.bits.n (c.args.bits.least, c.args.bits.most)
    (λ e. rw e) (λ e. rw e) (λ e. rw e) (λ e. rw e) (λ e. rw e) (λ e. rw e) (λ e. rw e) (λ e. rw e) (λ e. rw e)))
