-- `receiver_a::receiver::read` meets its contract: check 11 counts the protected bits of both OFDM symbols that differ; what the two carry is answered as two
-- rows.
-- Assumes nothing.
use mathlib.Core.Path.{refl, sym, ap₂, ◌∙◌}
use mathlib.Core.List.{◌++◌}
use Prim.Native.Nat.{◌+◌}
use borrow.Author.Tests.{lt-ltb, le-ltb}
use Rattle.payload_a.proofs.Fields.{bits_carried_by, length-carried_by}
use Rattle.payload_a.proofs.Framing.{carried-append, differ-fields}
use Rattle.receiver_a.proofs.receiver.read.Goals as goal

pub returns-then-differing-gt-MOST_DIFFERING : goal.returns-then-differing-gt-MOST_DIFFERING
returns-then-differing-gt-MOST_DIFFERING c =
    let counted = ap₂ ◌+◌ c.differing.ensures.0 c.differing-2.ensures.0 ∙ sym (differ-fields c.args.first.now c.args.second.now c.requires.0.first_long) in
    rw (lt-ltb _ _ (rw counted at c.if-differing-gt-MOST_DIFFERING.true)) (refl, refl)

pub answer-requires : goal.answer-requires
answer-requires c =
    let both = c.requires.0 in
    let first = c.args.first.now in
    let second = c.args.second.now in (
      rw (c.block.ensures, c.block-2.ensures) (record {
        first_long = length-carried_by first both.first_long;
        second_long = length-carried_by second both.second_long;
        first_bits = bits_carried_by first both.first_bits;
        second_bits = bits_carried_by second both.second_bits;
      }),
      c.requires.1,
    )

pub returns : goal.returns
returns c =
    let first = c.args.first.now in
    let second = c.args.second.now in
    let counted = ap₂ ◌+◌ c.differing.ensures.0 c.differing-2.ensures.0 ∙ sym (differ-fields first second c.requires.0.first_long) in
    let carries = ap₂ ◌++◌ c.block.ensures c.block-2.ensures ∙ sym (carried-append first second c.requires.0.first_long) in
    rw (le-ltb _ _ (rw counted at c.if-differing-gt-MOST_DIFFERING.false), ← counted, ← carries) c.answer.ensures
