-- `bch::register::remainder` meets its contract: what is left of the word is taken in after what the register has taken.
-- Assumes nothing.
use mathlib.Core.Path.{◌≡◌, refl, sym, ap, ◌∙◌}
use mathlib.Core.List.{List, ◌++◌}
use Prim.Native.Nat.{ℕ, ◌+◌, ◌*◌, ◌/◌, ◌%◌, ◌^◌, ◌≤◌, ◌<◌}
use native.Mathlib.Omega.{arith}
use native.Mathlib.Numerals.{add-one}
use lib.ListN.{length, get_or, drop, drop_of_length-le}
use lib.Seq.{drop-cons}
use Rattle.bits.specs.Words.{lowest, digits}
use Rattle.bch.specs.Registers.{contents, whole}
use Rattle.bits.specs.Remainders.{step, remainder, remainder_from}
use Rattle.bits.proofs.Chunks.{lowest-drop, eight_read}
use Rattle.bits.proofs.Digits.{length-lowest, lowest_at}
use Rattle.bits.proofs.Remainders.{from_append}
use Rattle.bch.proofs.Triples.{joined-lt}
use Rattle.bch.proofs.Eights.{first_unit, next_part}
use Rattle.bch.proofs.register.remainder.Goals as goal

-- a turn: y is the register after the bit at i
turn : (g x y : ℕ) (w : List ℕ) (i : ℕ) → i < length w → y ≡ step 192 g x (get_or w i 0 % 2)
    → remainder_from 192 g y (drop (i + 1) (lowest w)) ≡ remainder_from 192 g x (drop i (lowest w))
unfolding remainder_from
turn g x y w i h e = rw (e ∙ ap (step 192 g x) (sym (lowest_at w i)), add-one, drop-cons (lowest w) i 0 (rw (length-lowest w) h))

-- and after the i-th eight bits, the digits of b
turn8 : (g x y b : ℕ) (w : List ℕ) (i : ℕ) → drop (8 * i) w ≡ digits 8 b ++ drop (8 * i + 8) w → y ≡ remainder_from 192 g x (digits 8 b)
    → remainder_from 192 g y (drop (8 * (i + 1)) w) ≡ remainder_from 192 g x (drop (8 * i) w)
turn8 g x y b w i d e =
    let next : 8 * (i + 1) ≡ 8 * i + 8 = omega arith in
    rw (next, e, d) (sym (from_append 192 g x (digits 8 b) (drop (8 * i + 8) w)))

-- the rest, behind the last eight
behind : (g x i n : ℕ) (w rest : List ℕ) → rest ≡ drop n w → 8 * i ≡ n
    → remainder_from 192 g x (drop (8 * i) (lowest w)) ≡ remainder_from 192 g x (lowest rest)
behind g x i n w rest e at = rw (e, at, lowest-drop n w) refl

done : (g x : ℕ) (w : List ℕ) (i : ℕ) → length w ≤ i → x ≡ remainder_from 192 g x (drop i w)
unfolding remainder_from
done g x w i h = rw (drop_of_length-le w h)

pub loop-eight-init : goal.loop-eight-init
unfolding remainder
loop-eight-init c = refl

-- `good` is there for `omega` to read: the words of g are below 2 ^ 64
pub loop-eight-preserved : goal.loop-eight-preserved
loop-eight-preserved c =
    let l = c.loop-eight in
    let w = c.args.word.now in
    let n = contents c.args.g in
    let g = 2 ^ 192 + n in
    let good = c.well_formed in
    let less : n < 2 ^ 192 = joined-lt {W = 2 ^ 64} (omega arith) (omega arith) (omega arith) in
    let low = c.sixteen-lows.ensures 0 (first_unit n less) in
    let high = c.sixteen-highs.ensures 4 (c.step.ensures ∙ next_part g _ 0 (low 8 _ (omega arith))) in
    let chunks = c.as_chunks.ensures in
    let here = eight_read w c.as_chunks.result.0.now chunks.front l.eight-index c.eight.result (omega (arith, chunks.front_len)) c.eight.ensures in
    let slot = c.slot-at.ensures in
    let taken = c.step8-r.ensures g _ _ slot.0 (high _ _ (omega arith)) (low _ _ (omega arith)) in
    turn8 g (contents l.r) _ _ (lowest w) l.eight-index here taken ∙ l.invariant

pub loop-b-init : goal.loop-b-init
loop-b-init c =
    let l = c.loop-eight in
    let w = c.args.word.now in
    let chunks = c.as_chunks.ensures in
    sym (behind (whole c.args.g) (contents l.r) l.eight-index (length w / 8 * 8) w _ chunks.back (omega (arith, chunks.front_len))) ∙ l.invariant

pub loop-b-preserved : goal.loop-b-preserved
loop-b-preserved c =
    let l = c.loop-b in
    turn (whole c.args.g) (contents l.r) _ c.as_chunks.result.1.now l.b-index (omega arith) c.step-r.ensures ∙ l.invariant

pub returns : goal.returns
returns c =
    let l = c.loop-b in
    let rest = c.as_chunks.result.1.now in
    done (whole c.args.g) (contents l.r) (lowest rest) l.b-index (omega (arith, length-lowest rest)) ∙ l.invariant
