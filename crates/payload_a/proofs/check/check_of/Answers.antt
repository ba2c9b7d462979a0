-- `payload_a::check::check_of` meets its contract: what is left of the message is taken in after what the register has taken, and the end is inverted.
-- Assumes nothing.
use mathlib.Core.Path.{◌≡◌, refl, sym, ap, ◌∙◌}
use mathlib.Core.List.{List, ◌++◌}
use Prim.Native.Nat.{ℕ, ◌+◌, ◌*◌, ◌/◌, ◌%◌, ◌≤◌, ◌<◌}
use native.Mathlib.Omega.{arith}
use native.Mathlib.Numerals.{add-one}
use lib.Bits.{bit_xor}
use lib.ListN.{length, get_or, drop, drop_of_length-le}
use lib.Seq.{drop-cons}
use Rattle.bits.specs.Words.{lowest, digits}
use Rattle.bits.specs.Remainders.{step, remainder_from}
use Rattle.bits.proofs.Chunks.{lowest-drop, eight_read}
use Rattle.bits.proofs.Digits.{length-lowest, lowest_at}
use Rattle.bits.proofs.Remainders.{from_append}
use Rattle.payload_a.specs.Check.{check_polynomial, all_ones, check_of}
use Rattle.payload_a.proofs.check.check_of.Goals as goal

-- a turn: y is the register after the bit at i
turn : (x y : ℕ) (m : List ℕ) (i : ℕ) → i < length m → y ≡ step 32 check_polynomial x (get_or m i 0 % 2)
    → remainder_from 32 check_polynomial y (drop (i + 1) (lowest m)) ≡ remainder_from 32 check_polynomial x (drop i (lowest m))
unfolding remainder_from
turn x y m i h e =
    rw (e ∙ ap (step 32 check_polynomial x) (sym (lowest_at m i)), add-one, drop-cons (lowest m) i 0 (rw (length-lowest m) h))

-- and after the eight bits from i on, the digits of b
turn8 : (x y b : ℕ) (m : List ℕ) (i : ℕ) → drop (8 * i) m ≡ digits 8 b ++ drop (8 * i + 8) m → y ≡ remainder_from 32 check_polynomial x (digits 8 b)
    → remainder_from 32 check_polynomial y (drop (8 * (i + 1)) m) ≡ remainder_from 32 check_polynomial x (drop (8 * i) m)
turn8 x y b m i d e =
    let next : 8 * (i + 1) ≡ 8 * i + 8 = omega arith in
    rw (next, e, d) (sym (from_append 32 check_polynomial x (digits 8 b) (drop (8 * i + 8) m)))

-- the rest, behind the last eight
behind : (x i n : ℕ) (m rest : List ℕ) → rest ≡ drop n m → 8 * i ≡ n
    → remainder_from 32 check_polynomial x (drop (8 * i) (lowest m)) ≡ remainder_from 32 check_polynomial x (lowest rest)
behind x i n m rest e at = rw (e, at, lowest-drop n m) refl

done : (x : ℕ) (m : List ℕ) (i : ℕ) → length m ≤ i → x ≡ remainder_from 32 check_polynomial x (drop i m)
unfolding remainder_from
done x m i h = rw (drop_of_length-le m h)

pub loop-word-init : goal.loop-word-init
loop-word-init c = refl

pub loop-word-preserved : goal.loop-word-preserved
loop-word-preserved c =
    let l = c.loop-word in
    let m = c.args.message.now in
    let chunks = c.as_chunks.ensures in
    let here = eight_read m c.as_chunks.result.0.now chunks.front l.word-index c.eight.result (omega (arith, chunks.front_len)) c.eight.ensures in
    turn8 l.register _ _ (lowest m) l.word-index here c.take_eight-register.ensures ∙ l.invariant

pub loop-element-init : goal.loop-element-init
loop-element-init c =
    let l = c.loop-word in
    let chunks = c.as_chunks.ensures in
    let m = c.args.message.now in
    sym (behind l.register l.word-index (length m / 8 * 8) m _ chunks.back (omega (arith, chunks.front_len))) ∙ l.invariant

pub loop-element-preserved : goal.loop-element-preserved
loop-element-preserved c =
    let l = c.loop-element in
    turn l.register _ c.as_chunks.result.1.now l.element-index (omega arith) c.take_in-register.ensures ∙ l.invariant

pub returns : goal.returns
unfolding check_of
returns c =
    let l = c.loop-element in
    let rest = c.as_chunks.result.1.now in
    ap (λ (x : ℕ). bit_xor x all_ones) (done l.register (lowest rest) l.element-index (omega (arith, length-lowest rest)) ∙ l.invariant)
