-- The sum of the frame checks of two messages of one length, what another last bit does to a check, and the earlier rule beside ours.
-- Assumes nothing.
use mathlib.Core.Path.{◌≡◌, refl, sym, ap, ◌∙◌}
use mathlib.Core.List.{List, [], ◌∷◌, ◌++◌, zip_with}
use Prim.Native.Nat.{ℕ}
use lib.Bits.{bit_xor, xor_self}
use lib.ListN.{length, replicate, length-append, length-replicate}
use Rattle.ground.proofs.Xors.{xors, xor_cancel}
use Rattle.bits.specs.Remainders.{reduced, step, remainder_from, remainder}
use Rattle.bits.proofs.Remainders.{leading_zeros, from_sum}
use Rattle.bits.proofs.Sums.{zeros_sum, shared_sum}
use Rattle.payload_a.specs.Check.{check_polynomial, all_ones, check_of}

-- the earlier rule, document 01's: the register from zero, and nothing inverted
abbrev pub earlier_check : List ℕ → ℕ
earlier_check bits = remainder 32 check_polynomial bits

-- where both are inverted, the sum is as it was
both_inverted : (x y z : ℕ) → bit_xor (bit_xor x z) (bit_xor y z) ≡ bit_xor x y
both_inverted x y z = simp xors

-- the sum of the checks of two messages of one length is the earlier check of the sum of the messages
pub checks_added : (m n : List ℕ) → length m ≡ length n → bit_xor (check_of m) (check_of n) ≡ earlier_check (zip_with bit_xor m n)
unfolding check_of remainder
checks_added m n long =
    both_inverted (remainder_from 32 check_polynomial all_ones m) (remainder_from 32 check_polynomial all_ones n) all_ones
    ∙ sym (from_sum 32 check_polynomial m n all_ones all_ones long)
    ∙ ap (λ (x : ℕ). remainder_from 32 check_polynomial x (zip_with bit_xor m n)) (xor_self all_ones)

-- ---- another last bit

earlier_of_1 : earlier_check (1 ∷ []) ≡ 0x04c1_1db7
unfolding remainder remainder_from step reduced
earlier_of_1 = refl

-- changing only the last bit of a message changes its check by 04C11DB7
pub last_bit_changed : (m : List ℕ) (b : ℕ) → check_of (m ++ (bit_xor b 1 ∷ [])) ≡ bit_xor (check_of (m ++ (b ∷ []))) 0x04c1_1db7
unfolding zip_with
last_bit_changed m b =
    let one = m ++ (b ∷ []) in
    let other = m ++ (bit_xor b 1 ∷ []) in
    let long : length one ≡ length other = length-append m (b ∷ []) ∙ sym (length-append m (bit_xor b 1 ∷ [])) in
    let by : bit_xor (check_of one) (check_of other) ≡ 0x04c1_1db7
    = checks_added one other long ∙ ap earlier_check (shared_sum m (b ∷ []) (bit_xor b 1 ∷ []))
    ∙ leading_zeros 32 check_polynomial (length m) (bit_xor b (bit_xor b 1) ∷ []) ∙ ap (λ (c : ℕ). earlier_check (c ∷ [])) (xor_cancel b 1) ∙ earlier_of_1 in
    sym (xor_cancel (check_of one) (check_of other)) ∙ ap (bit_xor (check_of one)) by

-- ---- the earlier rule

-- the check is the earlier one, and added to it a number that the length alone decides: the check of as many zeros
pub check_earlier : (m : List ℕ) → check_of m ≡ bit_xor (check_of (replicate (length m) 0)) (earlier_check m)
check_earlier m =
    let zeros = check_of (replicate (length m) 0) in
    let by : bit_xor zeros (check_of m) ≡ earlier_check m
    = checks_added (replicate (length m) 0) m (length-replicate (length m) 0) ∙ ap earlier_check (zeros_sum m) in
    sym (xor_cancel zeros (check_of m)) ∙ ap (bit_xor zeros) by
