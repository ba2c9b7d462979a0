-- Two rules of the frame check, ours and the earlier one: no 784 bits fit a frame by both, so a frame sent by the earlier rule is refused with 10, clean or
-- with as many hits as are mended, or as noise with 11.
-- Assumes nothing.
use mathlib.Core.Path.{◌≡◌, refl, sym, ap, ◌∙◌}
use mathlib.Core.Logic.{◌≢◌, inr}
use mathlib.Core.Bool.{Bool, true, false, cond}
use mathlib.Core.List.{List, ◌++◌}
use Prim.Native.Nat.{ℕ, zero, suc, ◌+◌, ◌*◌, ◌%◌, ◌^◌, ◌<◌}
use native.Mathlib.Nat.{ne_of_gt}
use native.Mathlib.Omega.{arith}
use borrow.Author.Tests.{ne_eqb, ltb-true, ltb-false}
use lib.Bits.{bit_xor, xor_self, xor_comm, xor_mod}
use lib.Dec.{eqb, ltb, lit<}
use lib.IntN.{ℤ}
use lib.ListN.{length, replicate, take, drop}
use lib.Seq.{take_at, drop_at}
use Rattle.ground.proofs.Xors.{xor_cancel}
use Rattle.answers.specs.Answers.{of_burst, no_burst}
use Rattle.answers.specs.Checks.{Checked}
use Rattle.answers.specs.declared.ReceivedBurst.{ReceivedBurst}
use Rattle.answers.specs.declared.Refusal.TheVariants.{WrongCheck}
use Rattle.bits.specs.Words.{Bits, digits}
use Rattle.bits.specs.Bytes.{bits_of}
use Rattle.bits.specs.Remainders.{reduced, step, remainder_from}
use Rattle.bits.proofs.Numbers.{digits_same}
use Rattle.bits.proofs.Octets.{length-bits_of}
use Rattle.bch.specs.Codes.{code3, Codeword}
use Rattle.bch.proofs.Mendings.{only_codeword}
use Rattle.points.specs.Dqpsk.{dibits}
use Rattle.symbols.specs.Grids.{received}
use Rattle.payload.specs.Scrambler.{start, scrambled}
use Rattle.payload.specs.Wire.{Wire, block_at, Fits, Mendable}
use Rattle.payload.proofs.Scrambling.{scrambled_inj}
use Rattle.payload.proofs.Wires.{parts_same, block_long, fits_mendable}
use Rattle.payload_a.specs.Check.{check_of, with_check}
use Rattle.payload_a.specs.Segments.{row_bits, carried, protected_differing, most_differing}
use Rattle.payload_a.specs.CodedA.{bytes_a, information, blocks_a, coded_a}
use Rattle.payload_a.specs.PromiseA.{wire_a, Receives, ReceivingA}
use Rattle.payload_a.proofs.Sums.{earlier_check, check_earlier}
use Rattle.payload_a.proofs.Checks.{take-with_check, drop-with_check}
use Rattle.payload_a.proofs.Coding.{bits_behind, length_behind, bits_information, coded_blocks, coded_information, fits_uncoded, none_differs}
use Rattle.payload_a.proofs.Coding.{length_blocks, blocks_codeword, blocks_inj, block_codeword}
use Rattle.payload_a.proofs.Framing.{length-carried}
use Rattle.payload_a.proofs.Turnings.{length_read}
use Rattle.payload_a.proofs.VerdictsA.{no_noise}
use Rattle.payload_a.proofs.OnceA.{receive_a_once}
use Rattle.payload_a.proofs.TripsA.{NoNoise, Legal, RefusedWith, checks_left, noise_refused}

-- ---- what the earlier rule sends

abbrev pub with_earlier_check : List ℕ → List ℕ
with_earlier_check bits = bits ++ digits 32 (earlier_check bits)

abbrev pub earlier_information : List ℕ → List ℕ
earlier_information frame = scrambled (with_earlier_check (bits_of frame))

unfoldable pub earlier_a : ℕ → List ℕ → List ℕ
earlier_a mode frame = cond (eqb mode 0) (earlier_information frame) (blocks_a (earlier_information frame))

-- Payload A's wire, but for what is sent
abbrev pub earlier_wire : ℕ → Wire
earlier_wire mode = record { bytes = bytes_a mode; blocks = 2; size = row_bits; mends = cond (eqb mode 0) 0 code3.t; sent = earlier_a mode }

-- ---- the two checks of a message

-- what the rules differ by, in 32 digits, is 0 for neither length of a frame
zeros_94 : check_of (replicate 752 0) % 2 ^ 32 ≢ 0
unfolding check_of remainder_from step reduced
zeros_94 = ne_of_gt (lit< tt)

zeros_58 : check_of (replicate 464 0) % 2 ^ 32 ≢ 0
unfolding check_of remainder_from step reduced
zeros_58 = ne_of_gt (lit< tt)

zeros_differ : (mode : ℕ) → check_of (replicate (8 * bytes_a mode) 0) % 2 ^ 32 ≢ 0
zeros_differ zero = zeros_94
zeros_differ (suc mode) = rw (ne_eqb (suc mode) 0 (λ e. omega arith)) zeros_58

-- what is added to k digits and leaves them as they were is 0 there
added_none : (x z k : ℕ) → bit_xor z x % 2 ^ k ≡ x % 2 ^ k → z % 2 ^ k ≡ 0
added_none x z k e =
    let a = x % 2 ^ k in
    let b = z % 2 ^ k in
    sym (xor_cancel a b) ∙ ap (bit_xor a) (xor_comm a b ∙ sym (xor_mod z x k) ∙ e) ∙ xor_self a

digits_apart : (mode : ℕ) (m : List ℕ) → length m ≡ 8 * bytes_a mode → digits 32 (check_of m) ≢ digits 32 (earlier_check m)
digits_apart mode m long same =
    let zeros = check_of (replicate (length m) 0) in
    let none : zeros % 2 ^ 32 ≡ 0
    = added_none (earlier_check m) zeros 32 (ap (λ (x : ℕ). x % 2 ^ 32) (sym (check_earlier m)) ∙ digits_same 32 (check_of m) (earlier_check m) same) in
    zeros_differ mode (ap (λ (n : ℕ). check_of (replicate n 0) % 2 ^ 32) (sym long) ∙ none)

-- ---- no frame by both rules

-- no frame with its check is a frame with its earlier check
pub rules_apart : (mode : ℕ) (f g : List ℕ) → length f ≡ bytes_a mode → length g ≡ bytes_a mode → with_check (bits_of f) ≢ with_earlier_check (bits_of g)
rules_apart mode f g lf lg e =
    let n = 8 * bytes_a mode in
    let mf : length (bits_of f) ≡ n = length-bits_of f ∙ ap (λ (k : ℕ). 8 * k) lf in
    let mg : length (bits_of g) ≡ n = length-bits_of g ∙ ap (λ (k : ℕ). 8 * k) lg in
    let earlier = digits 32 (earlier_check (bits_of g)) in
    let same : bits_of g ≡ bits_of f = sym (take_at (bits_of g) earlier n mg) ∙ ap (take n) (sym e) ∙ take-with_check (bits_of f) n mf in
    digits_apart mode (bits_of f) mf
    (sym (drop-with_check (bits_of f) n mf) ∙ ap (drop n) e ∙ drop_at (bits_of g) earlier n mg ∙ ap (λ (m : List ℕ). digits 32 (earlier_check m)) same)

informations_apart : (mode : ℕ) (f g : List ℕ) → length f ≡ bytes_a mode → length g ≡ bytes_a mode → information f ≢ earlier_information g
unfolding scrambled
informations_apart mode f g lf lg e = rules_apart mode f g lf lg (scrambled_inj start (with_check (bits_of f)) (with_earlier_check (bits_of g)) e)

bits_earlier : (frame : List ℕ) → Bits (earlier_information frame)
bits_earlier frame = bits_behind frame (earlier_check (bits_of frame))

length_earlier : (frame : List ℕ) → length (earlier_information frame) ≡ 8 * length frame + 32
length_earlier frame = length_behind frame (earlier_check (bits_of frame))

earlier_uncoded : (frame : List ℕ) → earlier_a 0 frame ≡ earlier_information frame
unfolding earlier_a
earlier_uncoded frame = refl

module _ (m : ℕ) where
  -- every mode but 0 is coded alike
  earlier_coded : (frame : List ℕ) → earlier_a (suc m) frame ≡ blocks_a (earlier_information frame)
  unfolding earlier_a
  earlier_coded frame = rw (ne_eqb (suc m) 0 (λ e. omega arith)) refl

  module _ (frame : List ℕ) (long : length frame ≡ 58) where
    earlier_long : length (earlier_information frame) ≡ 496
    earlier_long = length_earlier frame ∙ ap (λ (n : ℕ). 8 * n + 32) long

    earlier_codeword : (b : ℕ) → b < 2 → Codeword code3 (block_at row_bits b (earlier_a (suc m) frame))
    earlier_codeword b l = rw (earlier_coded frame) (blocks_codeword (earlier_information frame) earlier_long (bits_earlier frame) b l)

-- 784 bits that a frame of ours fits, no frame of the earlier rule fits
pub never_both : (mode : ℕ) (w : List ℕ) → length w ≡ 784 → (f g : List ℕ) → Fits (wire_a mode) w f → Fits (earlier_wire mode) w g → ⊥
never_both zero w long f g p q =
    let theirs : length (earlier_a 0 g) ≡ 784 = ap length (earlier_uncoded g) ∙ length_earlier g ∙ ap (λ (n : ℕ). 8 * n + 32) q.long in
    informations_apart 0 f g p.long q.long
    (fits_uncoded w f long p ∙ sym (none_differs (earlier_a 0 g) w theirs long q.near) ∙ earlier_uncoded g)
never_both (suc m) w long f g p q =
    let coded = ne_eqb (suc m) 0 (λ e. omega arith) in
    let lf : length f ≡ 58 = rw coded at p.long in
    let lg : length g ≡ 58 = rw coded at q.long in
    let ours : length (coded_a (suc m) f) ≡ 784
    = ap length (coded_blocks m f) ∙ length_blocks (information f) (coded_information f lf) (bits_information f) in
    let theirs : length (earlier_a (suc m) g) ≡ 784
    = ap length (earlier_coded m g) ∙ length_blocks (earlier_information g) (earlier_long m g lg) (bits_earlier g) in
    let block : (b : ℕ) → b < 2 → block_at row_bits b (coded_a (suc m) f) ≡ block_at row_bits b (earlier_a (suc m) g)
    = λ b l. only_codeword 3 refl {w = block_at row_bits b w} (block_long row_bits 2 w long b l)
    (record { codeword = block_codeword m f lf b l; near = rw coded at (p.near b l) })
    (record { codeword = earlier_codeword m g lg b l; near = rw coded at (q.near b l) }) in
    informations_apart (suc m) f g p.long q.long
    (blocks_inj (information f) (earlier_information g) (coded_information f lf) (earlier_long m g lg) (bits_information f) (bits_earlier g)
    (sym (coded_blocks m f) ∙ parts_same row_bits 2 (coded_a (suc m) f) (earlier_a (suc m) g) ours theirs block ∙ earlier_coded m g))

-- ---- receive A and the earlier rule

earlier_mendable : (w g : List ℕ) → Fits (earlier_wire 1) w g → (b : ℕ) → b < 2 → Mendable code3 b w
earlier_mendable w g = fits_mendable (earlier_wire 1) code3 refl refl (λ f l b. earlier_codeword 0 f l b) w g

module _ (mode : ℕ) (is qs : List ℤ) (area : List ℕ) (call : Legal mode is qs area) (answer : ReceivedBurst) (after : List ℕ)
    (receiving : ReceivingA mode is qs area answer after) (g : List ℕ) (fits : Fits (earlier_wire mode) (carried (dibits (received 2 is qs))) g) where
  wrong_check : NoNoise (dibits (received 2 is qs)) → RefusedWith 10 area answer after
  wrong_check few =
      let bits = dibits (received 2 is qs) in
      let made = no_burst WrongCheck in
      let P : Checked Unit → Type 0 = λ k. Receives k mode bits area made area in
      let there : ReceivingA mode is qs area made area
      = checks_left call P (no_noise P bits few (inr (inr (record {
        each = λ one b l. earlier_mendable (carried bits) g (rw one at fits) b l;
        none = λ f up. never_both mode (carried bits) (length-carried bits (length_read is qs)) f g up fits;
        tells = refl;
        left = refl;
      })))) in
      let same = receive_a_once area answer made after area mode is qs receiving there in
      (ap of_burst same.0, same.1)

  -- where a frame of the earlier rule fits, clean or with as many hits as are mended, the call is refused with 10, noise with 11, and the area is as it was
  pub earlier_refused : RefusedWith (cond (ltb most_differing (protected_differing (dibits (received 2 is qs)))) 11 10) area answer after
  earlier_refused = by (ltb most_differing (protected_differing (dibits (received 2 is qs)))) refl
    where
      by : (b : Bool) → ltb most_differing (protected_differing (dibits (received 2 is qs))) ≡ b → RefusedWith (cond b 11 10) area answer after
      by true e = noise_refused call answer after receiving (ltb-true most_differing _ e)
      by false e = wrong_check (ltb-false most_differing _ e)
