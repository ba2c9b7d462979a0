-- Machine words whose 64 bits are all the same, and planes with one element in each lane.
-- Assumes nothing.
use mathlib.Core.Path.{◌≡◌, sym, ap, ◌∙◌}
use Prim.Native.Nat.{ℕ, ◌+◌, ◌*◌, ◌/◌, ◌%◌, ◌<◌}
use native.Mathlib.Omega.{arith}
use lib.Arith.{mod-mul}
use lib.Dec.{T, eqb, lit<}
use Rattle.ground.proofs.Tests.{all, all_equal}
use Rattle.ground.proofs.Xors.{by_digit}
use Rattle.algebra.proofs.Fields.{add-zero}
use Rattle.field.specs.Field.{element}
use Rattle.field.proofs.Sums.{sum_0}
use Rattle.field.proofs.Elements.{gf512, element_of, of_0, of_sum}
use Rattle.planes.specs.Lanes.{bit_of, nine, number_at, lane_of}
use Rattle.planes.specs.declared.Planes.{Planes}

-- ---- all lanes or none

-- the machine word with a 1 in each lane
abbrev pub full : ℕ
full = 0xffff_ffff_ffff_ffff

full_test : T (all 64 (λ l. eqb (bit_of full l) 1))
unfolding bit_of
full_test = tt

pub full_bit : (l : ℕ) → l < 64 → bit_of full l ≡ 1
full_bit = all_equal 64 (bit_of full) (λ l. 1) full_test

none_test : T (all 64 (λ l. eqb (bit_of 0 l) 0))
unfolding bit_of
none_test = tt

pub all_law : (x l : ℕ) → l < 64 → bit_of (x % 2 * full) l ≡ x % 2
all_law x l h = by_digit (λ (d : ℕ). bit_of (d * full) l ≡ d) (all_equal 64 (bit_of 0) (λ l. 0) none_test l h) (full_bit l h) x

-- ---- nine digits

of_element : (x : ℕ) → element_of (element x) ≡ element_of x
of_element x = ap element_of (sym (sum_0 x)) ∙ of_sum x 0 ∙ ap (gf512.add (element_of x)) of_0 ∙ add-zero gf512 (element_of x)

-- the lowest digit, and the others
lowest : (x m : ℕ) → 0 < m → x % (m * 2) ≡ x % 2 + 2 * (x / 2 % m)
lowest x m h = mod-mul x {m = m} {c = 2} h (lit< tt) ∙ omega arith

pub number_spread : (r : Planes) (l x : ℕ) → bit_of r.p0 l ≡ x % 2 → bit_of r.p1 l ≡ x / 2 % 2 → bit_of r.p2 l ≡ x / 2 / 2 % 2
    → bit_of r.p3 l ≡ x / 2 / 2 / 2 % 2 → bit_of r.p4 l ≡ x / 2 / 2 / 2 / 2 % 2 → bit_of r.p5 l ≡ x / 2 / 2 / 2 / 2 / 2 % 2
    → bit_of r.p6 l ≡ x / 2 / 2 / 2 / 2 / 2 / 2 % 2 → bit_of r.p7 l ≡ x / 2 / 2 / 2 / 2 / 2 / 2 / 2 % 2
    → bit_of r.p8 l ≡ x / 2 / 2 / 2 / 2 / 2 / 2 / 2 / 2 % 2 → number_at r l ≡ element x
unfolding number_at nine
number_spread r l x h0 h1 h2 h3 h4 h5 h6 h7 h8 =
    rw (
      lowest x 256 (lit< tt),
      lowest (x / 2) 128 (lit< tt),
      lowest (x / 2 / 2) 64 (lit< tt),
      lowest (x / 2 / 2 / 2) 32 (lit< tt),
      lowest (x / 2 / 2 / 2 / 2) 16 (lit< tt),
      lowest (x / 2 / 2 / 2 / 2 / 2) 8 (lit< tt),
      lowest (x / 2 / 2 / 2 / 2 / 2 / 2) 4 (lit< tt),
      lowest (x / 2 / 2 / 2 / 2 / 2 / 2 / 2) 2 (lit< tt),
      h0,
      h1,
      h2,
      h3,
      h4,
      h5,
      h6,
      h7,
      h8,
    )

pub lane_spread : (r : Planes) (l x : ℕ) → number_at r l ≡ element x → lane_of r l ≡ element_of x
unfolding lane_of
lane_spread r l x h = ap element_of h ∙ of_element x
