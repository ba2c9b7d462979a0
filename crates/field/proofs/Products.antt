-- The laws of `product`. They hold of all numbers, each standing for its nine low digits.
-- Assumes nothing.
use mathlib.Core.Path.{◌≡◌, refl, sym, ap, ap₂, ◌∙◌}
use Prim.Native.Nat.{ℕ, zero, suc, ◌*◌, ◌/◌, ◌%◌, ◌^◌, ◌<◌}
use native.Mathlib.Nat.{mod-lt, zero-mul, one-mul, mod-mod, mod-eq_of_lt}
use lib.Bits.{bit_xor, xor_shr, xor_mod, xor_lt}
use lib.Dec.{T, eqb, lit<}
use Rattle.ground.proofs.Tests.{all}
use Rattle.ground.proofs.Xors.{by_digit, digit_left, digit_right, xor_double, xor_medial}
use Rattle.field.specs.Field.{degree, reduction, element, sum, shifted, times, product}
use Rattle.field.proofs.Linear.{Additive, Additive₂, Additive₃, additive_0, basis₁, basis₂, basis₃}
use Rattle.field.proofs.Sums.{sum_comm, sum_assoc, sum_self, sum_0}

below : (x : ℕ) → element x < 512
below x = mod-lt x (lit< tt)

-- ---- every part of the product is additive

shifted_add : Additive shifted
unfolding shifted
shifted_add a b =
    ap₂ bit_xor
    (ap (λ (x : ℕ). x % 2 * reduction) (xor_shr a b 8) ∙ ap (λ (x : ℕ). x * reduction) (xor_mod (a / 256) (b / 256) 1) ∙ digit_left (a / 256) (b / 256) reduction)
    (ap (λ (x : ℕ). x % 512) (xor_double a b) ∙ xor_mod (a * 2) (b * 2) 9)
    ∙ xor_medial (a / 256 % 2 * reduction) (b / 256 % 2 * reduction) (a * 2 % 512) (b * 2 % 512)

times_add_right : (k a : ℕ) → Additive (times k a)
unfolding times
times_add_right zero a b c = refl
times_add_right (suc k) a b c =
    ap₂ bit_xor (digit_right a b c) (ap (times k (a / 2)) (shifted_add b c) ∙ times_add_right k (a / 2) (shifted b) (shifted c))
    ∙ xor_medial (a % 2 * b) (a % 2 * c) (times k (a / 2) (shifted b)) (times k (a / 2) (shifted c))

times_add_left : (k b : ℕ) → Additive (λ (a : ℕ). times k a b)
unfolding times
times_add_left zero b a c = refl
times_add_left (suc k) b a c =
    ap₂ bit_xor (ap (λ (x : ℕ). x * b) (xor_mod a c 1) ∙ digit_left a c b)
    (ap (λ (x : ℕ). times k x (shifted b)) (xor_shr a c 1) ∙ times_add_left k (shifted b) (a / 2) (c / 2))
    ∙ xor_medial (a % 2 * b) (c % 2 * b) (times k (a / 2) (shifted b)) (times k (c / 2) (shifted b))

product_add_right : (a : ℕ) → Additive (product a)
unfolding product
product_add_right a b c = ap (times degree (element a)) (xor_mod b c 9) ∙ times_add_right degree (element a) (element b) (element c)

product_add_left : (b : ℕ) → Additive (λ (a : ℕ). product a b)
unfolding product
product_add_left b a c =
    ap (λ (x : ℕ). times degree x (element b)) (xor_mod a c 9) ∙ times_add_left degree (element b) (element a) (element c)

additive : Additive₂ product
additive = (product_add_left, product_add_right)

-- ---- it stays below 512, and only the nine low digits count

pub shifted-lt : (x : ℕ) → shifted x < 512
unfolding shifted
shifted-lt x =
    xor_lt 9 (x / 256 % 2 * reduction) (x * 2 % 512) (by_digit (λ (d : ℕ). d * reduction < 512) (lit< tt) (lit< tt) (x / 256)) (mod-lt (x * 2) (lit< tt))

times-lt : (k x y : ℕ) → y < 512 → times k x y < 512
unfolding times
times-lt zero x y h = lit< tt
times-lt (suc k) x y h =
    xor_lt 9 (x % 2 * y) (times k (x / 2) (shifted y)) (by_digit (λ (d : ℕ). d * y < 512) (rw zero-mul (lit< tt)) (rw one-mul h) x)
    (times-lt k (x / 2) (shifted y) (shifted-lt y))

pub product_lt : (x y : ℕ) → product x y < 512
unfolding product
product_lt x y = times-lt degree (element x) (element y) (below y)

pub product-element : (x y : ℕ) → product (element x) (element y) ≡ product x y
unfolding product
product-element x y = ap₂ (times degree) (mod-mod x 512) (mod-mod y 512)

pub product-element_left : (x y : ℕ) → product (element x) y ≡ product x y
unfolding product
product-element_left x y = ap (λ (z : ℕ). times degree z (element y)) (mod-mod x 512)

product-element_right : (x y : ℕ) → product x (element y) ≡ product x y
unfolding product
product-element_right x y = ap (times degree (element x)) (mod-mod y 512)

-- ---- the laws of a commutative ring

pub product_0 : (x : ℕ) → product x 0 ≡ 0
product_0 x = additive_0 (product x) (product_add_right x)

pub zero-product : (y : ℕ) → product 0 y ≡ 0
zero-product y = additive_0 (λ (x : ℕ). product x y) (product_add_left y)

pub product-sum : (x y z : ℕ) → product x (sum y z) ≡ sum (product x y) (product x z)
unfolding sum
product-sum x y z =
    product_add_right x (element y) (element z)
    ∙ ap₂ bit_xor (product-element_right x y ∙ sym (mod-eq_of_lt (product_lt x y))) (product-element_right x z ∙ sym (mod-eq_of_lt (product_lt x z)))

comm_test : T (all 9 (λ i. all 9 (λ j. eqb (product (2 ^ i) (2 ^ j)) (product (2 ^ j) (2 ^ i)))))
unfolding product times shifted
comm_test = tt

pub product_comm : (x y : ℕ) → product x y ≡ product y x
product_comm x y =
    sym (product-element x y)
    ∙ basis₂ 9 product (λ (a b : ℕ). product b a) additive (product_add_right, product_add_left) comm_test
    (element x) (element y) (below x) (below y)
    ∙ product-element y x

assoc_test : T (all 9 (λ h. all 9 (λ i. all 9 (λ j. eqb (product (product (2 ^ h) (2 ^ i)) (2 ^ j)) (product (2 ^ h) (product (2 ^ i) (2 ^ j)))))))
unfolding product times shifted
assoc_test = tt

left_first : Additive₃ (λ (a b c : ℕ). product (product a b) c)
left_first = (
  (λ b c x y. ap (λ (u : ℕ). product u c) (product_add_left b x y) ∙ product_add_left c (product x b) (product y b)),
  (λ a. (
    (λ c x y. ap (λ (u : ℕ). product u c) (product_add_right a x y) ∙ product_add_left c (product a x) (product a y)),
    (λ b. product_add_right (product a b)),
  )),
)

right_first : Additive₃ (λ (a b c : ℕ). product a (product b c))
right_first = (
  (λ b c. product_add_left (product b c)),
  (λ a. (
    (λ c x y. ap (product a) (product_add_left c x y) ∙ product_add_right a (product x c) (product y c)),
    (λ b x y. ap (product a) (product_add_right b x y) ∙ product_add_right a (product b x) (product b y)),
  )),
)

pub product_assoc : (x y z : ℕ) → product (product x y) z ≡ product x (product y z)
product_assoc x y z =
    sym (ap (λ (u : ℕ). product u (element z)) (product-element x y) ∙ product-element_right (product x y) z)
    ∙ basis₃ 9 (λ (a b c : ℕ). product (product a b) c) (λ (a b c : ℕ). product a (product b c)) left_first right_first assoc_test
    (element x) (element y) (element z) (below x) (below y) (below z)
    ∙ product-element_left x (product (element y) (element z)) ∙ ap (product x) (product-element y z)

pub sum-product : (x y z : ℕ) → product (sum x y) z ≡ sum (product x z) (product y z)
sum-product x y z = product_comm (sum x y) z ∙ product-sum z x y ∙ ap₂ sum (product_comm z x) (product_comm z y)

-- squaring is additive
pub square_sum : (x y : ℕ) → product (sum x y) (sum x y) ≡ sum (product x x) (product y y)
square_sum x y =
    sum-product x y (sum x y) ∙ ap₂ sum (product-sum x x y) (product-sum y x y)
    ∙ sum_assoc (product x x) (product x y) (sum (product y x) (product y y))
    ∙ ap (sum (product x x)) (ap (λ (u : ℕ). sum (product x y) (sum u (product y y))) (product_comm y x) ∙ struck (product x y) (product y y) (product_lt y y))
  where
    struck : (u v : ℕ) → v < 512 → sum u (sum u v) ≡ v
    struck u v h = sym (sum_assoc u u v) ∙ ap (λ (w : ℕ). sum w v) (sum_self u) ∙ sum_comm 0 v ∙ sum_0 v ∙ mod-eq_of_lt h

one_test : T (all 9 (λ i. eqb (product 1 (2 ^ i)) (2 ^ i)))
unfolding product times shifted
one_test = tt

pub one-product : (x : ℕ) → product 1 x ≡ element x
one-product x =
    sym (product-element_right 1 x)
    ∙ basis₁ 9 (product 1) (λ y. y) (product_add_right 1) (λ y z. refl) one_test (element x) (below x)

-- a is 2
a_test : T (all 9 (λ i. eqb (product 2 (2 ^ i)) (shifted (2 ^ i))))
unfolding product times shifted
a_test = tt

pub a_product : (x : ℕ) → x < 512 → product 2 x ≡ shifted x
a_product = basis₁ 9 (product 2) shifted (product_add_right 2) shifted_add a_test
