-- Numbers in three machine words: what moving them by places, adding them and reading their top does.
-- Assumes nothing.
use mathlib.Core.Path.{◌≡◌, sym, ap, ◌∙◌}
use Prim.Native.Nat.{ℕ, ◌+◌, ◌*◌, ◌/◌, ◌%◌, ◌^◌, ◌<◌}
use native.Mathlib.Omega.{arith}
use native.Mathlib.Nat.{mod-lt, div-add-mod', div-lt_iff_lt-mul, div-div-eq-div-mul, le-mul_of_pos_right}
use lib.Arith.{digits_lt, digits_div, digits_mod}
use lib.Bits.{bit_xor, xor_block}

-- ---- a number in three words of W

abbrev pub joined : ℕ → ℕ → ℕ → ℕ → ℕ
joined W h m l = (h * W + m) * W + l

pub joined-lt : {W h m l : ℕ} → h < W → m < W → l < W → joined W h m l < W * W * W
joined-lt kh km kl = digits_lt (digits_lt kh km) kl

pub joined_0 : (W h m l : ℕ) → 0 < W → joined W h m l ≡ 0 → (h ≡ 0) × (m ≡ 0)
joined_0 W h m l pos e = omega (arith, le-mul_of_pos_right h pos, le-mul_of_pos_right (h * W + m) pos)

-- the words are those of the number
pub joined_once : (W h m l i n k : ℕ) → m < W → l < W → n < W → k < W → joined W h m l ≡ joined W i n k → (h ≡ i) × (m ≡ n) × (l ≡ k)
joined_once W h m l i n k km kl kn kk e =
    let high : h * W + m ≡ i * W + n = sym (digits_div (h * W + m) kl) ∙ ap (λ (x : ℕ). x / W) e ∙ digits_div (i * W + n) kk in (
      sym (digits_div h km) ∙ ap (λ (x : ℕ). x / W) high ∙ digits_div i kn,
      sym (digits_mod h km) ∙ ap (λ (x : ℕ). x % W) high ∙ digits_mod i kn,
      sym (digits_mod (h * W + m) kl) ∙ ap (λ (x : ℕ). x % W) e ∙ digits_mod (i * W + n) kk,
    )

pub joined_top : (W H h m l : ℕ) → m < W → l < W → joined W h m l / (W * W * H) ≡ h / H
joined_top W H h m l km kl =
    let x = joined W h m l in
    sym (ap (λ (n : ℕ). n / H) (div-div-eq-div-mul x W W) ∙ div-div-eq-div-mul x (W * W) H)
    ∙ ap (λ (n : ℕ). n / W / H) (digits_div (h * W + m) kl) ∙ ap (λ (n : ℕ). n / H) (digits_div h km)

-- a multiple, word by word with what each hands to the next
carried : (W D h m l h' m' l' x y z : ℕ) → h * D ≡ h' * W + x → m * D ≡ m' * W + y → l * D ≡ l' * W + z
    → joined W h m l * D ≡ h' * (W * W * W) + joined W (x + m') (y + l') z
carried W D h m l h' m' l' x y z eh em el = omega (arith, ap (λ (n : ℕ). n * W * W) eh, ap (λ (n : ℕ). n * W) em)

-- words of H * D: a high digit below D, and a number below H
module _ (H D : ℕ) (some : 0 < H) (one : 0 < D) where
  pub raised_lt : (h m : ℕ) → m < H * D → h % H * D + m / H < H * D
  raised_lt h m km = digits_lt (mod-lt h some) ((div-lt_iff_lt-mul some).1 (omega arith))

  pub joined_up : (h m l : ℕ) → m < H * D → l < H * D
      → joined (H * D) (h % H * D + m / H) (m % H * D + l / H) (l % H * D) ≡ joined (H * D) h m l * D % (H * D * (H * D) * (H * D))
  joined_up h m l km kl =
      let W = H * D in
      let kz : l % H * D + 0 < W = digits_lt (mod-lt l some) one in
      let times : (n : ℕ) → n * D ≡ n / H * W + n % H * D = λ n. omega (arith, ap (λ (k : ℕ). k * D) (div-add-mod' n H)) in
      sym (ap (λ (n : ℕ). n % (W * W * W))
      (carried W D h m l (h / H) (m / H) (l / H) (h % H * D) (m % H * D) (l % H * D) (times h) (times m) (times l))
      ∙ digits_mod (h / H) (joined-lt (raised_lt h m km) (raised_lt m l kl) (omega arith)))

pub joined-xor : (w h m l i n k : ℕ) → m < 2 ^ w → l < 2 ^ w → n < 2 ^ w → k < 2 ^ w
    → joined (2 ^ w) (bit_xor h i) (bit_xor m n) (bit_xor l k) ≡ bit_xor (joined (2 ^ w) h m l) (joined (2 ^ w) i n k)
joined-xor w h m l i n k km kl kn kk =
    sym (xor_block w (h * 2 ^ w + m) (i * 2 ^ w + n) l k kl kk ∙ ap (λ (x : ℕ). x * 2 ^ w + bit_xor l k) (xor_block w h i m n km kn))
