-- Several bits formed at once: up to fourteen are digits of the register added to itself moved by one stage. Then more of them, bits scrambled by them, and
-- the register with them shifted in.
-- Assumes nothing.
use mathlib.Core.Path.{◌≡◌, refl, sym, ap, ap₂, ◌∙◌}
use mathlib.Core.List.{List, [], ◌∷◌, ◌++◌, append-nil, append_assoc, zip_with}
use Prim.Native.Nat.{ℕ, zero, suc, ◌+◌, ◌*◌, ◌/◌, ◌%◌, ◌^◌, ◌≤◌, ◌<◌}
use native.Mathlib.Nat.{mod-lt, mod-eq_of_lt, le_refl, suc-mul, mul-le-mul_right}
use native.Mathlib.Numerals.{add-one}
use native.Mathlib.Omega.{arith}
use lib.Bits.{bit_xor, bit_or, xor_shr, xor_mod, xor_comm, xor_zero_r}
use lib.ListN.{length, take, drop, replicate, length-drop, length-replicate, replicate-append-replicate}
use lib.Pow.{pow_pos, pow-add, high, low, field, shr-shr}
use lib.Seq.{take_at, drop_at, drop-drop, drop-append-le}
use Rattle.bits.specs.Words.{digits}
use Rattle.bits.proofs.Digits.{length_digits, digit_xor, digits_last}
use Rattle.bits.proofs.Numbers.{digits_inj}
use Rattle.bits.proofs.Shifts.{digits-mod-pow, digits_append, digits-or}
use Rattle.bits.proofs.Sums.{digits-xor}
use Rattle.payload.specs.Scrambler.{formed, shifted, scrambled_from, register_after}
use Rattle.payload.proofs.Scrambling.{formed-lt, length_scrambled, scrambled_append, register_more}

-- n bits formed
abbrev pub formed_from : ℕ → ℕ → List ℕ
formed_from r n = scrambled_from r (replicate n 0)

-- ---- fourteen at once

abbrev pub key : ℕ → ℕ
key r = bit_xor r (r / 2) % 2 ^ 14

-- the highest digit is formed next
key_top : (r : ℕ) → key r / 2 ^ 13 ≡ formed r
unfolding formed
key_top r =
    field (bit_xor r (r / 2)) 1 13 ∙ digit_xor 13 r (r / 2) ∙ ap (λ (y : ℕ). bit_xor (r / 2 ^ 13 % 2) (y % 2)) (shr-shr r 1 13)

-- the others after it
key-shifted : (r : ℕ) → key (shifted r) / 2 ≡ key r % 2 ^ 13
unfolding shifted
key-shifted r =
    let f = formed r in
    let x = r * 2 + f in
    let l : f < 2 = formed-lt r in
    let a : x % 2 ^ 15 % 2 ^ 14 ≡ x % 2 ^ 14 = omega arith in
    let b : x % 2 ^ 15 / 2 % 2 ^ 14 ≡ x / 2 % 2 ^ 14 = omega arith in
    let half : x / 2 ≡ r = omega arith in
    let unread : key (x % 2 ^ 15) ≡ key x
    = xor_mod (x % 2 ^ 15) (x % 2 ^ 15 / 2) 14 ∙ ap₂ bit_xor a b ∙ sym (xor_mod x (x / 2) 14) in
    let moved : bit_xor x (x / 2) / 2 ≡ bit_xor r (r / 2)
    = xor_shr x (x / 2) 1 ∙ ap (λ (y : ℕ). bit_xor y (y / 2)) half in
    let c : bit_xor x (x / 2) % 2 ^ 14 / 2 ≡ bit_xor x (x / 2) / 2 % 2 ^ 13 = omega arith in
    let d : bit_xor r (r / 2) % 2 ^ 13 ≡ bit_xor r (r / 2) % 2 ^ 14 % 2 ^ 13 = omega arith in
    ap (λ (y : ℕ). y / 2) unread ∙ c ∙ ap (λ (y : ℕ). y % 2 ^ 13) moved ∙ d

-- so its n highest digits are the next n bits
key_formed : (n k r : ℕ) → n + k ≡ 14 → digits n (key r / 2 ^ k) ≡ formed_from r n
unfolding digits scrambled_from
key_formed zero k r e = refl
key_formed (suc n) k r e =
    let s : 13 ≡ k + n = omega arith in
    let t : 13 ≡ n + k = omega arith in
    let first : key r / 2 ^ k / 2 ^ n % 2 ≡ bit_xor (formed r) 0
    = ap (λ (y : ℕ). y % 2) (shr-shr (key r) k n ∙ ap (λ (m : ℕ). key r / 2 ^ m) (sym s) ∙ key_top r) ∙ mod-eq_of_lt (formed-lt r) ∙ sym (xor_zero_r (formed r)) in
    let rest : digits n (key (shifted r) / 2 ^ (1 + k)) ≡ digits n (key r / 2 ^ k)
    = ap (digits n) (sym (shr-shr (key (shifted r)) 1 k) ∙ ap (λ (y : ℕ). y / 2 ^ k) (key-shifted r) ∙ ap (λ (m : ℕ). key r % 2 ^ m / 2 ^ k) t ∙ field (key r) n k)
    ∙ digits-mod-pow n n (key r / 2 ^ k) (le_refl n) in
    ap₂ ◌∷◌ first (sym rest ∙ key_formed n (1 + k) (shifted r) (omega arith))

pub fourteen_formed : (r : ℕ) → digits 14 (key r) ≡ formed_from r 14
fourteen_formed r = let e : key r / 2 ^ 0 ≡ key r = omega arith in ap (digits 14) (sym e) ∙ key_formed 14 0 r refl

-- ---- fewer of them, and more

length_formed : (r n : ℕ) → length (formed_from r n) ≡ n
length_formed r n = length_scrambled r (replicate n 0) ∙ length-replicate n 0

formed_append : (r m n : ℕ) → formed_from r (m + n) ≡ formed_from r m ++ formed_from (register_after m r) n
formed_append r m n =
    ap (scrambled_from r) (sym (replicate-append-replicate m n 0)) ∙ scrambled_append r (replicate m 0) (replicate n 0)
    ∙ ap (λ (k : ℕ). formed_from r m ++ formed_from (register_after k r) n) (length-replicate m 0)

-- of m + n formed bits, the first m
pub first_formed : (m n k r : ℕ) → digits (m + n) k ≡ formed_from r (m + n) → digits m (k / 2 ^ n) ≡ formed_from r m
first_formed m n k r e =
    sym (take_at (digits m (k / 2 ^ n)) (digits n k) m (length_digits m (k / 2 ^ n)))
    ∙ ap (take m) (sym (digits_append m n k) ∙ e ∙ formed_append r m n)
    ∙ take_at (formed_from r m) (formed_from (register_after m r) n) m (length_formed r m)

-- m formed bits, and n formed after them, as a machine word
pub more_formed : (m n a b r q : ℕ) → m + n ≤ 64 → b < 2 ^ n → digits m a ≡ formed_from r m → q ≡ register_after m r → digits n b ≡ formed_from q n
    → digits (m + n) (bit_or (a * 2 ^ n % 2 ^ 64) b) ≡ formed_from r (m + n)
more_formed m n a b r q h l ea eq eb =
    digits-or m n a b h l ∙ ap₂ ◌++◌ ea (eb ∙ ap (λ (p : ℕ). formed_from p n) eq) ∙ sym (formed_append r m n)

-- ---- bits scrambled by bits formed

scrambled_sum : (r : ℕ) (bs : List ℕ) → scrambled_from r bs ≡ zip_with bit_xor bs (formed_from r (length bs))
unfolding scrambled_from zip_with
scrambled_sum r [] = refl
scrambled_sum r (b ∷ bs) =
    ap₂ ◌∷◌ (xor_comm (formed r) b ∙ ap (bit_xor b) (sym (xor_zero_r (formed r)))) (scrambled_sum (shifted r) bs)

-- added one by one, and all at once where they are digits too
pub scrambled_each : (n : ℕ) (bs : List ℕ) (k r : ℕ) → length bs ≡ n → digits n k ≡ formed_from r n → zip_with bit_xor bs (digits n k) ≡ scrambled_from r bs
scrambled_each n bs k r long e = ap (zip_with bit_xor bs) (e ∙ ap (formed_from r) (sym long)) ∙ sym (scrambled_sum r bs)

pub scrambled_by : (n x k r : ℕ) → digits n k ≡ formed_from r n → digits n (bit_xor x k) ≡ scrambled_from r (digits n x)
scrambled_by n x k r e = digits-xor n x k ∙ scrambled_each n (digits n x) k r (length_digits n x) e

-- ---- the register

-- after some bits and then more
pub register_behind : (m n r q p : ℕ) → q ≡ register_after m r → p ≡ register_after n q → p ≡ register_after (m + n) r
register_behind m n r q p eq ep = ep ∙ ap (register_after n) eq ∙ sym (register_more m n r)

register_suc : (n r : ℕ) → register_after (suc n) r ≡ shifted (register_after n r)
unfolding register_after
register_suc n r = ap (λ (m : ℕ). register_after m r) (sym (add-one n)) ∙ register_more n 1 r

register_lt : (n r : ℕ) → register_after (suc n) r < 2 ^ 15
unfolding shifted
register_lt n r = rw (register_suc n r) (mod-lt (register_after n r * 2 + formed (register_after n r)) (pow_pos 15))

-- one digit falls out, and the bit formed comes in
shifted-digits : (r : ℕ) → digits 15 (shifted r) ≡ drop 1 (digits 15 r) ++ (formed r ∷ [])
unfolding shifted digits
shifted-digits r =
    let f = formed r in
    let l : f < 2 = formed-lt r in
    let half : (r * 2 + f) / 2 ≡ r = omega arith in
    let odd : (r * 2 + f) % 2 ≡ f = omega arith in
    digits-mod-pow 15 15 (r * 2 + f) (le_refl 15) ∙ digits_last 14 (r * 2 + f) ∙ ap₂ (λ (y b : ℕ). digits 14 y ++ (b ∷ [])) half odd

-- n fall out, and the n formed come in
register_digits : (n r : ℕ) → n ≤ 15 → digits 15 (register_after n r) ≡ drop n (digits 15 r) ++ formed_from r n
unfolding register_after scrambled_from
register_digits zero r h = sym (append-nil (digits 15 r))
register_digits (suc n) r h =
    let f = formed r in
    let ds = digits 15 r in
    let rest = formed_from (shifted r) n in
    let s : 1 + n ≡ suc n = omega arith in
    let fallen : drop n (drop 1 ds ++ (f ∷ [])) ≡ drop (suc n) ds ++ (f ∷ [])
    = drop-append-le n (drop 1 ds) (f ∷ []) (simp (length-drop, length_digits) (omega arith))
    ∙ ap (λ (v : List ℕ). v ++ (f ∷ [])) (drop-drop n 1 ds ∙ ap (λ (m : ℕ). drop m ds) s) in
    register_digits n (shifted r) (omega arith)
    ∙ ap (λ (v : List ℕ). v ++ rest) (ap (drop n) (shifted-digits r) ∙ fallen)
    ∙ append_assoc (drop (suc n) ds) (f ∷ []) rest
    ∙ ap (λ (b : ℕ). drop (suc n) ds ++ b ∷ rest) (sym (xor_zero_r f))

-- the digits of a number of them behind the m lowest of the register
pub shifted_in : (m n k r : ℕ) → m + suc n ≡ 15 → k < 2 ^ suc n → digits (suc n) k ≡ formed_from r (suc n) → r % 2 ^ m * 2 ^ suc n + k ≡ register_after (suc n) r
shifted_in m n k r e l ek =
    let c = suc n in
    let a = r % 2 ^ m in
    let x = a * 2 ^ c + k in
    let s : 15 ≡ c + m = omega arith in
    let room : suc a * 2 ^ c ≤ 2 ^ m * 2 ^ c = mul-le-mul_right (2 ^ c) (mod-lt r (pow_pos m)) in
    let all : 2 ^ m * 2 ^ c ≡ 2 ^ 15 = sym (pow-add 2 m c) ∙ ap (λ (q : ℕ). 2 ^ q) e in
    let few : x < 2 ^ 15 = omega (arith, suc-mul a (2 ^ c)) in
    let high_end : digits m (x / 2 ^ c) ≡ digits m r = ap (digits m) (high a c l) ∙ digits-mod-pow m m r (le_refl m) in
    let low_end : digits c x ≡ digits c k = sym (digits-mod-pow c c x (le_refl c)) ∙ ap (digits c) (low a c l) in
    let kept : drop c (digits 15 r) ≡ digits m r
    = ap (λ (q : ℕ). drop c (digits q r)) s ∙ ap (drop c) (digits_append c m r) ∙ drop_at (digits c (r / 2 ^ m)) (digits m r) c (length_digits c (r / 2 ^ m)) in
    digits_inj 15 x (register_after c r) few (register_lt n r)
    (ap (λ (q : ℕ). digits q x) (sym e) ∙ digits_append m c x ∙ ap₂ ◌++◌ (high_end ∙ sym kept) (low_end ∙ ek) ∙ sym (register_digits c r (omega arith)))
