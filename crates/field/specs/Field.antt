-- GF(512): the polynomials over GF(2) modulo x^9 + x^4 + 1, and its root a (document 01, "The three codes").
-- A number is the polynomial of its binary digits, so a is 2. Any number stands for its nine low digits.
-- Assumes nothing.
use Rattle.std.specs.Prelude.{ℕ, zero, suc, ◌*◌, ◌/◌, ◌%◌}
use Rattle.std.specs.Int.Bits.{bit_xor}

-- the degree, and what x^9 is: x^4 + 1
abbrev pub degree : ℕ
degree = 9

abbrev pub reduction : ℕ
reduction = 0b10001

-- the element that a number stands for
abbrev pub element : ℕ → ℕ
element x = x % 512

-- the sum of two polynomials: digit by digit, without carries
unfoldable pub sum : ℕ → ℕ → ℕ
sum x y = bit_xor (element x) (element y)

-- a times x: a shift, and x^9 reduced
unfoldable pub shifted : ℕ → ℕ
shifted x = bit_xor (x / 256 % 2 * reduction) (x * 2 % 512)

-- a^i
unfoldable pub power : ℕ → ℕ
power zero = 1
power (suc i) = shifted (power i)

-- the sum of a^j y over those of the k low digits j of x that are 1
unfoldable pub times : ℕ → ℕ → ℕ → ℕ
times zero x y = 0
times (suc k) x y = bit_xor (x % 2 * y) (times k (x / 2) (shifted y))

unfoldable pub product : ℕ → ℕ → ℕ
product x y = times degree (element x) (element y)

-- x^n
unfoldable pub raised : ℕ → ℕ → ℕ
raised x zero = 1
raised x (suc n) = product x (raised x n)

-- x^510: there are 511 elements besides 0, and the inverse of 0 is 0
unfoldable pub inverse : ℕ → ℕ
inverse x = raised x 510
