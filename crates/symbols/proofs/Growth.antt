-- Machine words that hold bits and then zeros, and to which digits are put, point by point; the one that is not yet full stands aside.
-- Assumes nothing.
use mathlib.Core.Path.{◌≡◌, sym, ap, ap₂, ◌∙◌}
use mathlib.Core.List.{List, ◌++◌, append_assoc}
use Prim.Native.Nat.{ℕ, suc, ◌+◌, ◌-◌, ◌*◌, ◌/◌, ◌%◌, ◌^◌, ◌≤◌, ◌<◌}
use native.Mathlib.Decide.{dec_le}
use native.Mathlib.Omega.{arith}
use lib.Bits.{bit_or}
use lib.ListN.{length, get_or, take, drop, set, replicate, length-append, length-set, length-drop, length-replicate, take-append-drop}
use lib.Seq.{take_at, drop_at, take-append-le, drop-append-le, take-append-add, drop-append-add, length-take-le}
use Rattle.bits.specs.Words.{digits}
use Rattle.bits.proofs.Digits.{length_digits}
use Rattle.packed.specs.Packed.{bits_from, padded_to}
use Rattle.packed.proofs.Walks.{from_set_behind, from_set_before, length_from}
use Rattle.packed.proofs.Amid.{zeros, zeros_split, zeros_first, zeros_last, amid, amid_set, one_more_set, fewer_zeros}
use Rattle.symbols.proofs.Joins.{digits_put}

-- ---- 41 machine words

-- they hold bits up to the place `at`, and then zeros, if top is put where that place is
pub record Grown (bits : List ℕ) (at top : ℕ) (words : List ℕ) : Type 0 where
  pub wide : length words ≡ 41
  pub held : bits_from (at / 64) 0 words ++ take (at % 64) (digits 64 top) ≡ bits
  pub blank : drop (at % 64) (digits 64 top) ≡ replicate (64 - at % 64) 0
  pub behind : bits_from (40 - at / 64) (suc (at / 64)) words ≡ replicate (64 * (40 - at / 64)) 0

-- so many
grown_long : {bits words : List ℕ} {at top : ℕ} → Grown bits at top words → length bits ≡ at
grown_long {bits} {words} {at} {top} g =
    sym (ap length g.held) ∙ length-append (bits_from (at / 64) 0 words) (take (at % 64) (digits 64 top))
    ∙ ap₂ ◌+◌ (length_from (at / 64) 0 words) (length-take-le (at % 64) (digits 64 top) (omega (arith, length_digits 64 top))) ∙ omega arith

-- at first
pub grown_first : (words : List ℕ) (count : ℕ) → length words ≡ 41 → count ≤ 512
    → bits_from 41 0 words ≡ padded_to 2624 (take count (bits_from 41 0 words))
    → Grown (take count (bits_from 41 0 words)) count (get_or words (count / 64) 0) words
grown_first words count wide few padded = record { wide = wide; held = held; blank = blank; behind = behind }
  where
    a : ℕ
    a = count / 64

    f : ℕ
    f = count % 64

    front : List ℕ
    front = bits_from a 0 words

    here : List ℕ
    here = digits 64 (get_or words a 0)

    rest : List ℕ
    rest = bits_from (40 - a) (suc a) words

    all : List ℕ
    all = bits_from 41 0 words

    parts : all ≡ front ++ (here ++ rest)
    parts = amid 41 a words (omega arith) ∙ ap (λ (n : ℕ). front ++ (here ++ bits_from n (suc a) words)) (omega arith)

    place : count ≡ length front + f
    place = omega (arith, length_from a 0 words)

    held : front ++ take f here ≡ take count all
    held =
        sym (ap₂ take place parts ∙ take-append-add front (here ++ rest) f
        ∙ ap (λ (l : List ℕ). front ++ l) (take-append-le f here rest (omega (arith, length_digits 64 (get_or words a 0)))))

    long : length (take count all) ≡ count
    long = length-take-le count all (omega (arith, length_from 41 0 words))

    empty : drop f here ++ rest ≡ zeros (2624 - count)
    empty =
        sym (ap₂ drop place parts ∙ drop-append-add front (here ++ rest) f
        ∙ drop-append-le f here rest (omega (arith, length_digits 64 (get_or words a 0))))
        ∙ ap (drop count) padded ∙ drop_at (take count all) (zeros (2624 - length (take count all))) count long
        ∙ ap (λ (n : ℕ). zeros (2624 - n)) long

    short : length (drop f here) ≡ 64 - f
    short = length-drop f here ∙ ap (λ (n : ℕ). n - f) (length_digits 64 (get_or words a 0))

    sum : 64 - f + 64 * (40 - a) ≡ 2624 - count
    sum = omega arith

    blank : drop f here ≡ zeros (64 - f)
    blank = zeros_first (drop f here) rest (64 - f) (64 * (40 - a)) (2624 - count) short sum empty

    behind : rest ≡ zeros (64 * (40 - a))
    behind = zeros_last (drop f here) rest (64 - f) (64 * (40 - a)) (2624 - count) short sum empty

-- at last
pub grown_last : {bits words : List ℕ} {at top : ℕ} → Grown bits at top words → at < 2624 → bits_from 41 0 (set words (at / 64) top) ≡ padded_to 2624 bits
grown_last {bits} {words} {at} {top} g low =
    let a = at / 64 in
    let f = at % 64 in
    let front = bits_from a 0 words in
    let here = digits 64 top in
    let e : 41 - suc a ≡ 40 - a = omega arith in
    let sum : 64 - f + 64 * (40 - a) ≡ 2624 - at = omega arith in
    amid_set 41 a top words g.wide (omega arith)
    ∙ ap (λ (n : ℕ). front ++ (here ++ bits_from n (suc a) words)) e
    ∙ ap₂ (λ (u v : List ℕ). front ++ (u ++ v)) (sym (take-append-drop f here) ∙ ap (λ (l : List ℕ). take f here ++ l) g.blank) g.behind
    ∙ ap (λ (l : List ℕ). front ++ l) (append_assoc (take f here) (zeros (64 - f)) (zeros (64 * (40 - a))))
    ∙ sym (append_assoc front (take f here) (zeros (64 - f) ++ zeros (64 * (40 - a))))
    ∙ ap₂ ◌++◌ g.held (sym (zeros_split (64 - f) (64 * (40 - a)) (2624 - at) sum) ∙ ap (λ (n : ℕ). zeros (2624 - n)) (sym (grown_long g)))

-- ---- n digits more, the highest of y

-- the digits of a machine word that holds bits and then zeros
module _ (bits : List ℕ) (x p : ℕ) (long : length bits ≡ p) (e : digits 64 x ≡ bits ++ zeros (64 - p)) where
  taken : take p (digits 64 x) ≡ bits
  taken = ap (take p) e ∙ take_at bits (zeros (64 - p)) p long

  dropped : drop p (digits 64 x) ≡ zeros (64 - p)
  dropped = ap (drop p) e ∙ drop_at bits (zeros (64 - p)) p long

module _ {bits words : List ℕ} {at top : ℕ} (g : Grown bits at top words)
    (y n : ℕ) (ds : List ℕ) (small : y < 2 ^ 64) (long : length ds ≡ n) (high : digits 64 y ≡ ds ++ replicate (64 - n) 0) (few : n < 64) (room : at + n < 2624) where
  abbrev a : ℕ
  a = at / 64

  abbrev f : ℕ
  f = at % 64

  abbrev front : List ℕ
  front = bits_from a 0 words

  abbrev here : List ℕ
  here = take f (digits 64 top)

  -- the machine word that is written
  abbrev w : ℕ
  w = bit_or top (y / 2 ^ f)

  abbrev after : List ℕ
  after = set words a w

  fills : length here ≡ f
  fills = length-take-le f (digits 64 top) (omega (arith, length_digits 64 top))

  written : digits 64 w ≡ here ++ take (64 - f) (ds ++ zeros (64 - n))
  written = digits_put top y f (omega arith) small g.blank ∙ ap (λ (l : List ℕ). here ++ take (64 - f) l) high

  -- they have room in it
  module _ (h : f + n < 64) where
    within : digits 64 w ≡ (here ++ ds) ++ zeros (64 - (f + n))
    within =
        let e : 64 - f ≡ length ds + (64 - (f + n)) = omega arith in
        let z : zeros (64 - n) ≡ zeros (64 - (f + n)) ++ zeros f = zeros_split (64 - (f + n)) f (64 - n) (omega arith) in
        written
        ∙ ap₂ (λ (k : ℕ) (l : List ℕ). here ++ take k (ds ++ l)) e z
        ∙ ap (λ (l : List ℕ). here ++ l) (take-append-add ds (zeros (64 - (f + n)) ++ zeros f) (64 - (f + n))
        ∙ ap (λ (l : List ℕ). ds ++ l) (take_at (zeros (64 - (f + n))) (zeros f) (64 - (f + n)) (length-replicate (64 - (f + n)) 0)))
        ∙ sym (append_assoc here ds (zeros (64 - (f + n))))

    all_long : length (here ++ ds) ≡ f + n
    all_long = length-append here ds ∙ ap₂ ◌+◌ fills long

    grown_within : Grown (bits ++ ds) (at + n) w after
    grown_within =
        let q : (at + n) / 64 ≡ a = omega arith in
        let p : (at + n) % 64 ≡ f + n = omega arith in
        record {
          wide = length-set words a w ∙ g.wide;
          held =
              ap₂ (λ (i j : ℕ). bits_from i 0 after ++ take j (digits 64 w)) q p
              ∙ ap₂ ◌++◌ (from_set_behind a 0 a w words (omega arith)) (taken (here ++ ds) w (f + n) all_long within)
              ∙ sym (append_assoc front here ds) ∙ ap (λ (l : List ℕ). l ++ ds) g.held;
          blank = ap (λ (j : ℕ). drop j (digits 64 w)) p ∙ dropped (here ++ ds) w (f + n) all_long within ∙ ap (λ (j : ℕ). zeros (64 - j)) (sym p);
          behind =
              ap (λ (i : ℕ). bits_from (40 - i) (suc i) after) q ∙ from_set_before (40 - a) (suc a) a w words (omega arith)
              ∙ g.behind ∙ ap (λ (i : ℕ). zeros (64 * (40 - i))) (sym q);
        }

  -- it is full, and the others go to the next, r
  module _ (h : 64 ≤ f + n) (r : ℕ) (er : digits 64 r ≡ drop (64 - f) (digits 64 y) ++ replicate (64 - f) 0) where
    full : digits 64 w ≡ here ++ take (64 - f) ds
    full = written ∙ ap (λ (l : List ℕ). here ++ l) (take-append-le (64 - f) ds (zeros (64 - n)) (omega arith))

    over : digits 64 r ≡ drop (64 - f) ds ++ zeros (64 - (f + n - 64))
    over =
        er
        ∙ ap (λ (l : List ℕ). l ++ zeros (64 - f)) (ap (drop (64 - f)) high ∙ drop-append-le (64 - f) ds (zeros (64 - n)) (omega arith))
        ∙ append_assoc (drop (64 - f) ds) (zeros (64 - n)) (zeros (64 - f))
        ∙ ap (λ (l : List ℕ). drop (64 - f) ds ++ l) (sym (zeros_split (64 - n) (64 - f) (64 - (f + n - 64)) (omega arith)))

    over_long : length (drop (64 - f) ds) ≡ f + n - 64
    over_long = length-drop (64 - f) ds ∙ omega arith

    grown_over : Grown (bits ++ ds) (at + n) r after
    grown_over =
        let q : (at + n) / 64 ≡ suc a = omega arith in
        let p : (at + n) % 64 ≡ f + n - 64 = omega arith in
        let s : 40 - a ≡ suc (40 - suc a) = omega arith in
        record {
          wide = length-set words a w ∙ g.wide;
          held =
              ap₂ (λ (i j : ℕ). bits_from i 0 after ++ take j (digits 64 r)) q p
              ∙ ap₂ ◌++◌ (one_more_set a w words (omega (arith, g.wide)) ∙ ap (λ (l : List ℕ). front ++ l) full ∙ sym (append_assoc front here (take (64 - f) ds)))
              (taken (drop (64 - f) ds) r (f + n - 64) over_long over)
              ∙ append_assoc (front ++ here) (take (64 - f) ds) (drop (64 - f) ds)
              ∙ ap₂ ◌++◌ g.held (take-append-drop (64 - f) ds);
          blank =
              ap (λ (j : ℕ). drop j (digits 64 r)) p ∙ dropped (drop (64 - f) ds) r (f + n - 64) over_long over ∙ ap (λ (j : ℕ). zeros (64 - j)) (sym p);
          behind =
              ap (λ (i : ℕ). bits_from (40 - i) (suc i) after) q ∙ from_set_before (40 - suc a) (suc (suc a)) a w words (omega arith)
              ∙ fewer_zeros (40 - suc a) (suc a) words (ap (λ (i : ℕ). bits_from i (suc a) words) (sym s) ∙ g.behind ∙ ap (λ (i : ℕ). zeros (64 * i)) s)
              ∙ ap (λ (i : ℕ). zeros (64 * (40 - i))) (sym q);
        }

  -- in either case, with the machine word r that the next bits go to
  pub grown_more : (r : ℕ) → (f + n < 64 → r ≡ w) → (64 ≤ f + n → digits 64 r ≡ drop (64 - f) (digits 64 y) ++ replicate (64 - f) 0)
      → Grown (bits ++ ds) (at + n) r after
  grown_more r in_it in_next = by (dec_le 64 (f + n))
    where
      by : Dec (64 ≤ f + n) → Grown (bits ++ ds) (at + n) r after
      by (yes h) = grown_over h r (in_next h)
      by (no h) = let l : f + n < 64 = omega arith in rw (in_it l) (grown_within l)
