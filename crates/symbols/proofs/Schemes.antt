-- Schemes: their entries and sums, and a scheme repeated in every OFDM symbol.
-- Assumes nothing.
use mathlib.Core.Path.{◌≡◌, refl, sym, ap, ap₂, ◌∙◌}
use mathlib.Core.Bool.{Bool, true, false, ◌||◌, true≢false}
use mathlib.Core.List.{List, [], ◌∷◌, ◌++◌, append-nil, append_assoc}
use Prim.Native.Nat.{ℕ, zero, suc, ◌+◌, ◌-◌, ◌*◌, ◌%◌, ◌≤◌, ◌<◌}
use native.Mathlib.Nat.{le_antisymm, mul-zero, mul-suc, mod-eq_of_lt, mod-eq-sub-mod}
use native.Mathlib.Decide.{dec_le}
use native.Mathlib.Omega.{arith}
use borrow.Author.Tests.{ltb-false}
use lib.Dec.{ltb}
use lib.ListN.{length, get_or, take, drop, length-append, take-append-drop, get_or-append}
use lib.Seq.{take_all, take-suc, get_or-append-add}
use Rattle.ground.proofs.Firsts.{first}
use Rattle.symbols.specs.Schemes.{sum_of, repeated, bad_entry, Scheme}

-- ---- the first bad entry

pub bad_most : (ns : List ℕ) → bad_entry ns ≤ length ns
bad_most ns = (first _ 0 ns).most

neither : (a b : Bool) → (a || b) ≡ false → (a ≡ false) × (b ≡ false)
neither true b e = absurd (true≢false e)
neither false b e = (refl, e)

good_before : (ns : List ℕ) (i : ℕ) → i < bad_entry ns → (2 ≤ get_or ns i 0) × (get_or ns i 0 ≤ 10)
good_before ns i l =
    let e = neither (ltb (get_or ns i 0) 2) (ltb 10 (get_or ns i 0)) ((first _ 0 ns).before i l) in
    (ltb-false _ 2 e.0, ltb-false 10 _ e.1)

-- every entry is from 2 to 10
abbrev pub Entries : List ℕ → Type 0
Entries ns = (k : ℕ) → k < length ns → (2 ≤ get_or ns k 0) × (get_or ns k 0 ≤ 10)

pub behind : (n : ℕ) (ns : List ℕ) → Entries (n ∷ ns) → Entries ns
behind n ns each k h = each (suc k) (omega arith)

-- n is k, or larger
or_larger : {A : Type 0} (k n : ℕ) → k ≤ n → (n ≡ k → A) → (k + 1 ≤ n → A) → A
or_larger {A} k n h here larger = by (dec_le (k + 1) n)
  where
    by : Dec (k + 1 ≤ n) → A
    by (yes l) = larger l
    by (no l) = here (omega arith)

-- what follows from each number from 2 to 10 follows from an entry
pub entry_cases : {A : Type 0} (n : ℕ) → (2 ≤ n) × (n ≤ 10)
    → (n ≡ 2 → A) → (n ≡ 3 → A) → (n ≡ 4 → A) → (n ≡ 5 → A) → (n ≡ 6 → A) → (n ≡ 7 → A) → (n ≡ 8 → A) → (n ≡ 9 → A) → (n ≡ 10 → A) → A
entry_cases n h two three four five six seven eight nine ten =
    or_larger 2 n h.0 two (λ l. or_larger 3 n l three (λ l. or_larger 4 n l four (λ l. or_larger 5 n l five (λ l. or_larger 6 n l six
    (λ l. or_larger 7 n l seven (λ l. or_larger 8 n l eight (λ l. or_larger 9 n l nine (λ l. ten (le_antisymm h.1 l)))))))))

-- ---- sums

pub sum_nil : sum_of [] ≡ 0
unfolding sum_of
sum_nil = refl

sum_cons : (n : ℕ) (ns : List ℕ) → sum_of (n ∷ ns) ≡ n + sum_of ns
unfolding sum_of
sum_cons n ns = refl

sum_append : (a b : List ℕ) → sum_of (a ++ b) ≡ sum_of a + sum_of b
unfolding sum_of
sum_append [] b = omega arith
sum_append (n ∷ a) b = omega (arith, sum_append a b)

sum_split : (k : ℕ) (scheme : List ℕ) → sum_of (take k scheme) + sum_of (drop k scheme) ≡ sum_of scheme
sum_split k scheme = sym (sum_append (take k scheme) (drop k scheme)) ∙ ap sum_of (take-append-drop k scheme)

pub sum_take-le : (k : ℕ) (scheme : List ℕ) → sum_of (take k scheme) ≤ sum_of scheme
sum_take-le k scheme = omega (arith, sum_split k scheme)

-- one entry more
pub sum_snoc : (scheme : List ℕ) (s : ℕ) → s < length scheme → sum_of (take (suc s) scheme) ≡ sum_of (take s scheme) + get_or scheme s 0
unfolding sum_of
sum_snoc scheme s h = rw (take-suc scheme s 0 h, sum_append (take s scheme) (get_or scheme s 0 ∷ [])) (omega arith)

-- the bits of the entry s end within those of the scheme
pub entry_end : (scheme : List ℕ) (s : ℕ) → s < length scheme → sum_of (take s scheme) + get_or scheme s 0 ≤ sum_of scheme
entry_end scheme s h = omega (arith, sum_snoc scheme s h, sum_take-le (suc s) scheme)

sum_within : (ns : List ℕ) → Entries ns → (2 * length ns ≤ sum_of ns) × (sum_of ns ≤ 10 * length ns)
sum_within [] each = (omega (arith, sum_nil), omega (arith, sum_nil))
sum_within (n ∷ ns) each =
    let first = each 0 (omega arith) in
    let rest = sum_within ns (behind n ns each) in
    (omega (arith, sum_cons n ns, first, rest), omega (arith, sum_cons n ns, first, rest))

module _ {scheme : List ℕ} (s : Scheme scheme) where
  pub entry_in : (i : ℕ) → i < 210 → (2 ≤ get_or scheme i 0) × (get_or scheme i 0 ≤ 10)
  entry_in i l = good_before scheme i (omega (arith, s.entries))

  within : (2 * length scheme ≤ sum_of scheme) × (sum_of scheme ≤ 10 * length scheme)
  within = sum_within scheme (λ k h. entry_in k (omega (arith, s.long)))

  -- the entries are all of 210
  pub sum_whole : sum_of (take 210 scheme) ≡ sum_of scheme
  sum_whole = ap sum_of (take_all 210 scheme (omega (arith, s.long)))

  pub sum_least : 420 ≤ sum_of scheme
  sum_least = omega (arith, s.long, within.0)

  pub sum_most : sum_of scheme ≤ 2100
  sum_most = omega (arith, s.long, within.1)

-- ---- the scheme in every OFDM symbol

module _ (scheme : List ℕ) where
  repeated-zero : repeated 0 scheme ≡ []
  unfolding repeated
  repeated-zero = refl

  repeated-suc : (m : ℕ) → repeated (suc m) scheme ≡ scheme ++ repeated m scheme
  unfolding repeated
  repeated-suc m = refl

  -- one OFDM symbol more, at the end
  pub repeated_more : (m : ℕ) → repeated (suc m) scheme ≡ repeated m scheme ++ scheme
  unfolding repeated
  repeated_more zero = append-nil scheme
  repeated_more (suc m) = ap (λ (ns : List ℕ). scheme ++ ns) (repeated_more m) ∙ sym (append_assoc scheme (repeated m scheme) scheme)

  pub sum_repeated : (m : ℕ) → sum_of (repeated m scheme) ≡ sum_of scheme * m
  sum_repeated zero = ap sum_of repeated-zero ∙ sum_nil ∙ sym (mul-zero (sum_of scheme))
  sum_repeated (suc m) =
      ap sum_of (repeated-suc m) ∙ sum_append scheme (repeated m scheme) ∙ omega (arith, sum_repeated m, mul-suc (sum_of scheme) m)

  pub length-repeated : (m : ℕ) → length (repeated m scheme) ≡ length scheme * m
  length-repeated zero = ap length repeated-zero ∙ sym (mul-zero (length scheme))
  length-repeated (suc m) =
      ap length (repeated-suc m) ∙ length-append scheme (repeated m scheme) ∙ omega (arith, length-repeated m, mul-suc (length scheme) m)

  pub repeated_long : length scheme ≡ 210 → (m : ℕ) → length (repeated m scheme) ≡ 210 * m
  repeated_long long m = length-repeated m ∙ ap (λ (n : ℕ). n * m) long

  -- in the first OFDM symbol, and behind it
  entry_first : (m k : ℕ) → k < length scheme → get_or (repeated (suc m) scheme) k 0 ≡ get_or scheme (k % length scheme) 0
  entry_first m k l = rw (repeated-suc m, mod-eq_of_lt l) (get_or-append scheme (repeated m scheme) 0 k l)

  entry_later : (m k : ℕ) → length scheme ≤ k → get_or (repeated (suc m) scheme) k 0 ≡ get_or (repeated m scheme) (k - length scheme) 0
  entry_later m k l =
      let e : length scheme + (k - length scheme) ≡ k = omega arith in
      ap₂ (λ (xs : List ℕ) (i : ℕ). get_or xs i 0) (repeated-suc m) (sym e) ∙ get_or-append-add scheme (repeated m scheme) (k - length scheme) 0

  pub get_or-repeated : (m k : ℕ) → k < length scheme * m → get_or (repeated m scheme) k 0 ≡ get_or scheme (k % length scheme) 0
  get_or-repeated zero k l = omega (arith, l, mul-zero (length scheme))
  get_or-repeated (suc m) k l = by (dec_le (length scheme) k) (get_or-repeated m (k - length scheme))
    where
      by : Dec (length scheme ≤ k)
          → (k - length scheme < length scheme * m → get_or (repeated m scheme) (k - length scheme) 0 ≡ get_or scheme ((k - length scheme) % length scheme) 0)
          → get_or (repeated (suc m) scheme) k 0 ≡ get_or scheme (k % length scheme) 0
      by (yes h) rest =
          entry_later m k h
          ∙ rest (omega (arith, l, mul-suc (length scheme) m))
          ∙ ap (λ (i : ℕ). get_or scheme i 0) (sym (mod-eq-sub-mod h))
      by (no h) rest = entry_first m k (omega arith)
