-- A list made by index, read by index; and numbers in eight bytes each, there and back.
-- Assumes nothing.
use mathlib.Core.Path.{◌≡◌, refl, sym, ap, ◌∙◌}
use mathlib.Core.List.{List, [], ◌∷◌, ◌++◌, append_assoc}
use Prim.Native.Nat.{ℕ, zero, suc, ◌+◌, ◌*◌, ◌^◌, ◌≤◌, ◌<◌}
use native.Mathlib.Decide.{dec_lt}
use native.Mathlib.Numerals.{add-one}
use native.Mathlib.Omega.{arith}
use mir.Syntax.{w64}
use Rattle.std.specs.Int.{to_le_bytes, from_le_bytes}
use Rattle.std.proofs.lemmas.List.{get_or-take, get_or_past}
use Rattle.std.proofs.lemmas.Nat.{le_bytes_8, from_le_bytes-to_le_bytes_8}
use borrow.Rule.Slice.PartMut.{put_mid}
use lib.ListN.{drop_of_length-le, length, replicate, get_or, take, drop, length-append, length-drop, get_or-append}
use lib.Seq.{length-take-le, take_at, drop_at, drop-drop, take-suc, take-add, get_or-drop, get_or-append-add, get_or-append_seam}
use Rattle.bridge.specs.Streams.{each, octets, spread, number_at}

-- ---- by index

pub each_none : (f : ℕ → ℕ) → each 0 f ≡ []
unfolding each
each_none f = refl

pub each-suc : (n : ℕ) (f : ℕ → ℕ) → each (suc n) f ≡ each n f ++ (f n ∷ [])
unfolding each
each-suc n f = refl

pub length-each : (n : ℕ) (f : ℕ → ℕ) → length (each n f) ≡ n
length-each zero f = rw (each_none f) refl
length-each (suc n) f = rw (each-suc n f, length-append (each n f) (f n ∷ []), length-each n f) (omega arith)

-- the elements of a list
pub each_of : (xs : List ℕ) (n : ℕ) → n ≤ length xs → each n (λ k. get_or xs k 0) ≡ take n xs
each_of xs zero l = each_none (λ k. get_or xs k 0)
each_of xs (suc n) l = rw (each-suc n (λ k. get_or xs k 0), take-suc xs n 0 (omega arith), each_of xs n (omega arith)) refl

pub each_same : (n : ℕ) (f g : ℕ → ℕ) → ((k : ℕ) → k < n → f k ≡ g k) → each n f ≡ each n g
each_same zero f g same = each_none f ∙ sym (each_none g)
each_same (suc n) f g same =
    rw (each-suc n f, each-suc n g, each_same n f g (λ k l. same k (omega arith)), same n (omega arith)) refl

each_next : (n : ℕ) (f : ℕ → ℕ) (k : ℕ) → k < suc n → (k < n → get_or (each n f) k 0 ≡ f k) → get_or (each (suc n) f) k 0 ≡ f k
each_next n f k l before = rw (each-suc n f) (by (dec_lt k n))
  where
    by : Dec (k < n) → get_or (each n f ++ (f n ∷ [])) k 0 ≡ f k
    by (yes m) = get_or-append (each n f) (f n ∷ []) 0 k (omega (arith, length-each n f)) ∙ before m
    by (no m) =
        let e : k ≡ length (each n f) = omega (arith, length-each n f) in
        let same : n ≡ k = omega arith in
        ap (λ (i : ℕ). get_or (each n f ++ (f n ∷ [])) i 0) e ∙ get_or-append_seam (each n f) (f n) [] 0 ∙ ap f same

pub each_at : (n : ℕ) (f : ℕ → ℕ) (k : ℕ) → k < n → get_or (each n f) k 0 ≡ f k
each_at zero f k l = absurd (omega arith)
each_at (suc n) f k l = each_next n f k l (each_at n f k)

pub first_eight : (xs : List ℕ) → 8 ≤ length xs
    → take 8 xs ≡ get_or xs 0 0 ∷ get_or xs 1 0 ∷ get_or xs 2 0 ∷ get_or xs 3 0 ∷ get_or xs 4 0 ∷ get_or xs 5 0 ∷ get_or xs 6 0 ∷ get_or xs 7 0 ∷ []
unfolding each
first_eight xs l = sym (each_of xs 8 l)

-- ---- a number in eight bytes, as std has it

pub number_le : (bytes : List ℕ) (at : ℕ) → at + 8 ≤ length bytes → number_at bytes at ≡ from_le_bytes w64 (take 8 (drop at bytes))
number_le bytes at l =
    let one : (i j : ℕ) → i < 8 → j ≡ at + i → get_or bytes j 0 ≡ get_or (take 8 (drop at bytes)) i 0 =
    λ i j s e. ap (λ (k : ℕ). get_or bytes k 0) e ∙ sym (get_or-drop at bytes i 0) ∙ sym (get_or-take 8 (drop at bytes) i 0 s) in
    rw (
      one 0 at (omega arith) (omega arith),
      one 1 (at + 1) (omega arith) refl,
      one 2 (at + 2) (omega arith) refl,
      one 3 (at + 3) (omega arith) refl,
      one 4 (at + 4) (omega arith) refl,
      one 5 (at + 4 + 1) (omega arith) (omega arith),
      one 6 (at + 4 + 2) (omega arith) (omega arith),
      one 7 (at + 4 + 3) (omega arith) (omega arith),
    ) (omega arith)

-- the eight bytes at a place, as a number, and its bytes again
module _ (bytes word : List ℕ) (at k n : ℕ) (inside : at + 8 ≤ length bytes) (eight : k ≡ 8) (is : word ≡ take k (drop at bytes)) (read : n ≡ from_le_bytes w64 word) where
  word_is : word ≡ take 8 (drop at bytes)
  word_is = rw is (rw eight refl)

  pub number_read : n ≡ number_at bytes at
  number_read = read ∙ ap (from_le_bytes w64) word_is ∙ sym (number_le bytes at inside)

  pub octets_read : ((i : ℕ) → get_or bytes i 0 < 256) → octets n ≡ take 8 (drop at bytes)
  octets_read small =
      le_bytes_8 (take 8 (drop at bytes)) n (length-take-le 8 (drop at bytes) (omega (arith, length-drop at bytes))) (λ i. by i (dec_lt i 8))
      (read ∙ ap (from_le_bytes w64) word_is)
    where
      by : (i : ℕ) → Dec (i < 8) → get_or (take 8 (drop at bytes)) i 0 < 256
      by i (yes m) = rw (get_or-take 8 (drop at bytes) i 0 m, get_or-drop at bytes i 0) (small (at + i))
      by i (no m) =
          rw (get_or_past (take 8 (drop at bytes)) i 0 (omega (arith, length-take-le 8 (drop at bytes) (omega (arith, length-drop at bytes))))) (omega arith)

number_back : (w : ℕ) → w < 2 ^ 64 → number_at (octets w) 0 ≡ w
number_back w l = number_le (octets w) 0 (omega arith) ∙ from_le_bytes-to_le_bytes_8 w l

number_behind : (xs ys : List ℕ) (w at : ℕ) → length xs ≡ at → w < 2 ^ 64 → number_at (xs ++ (octets w ++ ys)) at ≡ w
number_behind xs ys w at e l =
    let one : (i j : ℕ) → j ≡ length xs + i → get_or (xs ++ (octets w ++ ys)) j 0 ≡ get_or (octets w ++ ys) i 0 =
    λ i j p. ap (λ (k : ℕ). get_or (xs ++ (octets w ++ ys)) k 0) p ∙ get_or-append-add xs (octets w ++ ys) i 0 in
    rw (
      one 0 at (omega arith),
      one 1 (at + 1) (omega arith),
      one 2 (at + 2) (omega arith),
      one 3 (at + 3) (omega arith),
      one 4 (at + 4) (omega arith),
      one 5 (at + 4 + 1) (omega arith),
      one 6 (at + 4 + 2) (omega arith),
      one 7 (at + 4 + 3) (omega arith),
    ) (number_back w l)

-- ---- many of them

pub spread_none : (f : ℕ → ℕ) → spread 0 f ≡ []
unfolding spread
spread_none f = refl

pub spread-suc : (n : ℕ) (f : ℕ → ℕ) → spread (suc n) f ≡ spread n f ++ octets (f n)
unfolding spread
spread-suc n f = refl

pub length-spread : (n : ℕ) (f : ℕ → ℕ) → length (spread n f) ≡ 8 * n
length-spread zero f = rw (spread_none f) refl
length-spread (suc n) f = rw (spread-suc n f, length-append (spread n f) (octets (f n)), length-spread n f) (omega arith)

pub spread_same : (n : ℕ) (f g : ℕ → ℕ) → ((k : ℕ) → k < n → f k ≡ g k) → spread n f ≡ spread n g
spread_same zero f g same = spread_none f ∙ sym (spread_none g)
spread_same (suc n) f g same =
    rw (spread-suc n f, spread-suc n g, spread_same n f g (λ k l. same k (omega arith)), same n (omega arith)) refl

-- one number more, and the bytes that it was read from
pub spread_next_of : (bytes : List ℕ) (n : ℕ) (f : ℕ → ℕ) → spread n f ≡ take (8 * n) bytes → octets (f n) ≡ take 8 (drop (8 * n) bytes)
    → spread (suc n) f ≡ take (8 * suc n) bytes
spread_next_of bytes n f before next =
    let e : 8 * suc n ≡ 8 * n + 8 = omega arith in
    rw (spread-suc n f, before, next, e, take-add (8 * n) 8 bytes) refl

-- the number that was written there
spread_next : (n : ℕ) (f : ℕ → ℕ) (ys : List ℕ) (k : ℕ) → k < suc n → f n < 2 ^ 64
    → (k < n → number_at (spread n f ++ (octets (f n) ++ ys)) (8 * k) ≡ f k) → number_at (spread (suc n) f ++ ys) (8 * k) ≡ f k
spread_next n f ys k l small before = ap (λ (xs : List ℕ). number_at xs (8 * k)) whole ∙ by (dec_lt k n)
  where
    whole : spread (suc n) f ++ ys ≡ spread n f ++ (octets (f n) ++ ys)
    whole = ap (λ (xs : List ℕ). xs ++ ys) (spread-suc n f) ∙ append_assoc (spread n f) (octets (f n)) ys

    by : Dec (k < n) → number_at (spread n f ++ (octets (f n) ++ ys)) (8 * k) ≡ f k
    by (yes m) = before m
    by (no m) =
        let same : n ≡ k = omega arith in
        number_behind (spread n f) ys (f n) (8 * k) (omega (arith, length-spread n f)) small ∙ ap f same

pub spread_at : (n : ℕ) (f : ℕ → ℕ) (ys : List ℕ) (k : ℕ) → k < n → ((j : ℕ) → f j < 2 ^ 64) → number_at (spread n f ++ ys) (8 * k) ≡ f k
spread_at zero f ys k l small = absurd (omega arith)
spread_at (suc n) f ys k l small = spread_next n f ys k l (small n) (λ m. spread_at n f (octets (f n) ++ ys) k m small)

-- one more of them, written over a list
module _ (f : ℕ → ℕ) (before : List ℕ) (k : ℕ) where
  abbrev spread_over : ℕ → List ℕ
  spread_over n = spread n f ++ drop (8 * n) before

  pub spread_more : (now : List ℕ) (m : ℕ) (ys : List ℕ) → now ≡ spread_over k → m ≡ 8 → ys ≡ to_le_bytes w64 (f k) → put_mid (8 * k) m now ys ≡ spread_over (k + 1)
  spread_more now m ys is eight written =
      let front : take (8 * k) (spread_over k) ≡ spread k f = take_at (spread k f) (drop (8 * k) before) (8 * k) (length-spread k f) in
      let end : 8 * k + 8 ≡ 8 * suc k = omega arith in
      let back : drop 8 (drop (8 * k) (spread_over k)) ≡ drop (8 * suc k) before =
      ap (drop 8) (drop_at (spread k f) (drop (8 * k) before) (8 * k) (length-spread k f)) ∙ drop-drop 8 (8 * k) before
      ∙ ap (λ (n : ℕ). drop n before) end in
      rw (is, eight, written, front, back, add-one, spread-suc k f) (sym (append_assoc (spread k f) (octets (f k)) (drop (8 * suc k) before)))

-- ---- numbers, a scheme behind them, and six zeros

module _ (f : ℕ → ℕ) (before scheme : List ℕ) (long : length before ≡ 352) (entries : length scheme ≡ 210) where
  put_scheme : (now ys : List ℕ) → now ≡ spread 17 f ++ drop 136 before → ys ≡ scheme → put_mid 136 210 now ys ≡ (spread 17 f ++ scheme) ++ drop 346 before
  put_scheme now ys is written =
      let front = take_at (spread 17 f) (drop 136 before) 136 (length-spread 17 f) in
      let back = drop_at (spread 17 f) (drop 136 before) 136 (length-spread 17 f) in
      rw (is, written, front, back, drop-drop 210 136 before) (sym (append_assoc (spread 17 f) scheme (drop 346 before)))

  pub hold_is : (now ys zs : List ℕ) → now ≡ spread 17 f ++ drop 136 before → ys ≡ scheme
      → zs ≡ replicate (length (take 6 (drop 346 (put_mid 136 210 now ys)))) 0 → put_mid 346 6 (put_mid 136 210 now ys) zs ≡ spread 17 f ++ (scheme ++ replicate 6 0)
  hold_is now ys zs is written zeros =
      let whole = put_scheme now ys is written in
      let front_long : length (spread 17 f ++ scheme) ≡ 346 = length-append (spread 17 f) scheme ∙ rw (length-spread 17 f, entries) refl in
      let front = ap (take 346) whole ∙ take_at (spread 17 f ++ scheme) (drop 346 before) 346 front_long in
      let behind = ap (drop 346) whole ∙ drop_at (spread 17 f ++ scheme) (drop 346 before) 346 front_long in
      let back : drop 6 (drop 346 (put_mid 136 210 now ys)) ≡ [] =
      ap (drop 6) behind ∙ drop-drop 6 346 before ∙ drop_of_length-le before {i = 352} (omega (arith, long)) in
      let six : length (take 6 (drop 346 (put_mid 136 210 now ys))) ≡ 6 =
      ap (λ (xs : List ℕ). length (take 6 xs)) behind ∙ length-take-le 6 (drop 346 before) (omega (arith, long, length-drop 346 before)) in
      rw (front, back, zeros, six) (append_assoc (spread 17 f) scheme (replicate 6 0))
