-- Bytes that hold a state hold that one: what one call leaves in a stream, the next one finds there. And which bytes do.
-- Assumes nothing.
use mathlib.Core.Path.{◌≡◌, refl, sym, ap, ap₂, ◌∙◌}
use mathlib.Core.List.{List, ◌∷◌, ◌++◌}
use mathlib.Core.Bool.{Bool, true, false}
use Prim.Native.Nat.{ℕ, ◌+◌, ◌*◌, ◌%◌, ◌^◌, ◌<◌}
use native.Mathlib.Nat.{mod-eq_of_lt}
use native.Mathlib.Omega.{arith}
use lib.ListN.{length, get_or, take, drop, replicate, length-append, length-drop, take-append-drop}
use lib.Seq.{length-take-le, take_all, take_at, drop_at, drop-drop, get_or-append-add}
use Rattle.symbols.specs.Grid.{symbol_points}
use Rattle.payload_b.specs.StreamB.{with_scheme, moving}
use Rattle.payload_b.specs.declared.stream.State.{State}
use Rattle.payload_b.specs.declared.stream.Moving.{Moving}
use Rattle.payload_b.specs.declared.stream.Course.{Course}
use Rattle.payload_b.specs.Courses.{course_of}
use Rattle.payload_b.proofs.Courses.{course_of_lem}
use Rattle.bridge.specs.Streams.{Same, spread, number_at, nine_of, numbers_of, Formed, numbers_in, moving_in, lent_of, state_of}
use Rattle.bridge.proofs.Holds.{length-each, each_of, each_same, first_eight, length-spread, spread_at}

-- two of the same parts
module _ {block1 block2 : List ℕ} {count1 count2 mode1 mode2 size1 size2 seen1 seen2 register1 register2 mended1 mended2 worst1 worst2 : ℕ}
    {course1 course2 : Course} where
  alike : block1 ≡ block2 → count1 ≡ count2 → mode1 ≡ mode2 → size1 ≡ size2 → seen1 ≡ seen2 → register1 ≡ register2 → mended1 ≡ mended2 → worst1 ≡ worst2
      → course1 ≡ course2
      → ◌≡◌ {A = Moving} (record {
        block = block1;
        count = count1;
        mode = mode1;
        size = size1;
        seen = seen1;
        register = register1;
        mended = mended1;
        worst = worst1;
        course = course1;
      }) (record {
        block = block2;
        count = count2;
        mode = mode2;
        size = size2;
        seen = seen2;
        register = register2;
        mended = mended2;
        worst = worst2;
        course = course2;
      })
  alike b c d e f g h i j = rw (b, c, d, e, f, g, h, i, j) refl

-- the parts that a call reads are those by the numbers
pub of_parts : (numbers block : List ℕ) (course : Course) → block ≡ take 8 numbers → course ≡ course_of (get_or numbers 14 0) (get_or numbers 13 0)
    → ◌≡◌ {A = Moving} (record {
      block = block;
      count = get_or numbers 8 0;
      mode = get_or numbers 16 0 % 256;
      size = get_or numbers 9 0;
      seen = get_or numbers 10 0;
      register = get_or numbers 15 0 % 65536;
      mended = get_or numbers 11 0;
      worst = get_or numbers 12 0;
      course = course;
    }) (moving_in numbers)
of_parts numbers block course b c = alike b refl refl refl refl refl refl refl c

-- ---- the numbers

pub numbers_made : (block rest : List ℕ) → length block ≡ 8
    → get_or block 0 0 ∷ get_or block 1 0 ∷ get_or block 2 0 ∷ get_or block 3 0 ∷ get_or block 4 0 ∷ get_or block 5 0 ∷ get_or block 6 0 ∷ get_or block 7 0 ∷ rest
    ≡ block ++ rest
numbers_made block rest long =
    ap (λ (xs : List ℕ). xs ++ rest) (sym (first_eight block (omega arith)) ∙ take_all 8 block (omega arith))

module _ (m : Moving) (block_long : length m.block ≡ 8) where
  nine_at : (k : ℕ) → get_or (numbers_of m) (8 + k) 0 ≡ get_or (nine_of m) k 0
  nine_at k = ap (λ (n : ℕ). get_or (numbers_of m) (n + k) 0) (sym block_long) ∙ get_or-append-add m.block (nine_of m) k 0

  numbers_long : length (numbers_of m) ≡ 17
  numbers_long = length-append m.block (nine_of m) ∙ ap (λ (n : ℕ). n + 9) block_long

  -- by them it is found again
  moving_back : m.register < 65536 → m.mode < 256 → moving_in (numbers_of m) ≡ m
  moving_back register mode =
      alike (take_at m.block (nine_of m) 8 block_long) (nine_at 0)
      (ap (λ (n : ℕ). n % 256) (nine_at 8) ∙ mod-eq_of_lt mode)
      (nine_at 1) (nine_at 2)
      (ap (λ (n : ℕ). n % 65536) (nine_at 7) ∙ mod-eq_of_lt register)
      (nine_at 3) (nine_at 4)
      (ap₂ course_of (nine_at 6) (nine_at 5) ∙ course_of_lem m.course)

-- and they are found in the bytes
numbers_back : (s : State) → length s.block ≡ 8 → ((k : ℕ) → get_or (numbers_of (moving s)) k 0 < 2 ^ 64) → numbers_in (lent_of s) ≡ numbers_of (moving s)
numbers_back s long small =
    let f : ℕ → ℕ = λ k. get_or (numbers_of (moving s)) k 0 in
    each_same 17 (λ k. number_at (lent_of s) (8 * k)) f (λ k l. spread_at 17 f (s.scheme ++ replicate 6 0) k l small)
    ∙ each_of (numbers_of (moving s)) 17 (omega (arith, numbers_long (moving s) long))
    ∙ take_all 17 (numbers_of (moving s)) (omega (arith, numbers_long (moving s) long))

-- ---- the scheme, and what is behind it

module _ (s : State) where
  abbrev numbers_first : List ℕ
  numbers_first = spread 17 (λ k. get_or (numbers_of (moving s)) k 0)

  behind_numbers : drop 136 (lent_of s) ≡ s.scheme ++ replicate 6 0
  behind_numbers = drop_at numbers_first (s.scheme ++ replicate 6 0) 136 (length-spread 17 (λ k. get_or (numbers_of (moving s)) k 0))

  behind_scheme : length s.scheme ≡ 210 → drop 346 (lent_of s) ≡ replicate 6 0
  behind_scheme long =
      sym (drop-drop 210 136 (lent_of s)) ∙ ap (drop 210) behind_numbers ∙ drop_at s.scheme (replicate 6 0) 210 long

-- ---- the state

pub state_of_lem : (s : State) → length s.scheme ≡ symbol_points → Formed (moving s)
    → ((k : ℕ) → get_or (numbers_of (moving s)) k 0 < 2 ^ 64) → state_of (lent_of s) ≡ s
state_of_lem s scheme formed small =
    let long = formed.block_long in
    ap₂ (λ (scheme numbers : List ℕ). with_scheme scheme (moving_in numbers))
    (ap (take 210) (behind_numbers s) ∙ take_at s.scheme (replicate 6 0) 210 scheme) (numbers_back s long small)
    ∙ ap (with_scheme s.scheme) (moving_back (moving s) long formed.register formed.mode)

-- ---- bytes hold the state that is found there where its numbers are those found, and zeros are behind the scheme

module _ (bytes : List ℕ) (long : length bytes ≡ 352) where
  abbrev own : List ℕ
  own = numbers_of (moving_in (numbers_in bytes))

  -- the bytes of the numbers are those that stand there
  abbrev Stand : Type 0
  Stand = spread 17 (λ k. get_or (numbers_in bytes) k 0) ≡ take 136 bytes

  pub holds_so : Stand → numbers_in bytes ≡ own → drop 346 bytes ≡ replicate 6 0 → bytes ≡ lent_of (state_of bytes)
  holds_so stand same zeros =
      let front : spread 17 (λ k. get_or own k 0) ≡ take 136 bytes = ap (λ (xs : List ℕ). spread 17 (λ k. get_or xs k 0)) (sym same) ∙ stand in
      let back : take 210 (drop 136 bytes) ++ replicate 6 0 ≡ drop 136 bytes =
      ap (λ (xs : List ℕ). take 210 (drop 136 bytes) ++ xs) (sym zeros ∙ sym (drop-drop 210 136 bytes))
      ∙ take-append-drop 210 (drop 136 bytes) in
      sym (ap₂ ◌++◌ front back ∙ take-append-drop 136 bytes)

  pub numbers_so : ((k : ℕ) → get_or own k 0 < 2 ^ 64) → bytes ≡ lent_of (state_of bytes) → numbers_in bytes ≡ own
  numbers_so fit e =
      let seventeen = length-each 17 (λ k. number_at bytes (8 * k)) in
      ap numbers_in e ∙ numbers_back (state_of bytes) (length-take-le 8 (numbers_in bytes) (omega (arith, seventeen))) fit

  pub zeros_so : bytes ≡ lent_of (state_of bytes) → drop 346 bytes ≡ replicate 6 0
  zeros_so e =
      ap (drop 346) e ∙ behind_scheme (state_of bytes) (length-take-le 210 (drop 136 bytes) (omega (arith, long, length-drop 136 bytes)))

  -- the two tests say whether they do
  pub holds_both : (b : Bool) → Stand → numbers_in bytes ≡ own → Same b (drop 346 bytes) (replicate 6 0) → Same b bytes (lent_of (state_of bytes))
  holds_both true stand same zeros = holds_so stand same zeros
  holds_both false stand same zeros = λ held. zeros (zeros_so held)

  -- where they do, the numbers of what has moved, with what is behind them, hold the state after
  pub held_after : (after : Moving) → bytes ≡ lent_of (state_of bytes)
      → spread 17 (λ k. get_or (numbers_of after) k 0) ++ drop 136 bytes ≡ lent_of (with_scheme (take symbol_points (drop 136 bytes)) after)
  held_after after e =
      ap (λ (xs : List ℕ). spread 17 (λ k. get_or (numbers_of after) k 0) ++ xs) (ap (drop 136) e ∙ behind_numbers (state_of bytes))
