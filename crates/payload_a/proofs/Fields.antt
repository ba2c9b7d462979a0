-- Protected fields and segments: an OFDM symbol carries the two segments that were put there, and its protected bits are the fields.
-- Assumes nothing.
use mathlib.Core.Path.{◌≡◌, sym, ap, ap₂, ◌∙◌}
use mathlib.Core.List.{List, ◌++◌, append_assoc}
use Prim.Native.Nat.{ℕ, ◌+◌}
use native.Mathlib.Omega.{arith}
use lib.ListN.{length, take, drop, length-append, length-drop, take-append-drop}
use lib.Seq.{take_at, drop_at, drop-drop, length-take-le}
use Rattle.bits.specs.Words.{Bits, differ}
use Rattle.bits.proofs.Digits.{bits_take, bits_drop}
use Rattle.bits.proofs.Distances.{differ-append}
use Rattle.bits.proofs.Digits.{bits_append}
use Rattle.payload_a.specs.Segments.{field1, field2, field3, symbol_of, carried_by, protected_in}
use Rattle.bits.proofs.Copies.{part_long}

-- ---- an OFDM symbol made of two segments

pub bits_symbol : (s u : List ℕ) → Bits s → Bits u → Bits (symbol_of s u)
unfolding symbol_of
bits_symbol s u hs hu =
    let one : Bits (field1 ++ s) = bits_append field1 s (omega arith) hs in
    let two : Bits (field1 ++ s ++ field2) = bits_append (field1 ++ s) field2 one (omega arith) in
    bits_append (field1 ++ s ++ field2 ++ u) field3 (bits_append (field1 ++ s ++ field2) u two hu) (omega arith)

module _ (s u : List ℕ) (ls : length s ≡ 196) (lu : length u ≡ 196) where
  length_symbol : length (symbol_of s u) ≡ 420
  unfolding symbol_of
  length_symbol = simp length-append (omega arith)

  -- what stands behind field 1, then behind the first segment, behind field 2 and behind the second segment
  from_first : s ++ field2 ++ u ++ field3 ≡ s ++ (field2 ++ (u ++ field3))
  from_first = simp append_assoc

  from_field : drop 196 (s ++ field2 ++ u ++ field3) ≡ field2 ++ (u ++ field3)
  from_field = rw from_first (drop_at s (field2 ++ (u ++ field3)) 196 ls)

  from_second : drop 206 (s ++ field2 ++ u ++ field3) ≡ u ++ field3
  from_second = sym (drop-drop 10 196 (s ++ field2 ++ u ++ field3)) ∙ ap (drop 10) from_field

  from_last : drop 402 (s ++ field2 ++ u ++ field3) ≡ field3
  from_last = sym (drop-drop 196 206 (s ++ field2 ++ u ++ field3)) ∙ ap (drop 196) from_second ∙ drop_at u field3 196 lu

  carried_symbol : carried_by (symbol_of s u) ≡ s ++ u
  unfolding carried_by symbol_of
  carried_symbol =
      ap₂ ◌++◌ (ap (take 196) from_first ∙ take_at s (field2 ++ (u ++ field3)) 196 ls) (ap (take 196) from_second ∙ take_at u field3 196 lu)

  protected_symbol : protected_in (symbol_of s u) ≡ field1 ++ field2 ++ field3
  unfolding protected_in symbol_of
  protected_symbol = ap₂ (λ (x y : List ℕ). field1 ++ x ++ y) (ap (take 10) from_field) (ap (take 8) from_last)

-- ---- a block as an OFDM symbol

abbrev pub sent : List ℕ → List ℕ
sent block = symbol_of (take 196 block) (drop 196 block)

module _ (block : List ℕ) (l : length block ≡ 392) where
  first_long : length (take 196 block) ≡ 196
  first_long = length-take-le 196 block (omega arith)

  second_long : length (drop 196 block) ≡ 196
  second_long = simp length-drop (omega arith)

  pub length-sent : length (sent block) ≡ 420
  length-sent = length_symbol (take 196 block) (drop 196 block) first_long second_long

  pub carried_sent : carried_by (sent block) ≡ block
  carried_sent = carried_symbol (take 196 block) (drop 196 block) first_long second_long ∙ take-append-drop 196 block

  pub protected_sent : protected_in (sent block) ≡ field1 ++ field2 ++ field3
  protected_sent = protected_symbol (take 196 block) (drop 196 block) first_long second_long

-- ---- an OFDM symbol as received

pub bits_carried_by : (y : List ℕ) → Bits y → Bits (carried_by y)
unfolding carried_by
bits_carried_by y h =
    let part : (n : ℕ) → Bits (take 196 (drop n y)) = λ n. bits_take 196 (drop n y) (bits_drop n y h) in
    bits_append (take 196 (drop 10 y)) (take 196 (drop 216 y)) (part 10) (part 216)

module _ (y : List ℕ) (l : length y ≡ 420) where
  pub length-carried_by : length (carried_by y) ≡ 392
  unfolding carried_by
  length-carried_by =
      length-append (take 196 (drop 10 y)) (take 196 (drop 216 y)) ∙ ap₂ ◌+◌ (part_long 10 196 y (omega arith)) (part_long 216 196 y (omega arith))

  two_long : length (take 10 y ++ take 10 (drop 206 y)) ≡ 20
  two_long = length-append (take 10 y) (take 10 (drop 206 y)) ∙ ap₂ ◌+◌ (part_long 0 10 y (omega arith)) (part_long 206 10 y (omega arith))

  pub length-protected_in : length (protected_in y) ≡ 28
  unfolding protected_in
  length-protected_in =
      length-append (take 10 y ++ take 10 (drop 206 y)) (take 8 (drop 412 y)) ∙ ap₂ ◌+◌ two_long (part_long 412 8 y (omega arith))

  -- the places of the three fields add up
  pub differ-protected_in : differ (field1 ++ field2 ++ field3) (protected_in y)
      ≡ differ field1 (take 10 y) + differ field2 (take 10 (drop 206 y)) + differ field3 (take 8 (drop 412 y))
  unfolding protected_in
  differ-protected_in =
      differ-append (field1 ++ field2) (take 10 y ++ take 10 (drop 206 y)) field3 (take 8 (drop 412 y)) (sym two_long)
      ∙ ap (λ (n : ℕ). n + differ field3 (take 8 (drop 412 y)))
      (differ-append field1 (take 10 y) field2 (take 10 (drop 206 y)) (sym (part_long 0 10 y (omega arith))))
