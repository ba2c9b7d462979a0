-- Both OFDM symbols: 784 bits are sent block by block and received symbol by symbol, and what is sent carries them.
-- Assumes nothing.
use mathlib.Core.Path.{◌≡◌, sym, ap, ap₂, ◌∙◌}
use mathlib.Core.List.{List, ◌++◌}
use Prim.Native.Nat.{ℕ, ◌+◌}
use native.Mathlib.Omega.{arith}
use lib.ListN.{length, take, drop, length-append, length-drop, take-append-drop}
use lib.Seq.{take_all, take_at, drop_at, drop-drop, take-append-le, drop-append-le, length-take-le}
use Rattle.bits.specs.Words.{Bits, differ}
use Rattle.bits.proofs.Digits.{bits_take, bits_drop, bits_append}
use Rattle.bits.proofs.Distances.{differ-append}
use Rattle.payload_a.specs.Segments.{field1, field2, field3, symbol_of, segment, framed, carried_by, protected_in, carried, protected, fields}
use Rattle.payload_a.proofs.Fields.{sent, bits_symbol, bits_carried_by, length-sent, carried_sent, protected_sent}
use Rattle.payload_a.proofs.Fields.{length-carried_by, length-protected_in}

-- ---- as received

module _ (y z : List ℕ) (l : length y ≡ 420) where
  pub carried-append : carried (y ++ z) ≡ carried_by y ++ carried_by z
  unfolding carried
  carried-append = ap₂ (λ (s u : List ℕ). carried_by s ++ carried_by u) (take_at y z 420 l) (drop_at y z 420 l)

  protected-append : protected (y ++ z) ≡ protected_in y ++ protected_in z
  unfolding protected
  protected-append = ap₂ (λ (s u : List ℕ). protected_in s ++ protected_in u) (take_at y z 420 l) (drop_at y z 420 l)

  pub differ-fields : differ fields (protected (y ++ z))
      ≡ differ (field1 ++ field2 ++ field3) (protected_in y) + differ (field1 ++ field2 ++ field3) (protected_in z)
  unfolding fields
  differ-fields =
      ap (differ fields) protected-append
      ∙ differ-append (field1 ++ field2 ++ field3) (protected_in y) (field1 ++ field2 ++ field3) (protected_in z) (sym (length-protected_in y l))

pub length-carried : (bits : List ℕ) → length bits ≡ 840 → length (carried bits) ≡ 784
unfolding carried
length-carried bits l =
    length-append (carried_by (take 420 bits)) (carried_by (drop 420 bits))
    ∙ ap₂ ◌+◌ (length-carried_by (take 420 bits) (length-take-le 420 bits (omega arith))) (length-carried_by (drop 420 bits) (simp length-drop (omega arith)))

pub bits_carried : (bits : List ℕ) → Bits bits → Bits (carried bits)
unfolding carried
bits_carried bits h =
    bits_append (carried_by (take 420 bits)) (carried_by (drop 420 bits)) (bits_carried_by (take 420 bits) (bits_take 420 bits h))
    (bits_carried_by (drop 420 bits) (bits_drop 420 bits h))

pub length-protected : (bits : List ℕ) → length bits ≡ 840 → length (protected bits) ≡ 56
unfolding protected
length-protected bits l =
    length-append (protected_in (take 420 bits)) (protected_in (drop 420 bits))
    ∙ ap₂ ◌+◌ (length-protected_in (take 420 bits) (length-take-le 420 bits (omega arith)))
    (length-protected_in (drop 420 bits) (simp length-drop (omega arith)))

-- ---- as sent

pub bits_framed : (bits : List ℕ) → Bits bits → Bits (framed bits)
unfolding framed segment
bits_framed bits h =
    let s : (n : ℕ) → Bits (take 196 (drop n bits)) = λ n. bits_take 196 (drop n bits) (bits_drop n bits h) in
    bits_append (symbol_of (segment 0 bits) (segment 1 bits)) (symbol_of (segment 2 bits) (segment 3 bits))
    (bits_symbol (segment 0 bits) (segment 1 bits) (s 0) (s 196)) (bits_symbol (segment 2 bits) (segment 3 bits) (s 392) (s 588))

framed-append : (a b : List ℕ) → length a ≡ 392 → length b ≡ 392 → framed (a ++ b) ≡ sent a ++ sent b
unfolding framed segment
framed-append a b la lb =
    let d : drop 392 (a ++ b) ≡ b = drop_at a b 392 la in
    let s1 : take 196 (drop 196 (a ++ b)) ≡ drop 196 a
    = ap (take 196) (drop-append-le 196 a b (omega arith)) ∙ take_at (drop 196 a) b 196 (simp length-drop (omega arith)) in
    let s3 : take 196 (drop 588 (a ++ b)) ≡ drop 196 b
    = ap (take 196) (sym (drop-drop 196 392 (a ++ b)) ∙ ap (drop 196) d) ∙ take_all 196 (drop 196 b) (simp length-drop (omega arith)) in
    ap₂ ◌++◌ (ap₂ symbol_of (take-append-le 196 a b (omega arith)) s1) (ap₂ symbol_of (ap (take 196) d) s3)

module _ (bits : List ℕ) (l : length bits ≡ 784) where
  first_block_long : length (take 392 bits) ≡ 392
  first_block_long = length-take-le 392 bits (omega arith)

  second_block_long : length (drop 392 bits) ≡ 392
  second_block_long = simp length-drop (omega arith)

  pub framed_blocks : framed bits ≡ sent (take 392 bits) ++ sent (drop 392 bits)
  framed_blocks = ap framed (sym (take-append-drop 392 bits)) ∙ framed-append (take 392 bits) (drop 392 bits) first_block_long second_block_long

  pub length-framed : length (framed bits) ≡ 840
  length-framed =
      ap length framed_blocks ∙ length-append (sent (take 392 bits)) (sent (drop 392 bits))
      ∙ ap₂ ◌+◌ (length-sent (take 392 bits) first_block_long) (length-sent (drop 392 bits) second_block_long)

  pub carried-framed : carried (framed bits) ≡ bits
  carried-framed =
      ap carried framed_blocks
      ∙ carried-append (sent (take 392 bits)) (sent (drop 392 bits)) (length-sent (take 392 bits) first_block_long)
      ∙ ap₂ ◌++◌ (carried_sent (take 392 bits) first_block_long) (carried_sent (drop 392 bits) second_block_long)
      ∙ take-append-drop 392 bits

  pub protected-framed : protected (framed bits) ≡ fields
  unfolding fields
  protected-framed =
      ap protected framed_blocks
      ∙ protected-append (sent (take 392 bits)) (sent (drop 392 bits)) (length-sent (take 392 bits) first_block_long)
      ∙ ap₂ ◌++◌ (protected_sent (take 392 bits) first_block_long) (protected_sent (drop 392 bits) second_block_long)
