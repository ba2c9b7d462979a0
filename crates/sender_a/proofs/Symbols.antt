-- What is sent, OFDM symbol by OFDM symbol: the phase is carried on from the first to the second.
-- Assumes nothing.
use mathlib.Core.Path.{◌≡◌, refl, sym, ap, ◌∙◌}
use mathlib.Core.Bool.{true}
use mathlib.Core.List.{List, [], ◌∷◌, ◌++◌, map, append-nil, append_assoc}
use Prim.Native.Nat.{ℕ, zero, suc, ◌+◌, ◌*◌, ◌≤◌}
use native.Mathlib.Omega.{arith}
use borrow.Author.Tests.{eq-eqb}
use lib.IntN.{ℤ}
use lib.ListN.{length, take, drop, length-append, length-drop, drop_of_length-le}
use lib.Seq.{take_at, drop_at, drop-drop, length-take-le}
use Rattle.bits.specs.Words.{Bits, lowest}
use Rattle.bits.proofs.Digits.{bits_take, bits_drop, lowest_same}
use Rattle.points.specs.declared.Point.{Point}
use Rattle.points.specs.Constellations.{level_i, level_q}
use Rattle.points.specs.Dqpsk.{turn, phase_point, turned_from, turned}
use Rattle.points.proofs.Turns.{length-turned}
use Rattle.symbols.specs.Grids.{spread, placed}
use Rattle.symbols.specs.ByPhase.{phase_after, writable, turns_written, last_written}
use Rattle.symbols.proofs.Placings.{length-spread, placed_one, placed-append}
use Rattle.symbols.proofs.Rooms.{room_enough}
use Rattle.payload_a.specs.Segments.{framed}
use Rattle.payload_a.proofs.Fields.{sent, length-sent, bits_symbol}
use Rattle.payload_a.proofs.Framing.{framed_blocks, length-framed}
use Rattle.sender_a.proofs.Splitting.{first_long, first_part, second_part, second_whole}

-- what stands behind an even number of bits is turned from the phase after them
turned_append : (a b : List ℕ) (m phase : ℕ) → length a ≡ 2 * m → turned_from phase (a ++ b) ≡ turned_from phase a ++ turned_from (phase_after phase a) b
unfolding turned_from phase_after
turned_append [] b m phase e = refl
turned_append (x ∷ []) b m phase e = absurd (omega arith)
turned_append (x ∷ (y ∷ a)) b zero phase e = absurd (omega arith)
turned_append (x ∷ (y ∷ a)) b (suc m) phase e =
    ap (λ (ps : List Point). phase_point (turn phase (2 * x + y)) ∷ ps) (turned_append a b m (turn phase (2 * x + y)) (omega arith))

-- the levels of the OFDM symbol that carries a block, from a phase on
abbrev levels_of : (Point → ℤ) → ℕ → List ℕ → List ℤ
levels_of level phase block = spread (map level (turned_from phase (sent block)))

-- the levels of the two OFDM symbols that carry 784 bits, one symbol behind the other, and what stands behind them
module _ (level : Point → ℤ) (bits : List ℕ) (long : length bits ≡ 784) (rest : List ℤ) where
  both_placed :
      levels_of level 0 (take 392 bits) ++ (levels_of level (phase_after 0 (sent (take 392 bits))) (drop 392 bits) ++ rest)
      ≡ placed level 2 (turned (framed bits)) ++ rest
  unfolding turned
  both_placed =
      let a = sent (take 392 bits) in
      let b = sent (drop 392 bits) in
      let first = turned_from 0 a in
      let second = turned_from (phase_after 0 a) b in
      let symbol : length a ≡ 420 = length-sent (take 392 bits) (first_long 392 bits long) in
      let both : turned_from 0 (framed bits) ≡ first ++ second = rw (framed_blocks bits long) (turned_append a b 210 0 symbol) in
      let one : length first ≡ 210 = length-turned a 210 symbol in
      let other : length second ≡ 210
      = omega (arith, length-turned (framed bits) 420 (length-framed bits long), ap length both, length-append first second) in
      rw (both, placed-append level 1 1 first second one, placed_one level first one, placed_one level second other, append_assoc)

-- ---- one OFDM symbol, as `symbols::phases::write` leaves it

-- the phase and the lists after bits are written from a phase on
abbrev Written : ℕ → List ℕ → List ℤ → List ℤ → ℕ → List ℤ → List ℤ → Type 0
Written phase bits is qs last is' qs' =
    (last ≡ last_written phase bits is qs) × (is' ≡ turns_written level_i phase bits is qs is) × (qs' ≡ turns_written level_q phase bits is qs qs)

-- a block in lists of 256 levels: there is room for it, and its bits are bits
module _ (block : List ℕ) (each : Bits block) (long : length block ≡ 392) (is qs : List ℤ) (i : length is ≡ 256) (q : length qs ≡ 256) (phase : ℕ) where
  able : writable (sent block) is qs ≡ true
  able = rw (eq-eqb (length (sent block)) 420 (length-sent block long), sym (room_enough 256 is qs (omega arith) (omega arith)))

  same : lowest (sent block) ≡ sent block
  same = lowest_same (sent block) (bits_symbol _ _ (bits_take 196 block each) (bits_drop 196 block each))

  whole : (level : Point → ℤ) (levels : List ℤ) → length levels ≡ 256 → turns_written level phase (sent block) is qs levels ≡ levels_of level phase block
  whole level levels l =
      let short : length levels ≤ 256 = omega arith in
      rw (able, same, drop_of_length-le levels short) (append-nil _)

  block_written : {last : ℕ} {is' qs' : List ℤ} → Written phase (sent block) is qs last is' qs'
      → (last ≡ phase_after phase (sent block)) × (is' ≡ levels_of level_i phase block) × (qs' ≡ levels_of level_q phase block)
  block_written w = (w.0 ∙ rw (able, same), w.1 ∙ whole level_i is i, w.2 ∙ whole level_q qs q)

-- ---- both, one behind the other

-- levels in the place of the first 256, and others in the place of the 256 behind them
abbrev put_in_place : List ℤ → List ℤ → List ℤ → List ℤ
put_in_place first second out = take 256 (first ++ drop 256 out) ++ (second ++ drop 256 (drop 256 (first ++ drop 256 out)))

-- what stands in the second place before
abbrev behind : List ℤ → List ℤ → List ℤ
behind first out = take 256 (drop 256 (first ++ drop 256 out))

length-behind : (levels first out : List ℤ) → first ≡ spread levels → 512 ≤ length out → length (behind first out) ≡ 256
length-behind levels first out e room =
    rw (e, drop_at (spread levels) (drop 256 out) 256 (length-spread levels)) (length-take-le 256 (drop 256 out) (omega (arith, length-drop 256 out)))

in_place : (levels first second out : List ℤ) → first ≡ spread levels → put_in_place first second out ≡ spread levels ++ (second ++ drop 512 out)
in_place levels first second out e =
    let l = length-spread levels in
    rw (e, take_at (spread levels) (drop 256 out) 256 l, drop_at (spread levels) (drop 256 out) 256 l, drop-drop 256 256 out)

-- the two blocks of 784 bits, written one behind the other, the second from the phase that the first ends with
module _ (bits : List ℕ) (each : Bits bits) (long : length bits ≡ 784) (is qs : List ℤ) (i : 512 ≤ length is) (q : 512 ≤ length qs) where
  pub both_written : {last last' : ℕ} {is1 qs1 is2 qs2 : List ℤ}
      → Written 0 (sent (take 392 bits)) (take 256 is) (take 256 qs) last is1 qs1
      → Written last (sent (take 392 (drop 392 bits))) (behind is1 is) (behind qs1 qs) last' is2 qs2
      → (put_in_place is1 is2 is ≡ placed level_i 2 (turned (framed bits)) ++ drop 512 is)
      × (put_in_place qs1 qs2 qs ≡ placed level_q 2 (turned (framed bits)) ++ drop 512 qs)
  both_written {last} {last'} {is1} {qs1} {is2} {qs2} w w' =
      let a = first_part 392 bits long each in
      let b = second_part 392 bits long each in
      let i1 = length-take-le 256 is (omega arith) in
      let q1 = length-take-le 256 qs (omega arith) in
      let one = block_written (take 392 bits) a.0 a.1 (take 256 is) (take 256 qs) i1 q1 0 w in
      let i2 = length-behind _ is1 is one.1 i in
      let q2 = length-behind _ qs1 qs one.2 q in
      let on = phase_after 0 (sent (take 392 bits)) in
      let two = block_written (take 392 (drop 392 bits)) b.0 b.1 (behind is1 is) (behind qs1 qs) i2 q2 on (rw one.0 at w') in
      let second = second_whole 392 bits long in (
        in_place _ is1 is2 is one.1 ∙ rw (two.1, second) (both_placed level_i bits long (drop 512 is)),
        in_place _ qs1 qs2 qs one.2 ∙ rw (two.2, second) (both_placed level_q bits long (drop 512 qs)),
      )
