-- Bits of a frame of Payload B that wait in a run: none at first, with one piece more, those of the next OFDM symbol, and the others once that is sent.
-- Assumes nothing.
use mathlib.Core.Path.{◌≡◌, refl, sym, ap, ap₂, ◌∙◌}
use mathlib.Core.Bool.{Bool, true, false, cond, true≢false}
use mathlib.Core.List.{List, ◌++◌, append_assoc}
use Prim.Native.Nat.{ℕ, ◌+◌, ◌-◌, ◌*◌, ◌%◌, ◌≤◌, ◌<◌}
use native.Mathlib.Decide.{dec_le}
use native.Mathlib.Nat.{zero-mod}
use native.Mathlib.Omega.{arith}
use borrow.Author.Tests.{le-leb, lt-ltb, ltb-true}
use lib.Dec.{leb, ltb}
use lib.ListN.{length, take, drop, length-append, length-drop, take-append-drop}
use lib.Seq.{take-add, take_all, take-append-le, drop-append-le, drop-drop, length-take-le}
use Rattle.bits.specs.Bytes.{bits_of}
use Rattle.packed.specs.Packed.{bits_from, padded, padded_to}
use Rattle.payload.specs.Scrambler.{start, scrambled_from, register_after}
use Rattle.payload.proofs.Scrambling.{register_more}
use Rattle.packed.proofs.Amid.{zeros, from_zeros}
use Rattle.symbols.proofs.Rooms.{both_true}
use Rattle.payload_b.specs.CodedB.{block_bytes, blocks_in, coded_from, coded_b, bits_for, filled_up}
use Rattle.payload_b.specs.PlanB.{Sendable}
use Rattle.payload_b.proofs.Plans.{whole_blocks}
use Rattle.payload_b.proofs.Blockwise.{coded_none, length_coded, coded_append}
use Rattle.sender_b.specs.declared.sender.Outgoing.{Outgoing}
use Rattle.sender_b.specs.declared.sender.Run.{Run}
use Rattle.sender_b.specs.Steps.{Piece, coded_piece, Ready, is_short, made, Waiting, Grows, Gone}
use Rattle.sender_b.proofs.Zeros.{take_padded, drop_padded, front_gone, run_window, put_in}
use Rattle.sender_b.proofs.Pieces.{whole_more, whole_left, piece_is, few_bits}

-- ---- at first

abbrev pub nothing : Outgoing
nothing = record { count = 0; at = 0; register = start }

pub ready_none : {mode : ℕ} {frame scheme : List ℕ} → Sendable mode (length frame) scheme → Ready mode frame nothing
unfolding register_after
ready_none {mode} p = record { known = p.known; blocks = p.whole; low = omega arith; whole = zero-mod (block_bytes mode); carried = refl }

pub waiting_none : (mode : ℕ) (frame : List ℕ) → Waiting mode frame 0 (record { bits = zeros 41; going = nothing })
waiting_none mode frame = record {
  held = from_zeros 41 41 0 ∙ sym (ap (padded_to 2624) (coded_none mode start));
  counted = sym (ap length (coded_none mode start));
  ahead = λ _. omega arith;
}

-- ---- the front of a frame

module _ {mode : ℕ} {frame : List ℕ} {o : Outgoing} (r : Ready mode frame o) where
  front_long : length (take o.at frame) ≡ o.at
  front_long = length-take-le o.at frame r.low

  -- what is sent for it, and for whole blocks behind it
  front_more : (g : List ℕ) → length g % block_bytes mode ≡ 0
      → coded_b mode (take o.at frame ++ g) ≡ coded_b mode (take o.at frame) ++ coded_from mode o.register g
  front_more g whole =
      coded_append mode start (blocks_in mode o.at) (take o.at frame) (front_long ∙ whole_blocks mode o.at r.whole) o.register
      (r.carried ∙ ap (λ (n : ℕ). register_after (8 * n) start) (sym front_long)) (blocks_in mode (length g)) g (whole_blocks mode (length g) whole)

  -- for all of the frame
  pub all_made : coded_b mode frame ≡ coded_b mode (take o.at frame) ++ coded_from mode o.register (drop o.at frame)
  all_made =
      let whole = ap (λ (n : ℕ). n % block_bytes mode) (length-drop o.at frame) ∙ whole_left mode (length frame) o.at r.blocks r.whole in
      ap (coded_b mode) (sym (take-append-drop o.at frame)) ∙ front_more (drop o.at frame) whole

  -- ---- one piece more

  module _ {n : ℕ} (p : Piece mode (length frame - o.at) n) where
    abbrev part : List ℕ
    part = take n (drop o.at frame)

    part_long : length part ≡ n
    part_long = length-take-le n (drop o.at frame) (omega (arith, length-drop o.at frame, p.within))

    part_all : take 64 part ≡ part
    part_all = take_all 64 part (omega (arith, part_long, p.few))

    part_one : (mode ≡ 0 → ⊥) → length part ≡ block_bytes mode
    part_one not = part_long ∙ p.one not

    abbrev more : List ℕ
    more = coded_from mode o.register part

    made_more : coded_b mode (take (o.at + n) frame) ≡ coded_b mode (take o.at frame) ++ more
    made_more = ap (coded_b mode) (take-add o.at n frame) ∙ front_more part (ap (λ (k : ℕ). k % block_bytes mode) part_long ∙ p.whole)

    more_long : length more ≡ bits_for mode n
    more_long = length_coded mode o.register (blocks_in mode n) part (part_long ∙ whole_blocks mode n p.whole)

    pub ready_more : (count : ℕ) {register : ℕ} → register ≡ register_after (8 * length (take 64 part)) o.register
        → Ready mode frame (record { count = count; at = o.at + n; register = register })
    ready_more count e = record {
      known = r.known;
      blocks = r.blocks;
      low = omega (arith, r.low, p.within);
      whole = whole_more mode o.at n r.whole p.whole;
      carried = e ∙ ap (λ (k : ℕ). register_after (8 * k) o.register) (ap length part_all ∙ part_long)
          ∙ ap (register_after (8 * n)) r.carried ∙ sym (register_more (8 * o.at) (8 * n) start)
          ∙ ap (λ (k : ℕ). register_after k start) (omega arith);
    }

    -- its bits are made, coded and put in
    module _ (words after : List ℕ) {bits code : List ℕ} (few : o.count ≤ 2112)
        (packs : bits ≡ padded (scrambled_from o.register (bits_of (take 64 part))))
        (codes : code ≡ coded_piece mode bits)
        (puts : bits_from 41 0 after
        ≡ cond (leb o.count 2112)
        (take o.count (bits_from 41 0 words) ++ (code ++ drop (o.count + 512) (bits_from 41 0 words)))
        (bits_from 41 0 words)) where
      code_is : code ≡ padded more
      code_is =
          codes ∙ piece_is mode o.register part part_one (packs ∙ ap (λ (g : List ℕ). padded (scrambled_from o.register (bits_of g))) part_all)

      put_is : bits_from 41 0 after ≡ take o.count (bits_from 41 0 words) ++ (code ++ drop (o.count + 512) (bits_from 41 0 words))
      put_is =
          puts ∙ ap (λ (t : Bool). cond t (take o.count (bits_from 41 0 words) ++ (code ++ drop (o.count + 512) (bits_from 41 0 words)))
          (bits_from 41 0 words)) (le-leb o.count 2112 few)

      pub waiting_more : (register : ℕ)
          → Grows mode frame (record { bits = words; going = o })
          (record { bits = after; going = record { count = o.count + bits_for mode n; at = o.at + n; register = register } })
      waiting_more register sent w =
          let old = coded_b mode (take o.at frame) in
          let wait = drop sent old in
          let low : sent ≤ length old = w.ahead (omega (arith, p.some, p.within)) in
          let up : drop sent (coded_b mode (take (o.at + n) frame)) ≡ wait ++ more = ap (drop sent) made_more ∙ drop-append-le sent old more low in
          record {
            held = put_is
                ∙ ap₂ (λ (u v : List ℕ). take o.count u ++ (v ++ drop (o.count + 512) u)) w.held code_is
                ∙ put_in o.count wait more w.counted few (omega (arith, more_long, few_bits p))
                ∙ ap (padded_to 2624) (sym up);
            counted = omega (arith, w.counted, more_long, length-append wait more, ap length up);
            ahead = λ _. omega (arith, low, ap length made_more, length-append old more);
          }

-- ---- whether there is more to put in

pub is_short_lem : (size sum : ℕ) (o : Outgoing) → is_short size sum o ≡ true → (o.count < sum) × (o.at < size)
is_short_lem size sum o e =
    let two = both_true (ltb o.count sum) (ltb o.at size) (sym e) in
    (ltb-true o.count sum two.0, ltb-true o.at size two.1)

pub not_short : (size sum : ℕ) (o : Outgoing) → is_short size sum o ≡ false → o.at < size → sum ≤ o.count
not_short size sum o e left = by (dec_le sum o.count)
  where
    by : Dec (sum ≤ o.count) → sum ≤ o.count
    by (yes h) = h
    by (no not) = absurd (true≢false (sym (rw (lt-ltb o.count sum (omega arith), lt-ltb o.at size left)) ∙ e))

-- ---- the next OFDM symbol

module _ {mode : ℕ} {frame : List ℕ} {sum sent : ℕ} {run : Run} (r : Ready mode frame run.going) (w : Waiting mode frame sent run)
    (most : sum ≤ 2100) (full : run.going.at < length frame → sum ≤ run.going.count) where
  -- its bits are those of the frame, filled up with zeros
  pub next_bits : (n : ℕ) → sent + sum ≤ n → take sum (bits_from 41 0 run.bits) ≡ take sum (drop sent (filled_up n (coded_b mode frame)))
  next_bits n room = by (dec_le (length frame) run.going.at)
    where
      by : Dec (length frame ≤ run.going.at) → take sum (bits_from 41 0 run.bits) ≡ take sum (drop sent (filled_up n (coded_b mode frame)))
      by (yes end) =
          let all : drop sent (made mode frame run) ≡ drop sent (coded_b mode frame)
          = ap (λ (f : List ℕ). drop sent (coded_b mode f)) (take_all run.going.at frame end) in
          ap (take sum) (w.held ∙ ap (padded_to 2624) all) ∙ take_padded sum 2624 (drop sent (coded_b mode frame)) (omega arith)
          ∙ sym (ap (take sum) (drop_padded sent n (coded_b mode frame)) ∙ take_padded sum (n - sent) (drop sent (coded_b mode frame)) (omega arith))
      by (no not) =
          let old = made mode frame run in
          let rest = coded_from mode run.going.register (drop run.going.at frame) in
          let fill = zeros (n - length (coded_b mode frame)) in
          let left : run.going.at < length frame = omega arith in
          let long : sum ≤ length (drop sent old) = omega (arith, w.counted, full left) in
          let all : filled_up n (coded_b mode frame) ≡ old ++ (rest ++ fill) = ap (λ (l : List ℕ). l ++ fill) (all_made r) ∙ append_assoc old rest fill in
          ap (take sum) w.held ∙ take-append-le sum (drop sent old) (zeros (2624 - length (drop sent old))) long
          ∙ sym (ap (λ (l : List ℕ). take sum (drop sent l)) all ∙ ap (take sum) (drop-append-le sent old (rest ++ fill) (w.ahead left))
          ∙ take-append-le sum (drop sent old) (rest ++ fill) long)

  -- it is sent
  module _ {run' : Run} (g : Gone sum run run') where
    pub ready_gone : Ready mode frame run'.going
    ready_gone = record {
      known = r.known;
      blocks = r.blocks;
      low = omega (arith, r.low, g.same_at);
      whole = ap (λ (n : ℕ). n % block_bytes mode) g.same_at ∙ r.whole;
      carried = g.same_register ∙ r.carried ∙ ap (λ (n : ℕ). register_after (8 * n) start) (sym g.same_at);
    }

    pub waiting_gone : run.going.count < sum + 512 → Waiting mode frame (sent + sum) run'
    waiting_gone few =
        let old = made mode frame run in
        let same : old ≡ made mode frame run' = ap (λ (n : ℕ). coded_b mode (take n frame)) (sym g.same_at) in
        let long = length-drop sent old in
        record {
          held = g.left
              ∙ ap (λ (l : List ℕ). l ++ zeros 2112) (run_window run.bits sum most ∙ ap (λ (l : List ℕ). take 512 (drop sum l)) w.held)
              ∙ front_gone sum (drop sent old) (omega arith) (omega (arith, w.counted))
              ∙ ap (padded_to 2624) (drop-drop sum sent old ∙ ap (drop (sent + sum)) same);
          counted = g.counted ∙ omega (arith, w.counted, length-drop (sent + sum) old) ∙ ap (λ (l : List ℕ). length (drop (sent + sum) l)) same;
          ahead = λ left.
              let before : run.going.at < length frame = omega (arith, g.same_at) in
              omega (arith, w.ahead before, full before, w.counted, ap length same);
        }
