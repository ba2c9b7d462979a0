-- Sending Payload B, OFDM symbol after OFDM symbol: bits of the frame are put in until there are enough, and the first of those that wait are sent.
-- Assumes nothing.
use mathlib.Core.Path.{◌≡◌, ap, subst, ◌∙◌}
use mathlib.Core.List.{List, map}
use Prim.Native.Nat.{ℕ, ◌+◌, ◌-◌, ◌*◌, ◌≤◌, ◌<◌}
use native.Mathlib.Nat.{mul-zero}
use native.Mathlib.Omega.{arith}
use borrow.Rule.Slice.PartMut.{mid_of, put_mid, mid_len}
use lib.IntN.{ℤ}
use lib.ListN.{length, take, drop}
use Rattle.packed.specs.Packed.{bits_from}
use Rattle.points.specs.declared.Point.{Point}
use Rattle.points.specs.Constellations.{level_i, level_q}
use Rattle.payload.proofs.Wires.{one_more}
use Rattle.symbols.specs.Grids.{spread}
use Rattle.symbols.specs.Schemes.{sum_of}
use Rattle.symbols.proofs.Schemes.{sum_most}
use Rattle.packed.proofs.Amid.{zeros}
use Rattle.payload_b.specs.CodedB.{symbols_for}
use Rattle.payload_b.specs.declared.plan.Plan.{Plan}
use Rattle.sender_b.specs.declared.sender.Run.{Run}
use Rattle.symbols.specs.ByScheme.{symbol_written}
use Rattle.sender_b.specs.Steps.{Ready, Waiting, Filled, Gone, spread_of, Sent, Passed, AllSent}
use Rattle.symbols.proofs.Writings.{mapped_same}
use Rattle.sender_b.proofs.Writings.{symbol_ours}
use Rattle.sender_b.proofs.Sending.{written_behind, sent_none, sent_long, sent_more, fed_of, all_sent}
use Rattle.sender_b.proofs.Waits.{nothing, ready_none, waiting_none, next_bits, ready_gone, waiting_gone}

-- s OFDM symbols are sent, and bits of those behind them wait
pub record Underway (mode : ℕ) (frame scheme : List ℕ) (is₀ qs₀ : List ℤ) (s : ℕ) (run : Run) (is qs : List ℤ) : Type 0 where
  pub low : s ≤ symbols_for mode (length frame) scheme
  pub ready : Ready mode frame run.going
  pub few : run.going.count < sum_of scheme + 512
  pub waiting : Waiting mode frame (sum_of scheme * s) run
  pub sent_i : Sent level_i scheme (fed_of mode frame scheme) s is₀ is
  pub sent_q : Sent level_q scheme (fed_of mode frame scheme) s qs₀ qs

-- the 256 elements behind those of s OFDM symbols
abbrev pub symbol_at : ℕ → List ℤ → List ℤ
symbol_at s is = mid_of (256 * s) (256 * s + 256 - 256 * s) is

module _ {mode : ℕ} {frame scheme : List ℕ} {plan : Plan} {is₀ qs₀ : List ℤ} (p : Passed mode frame scheme plan is₀ qs₀) where
  abbrev fed : List ℕ
  fed = fed_of mode frame scheme

  pub sum_is : plan.sum ≡ sum_of scheme
  sum_is = ap (λ (q : Plan). q.sum) p.planned

  pub symbols_are : plan.symbols ≡ symbols_for mode (length frame) scheme
  symbols_are = ap (λ (q : Plan). q.symbols) p.planned

  pub most : plan.sum ≤ 2100
  most = omega (arith, sum_is, sum_most p.sendable.entries)

  pub symbols_few : plan.symbols ≤ 256
  symbols_few = omega (arith, symbols_are, p.sendable.few)

  -- none at first
  pub underway_none : Underway mode frame scheme is₀ qs₀ 0 (record { bits = zeros 41; going = nothing }) is₀ qs₀
  underway_none = record {
    low = omega arith;
    ready = ready_none p.sendable;
    few = omega arith;
    waiting = rw (mul-zero (sum_of scheme)) (waiting_none mode frame);
    sent_i = sent_none level_i scheme fed is₀;
    sent_q = sent_none level_q scheme fed qs₀;
  }

  module _ {s : ℕ} {run : Run} {is qs : List ℤ} (u : Underway mode frame scheme is₀ qs₀ s run is qs) where
    pub same_i : length is ≡ length is₀
    same_i = sent_long level_i scheme fed s is₀ u.sent_i (omega (arith, u.low, p.room))

    pub same_q : length qs ≡ length qs₀
    same_q = sent_long level_q scheme fed s qs₀ u.sent_q (omega (arith, u.low, p.room))

    -- all of them
    pub underway_all : plan.symbols ≤ s → AllSent level_i mode frame scheme is₀ is × AllSent level_q mode frame scheme qs₀ qs
    underway_all end =
        let e : s ≡ symbols_for mode (length frame) scheme = omega (arith, u.low, symbols_are) in (
          all_sent level_i mode frame scheme is₀ (rw e at u.sent_i),
          all_sent level_q mode frame scheme qs₀ (rw e at u.sent_q),
        )

    -- one more
    module _ (next : s < plan.symbols) where
      pub room_i : 256 * s + 256 ≤ length is
      room_i = omega (arith, same_i, symbols_are, p.room)

      pub room_q : 256 * s + 256 ≤ length qs
      room_q = omega (arith, same_q, symbols_are, p.room)

      module _ {full : Run} (f : Filled mode frame plan.sum run full) where
        abbrev sent : ℕ
        sent = sum_of scheme * s

        waits : Waiting mode frame sent full
        waits = f.grows sent u.waiting

        enough : full.going.at < length frame → sum_of scheme ≤ full.going.count
        enough l = omega (arith, f.full l, sum_is)

        -- the bits of the next OFDM symbol are at the front
        bits_are : take (sum_of scheme) (bits_from 41 0 full.bits) ≡ take (sum_of scheme) (drop sent fed)
        bits_are =
            next_bits f.ready waits (sum_most p.sendable.entries) enough (sum_of scheme * symbols_for mode (length frame) scheme)
            (one_more (sum_of scheme) s (symbols_for mode (length frame) scheme) (omega (arith, symbols_are)))

        -- and its sub-carriers are written
        module _ where
          long_i : length (symbol_at s is) ≡ 256
          long_i = mid_len (256 * s) (256 * s + 256) is room_i ∙ omega arith

          long_q : length (symbol_at s qs) ≡ 256
          long_q = mid_len (256 * s) (256 * s + 256) qs room_q ∙ omega arith

          sub_carriers : (level : Point → ℤ) {part : List ℤ} (levels : List ℤ) → length levels ≡ 256
              → part ≡ symbol_written level scheme (bits_from 41 0 full.bits) (symbol_at s is) (symbol_at s qs) levels
              → part ≡ spread_of level scheme (drop sent fed)
          sub_carriers level levels l e =
              e ∙ symbol_ours p.sendable.entries (symbol_at s is) (symbol_at s qs) long_i long_q level (bits_from 41 0 full.bits) levels l
              ∙ ap (λ (ps : List Point). spread (map level ps)) (mapped_same scheme (bits_from 41 0 full.bits) (drop sent fed) bits_are)

          pub underway_more : {is' qs' : List ℤ}
              → is' ≡ symbol_written level_i scheme (bits_from 41 0 full.bits) (symbol_at s is) (symbol_at s qs) (symbol_at s is)
              → qs' ≡ symbol_written level_q scheme (bits_from 41 0 full.bits) (symbol_at s is) (symbol_at s qs) (symbol_at s qs)
              → {run' : Run} → Gone plan.sum full run'
              → Underway mode frame scheme is₀ qs₀ (s + 1) run' (put_mid (256 * s) (256 * s + 256 - 256 * s) is is')
              (put_mid (256 * s) (256 * s + 256 - 256 * s) qs qs')
          underway_more ei eq {run'} gone =
              let good = p.sendable.entries in
              let g = subst (λ (n : ℕ). Gone n full run') sum_is gone in
              let up : sent + sum_of scheme ≡ sum_of scheme * (s + 1) = omega arith in
              record {
                low = omega (arith, symbols_are);
                ready = ready_gone f.ready waits (sum_most good) enough g;
                few = omega (arith, g.counted, f.few, sum_is);
                waiting = subst (λ (n : ℕ). Waiting mode frame n run') up
                    (waiting_gone f.ready waits (sum_most good) enough g (omega (arith, f.few, sum_is)));
                sent_i = sent_more level_i scheme fed s is₀ u.sent_i good
                    (written_behind level_i scheme (drop sent fed) s is (sub_carriers level_i (symbol_at s is) long_i ei));
                sent_q = sent_more level_q scheme fed s qs₀ u.sent_q good
                    (written_behind level_q scheme (drop sent fed) s qs (sub_carriers level_q (symbol_at s qs) long_q eq));
              }
