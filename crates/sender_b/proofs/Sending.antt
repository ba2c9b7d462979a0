-- OFDM symbols of Payload B sent one behind the other.
-- Assumes nothing.
use mathlib.Core.Path.{◌≡◌, refl, sym, ap, ◌∙◌}
use mathlib.Core.List.{List, [], ◌∷◌, ◌++◌, append_assoc}
use Prim.Native.Nat.{ℕ, ◌+◌, ◌-◌, ◌*◌, ◌≤◌}
use native.Mathlib.Numerals.{add-one}
use native.Mathlib.Omega.{arith}
use borrow.Rule.Slice.PartMut.{put_mid, Post-is}
use lib.IntN.{ℤ}
use lib.ListN.{length, take, drop, length-append, length-drop}
use lib.Seq.{take_at, drop_at, drop-drop}
use Rattle.points.specs.declared.Point.{Point}
use Rattle.symbols.specs.Grids.{placed}
use Rattle.symbols.proofs.Placings.{length-placed, placed_one, placed-append}
use Rattle.symbols.specs.Schemes.{sum_of, repeated, mapped, Scheme}
use Rattle.symbols.proofs.Schemes.{sum_repeated, repeated_more, repeated_long}
use Rattle.symbols.proofs.Mapping.{length-mapped}
use Rattle.payload_b.specs.CodedB.{coded_b, symbols_for, filled_up, points_b, sent_b}
use Rattle.sender_b.specs.Steps.{spread_of, Behind, Sent, AllSent}

-- bits to points by one scheme behind another
mapped-append : (a b bits : List ℕ) → mapped (a ++ b) bits ≡ mapped a bits ++ mapped b (drop (sum_of a) bits)
unfolding mapped sum_of
mapped-append [] b bits = refl
mapped-append (n ∷ a) b bits = rw (mapped-append a b (drop n bits), drop-drop (sum_of a) n bits)

-- a part of 256, written behind m others
pub written_behind : (level : Point → ℤ) (scheme bits : List ℕ) (m : ℕ) (is : List ℤ) {part : List ℤ} → part ≡ spread_of level scheme bits
    → Behind level scheme bits m is (put_mid (256 * m) (256 * m + 256 - 256 * m) is part)
written_behind level scheme bits m is e = rw (e, Post-is (256 * m) (256 * m + 256) is (omega arith)) refl

module _ (level : Point → ℤ) (scheme fed : List ℕ) where
  -- none at first
  pub sent_none : (is : List ℤ) → Sent level scheme fed 0 is is
  unfolding placed
  sent_none is = refl

  module _ (m : ℕ) where
    -- the points of one OFDM symbol more
    mapped_more : mapped (repeated (m + 1) scheme) fed ≡ mapped (repeated m scheme) fed ++ mapped scheme (drop (sum_of scheme * m) fed)
    mapped_more = rw (add-one m, repeated_more scheme m, mapped-append (repeated m scheme) scheme fed, sum_repeated scheme m)

    -- and its sub-carriers
    placed_more : Scheme scheme
        → placed level (m + 1) (mapped (repeated (m + 1) scheme) fed)
        ≡ placed level m (mapped (repeated m scheme) fed) ++ spread_of level scheme (drop (sum_of scheme * m) fed)
    placed_more good =
        let ps = mapped (repeated m scheme) fed in
        let rs = mapped scheme (drop (sum_of scheme * m) fed) in
        rw (
          mapped_more,
          placed-append level m 1 ps rs (length-mapped (repeated m scheme) fed ∙ repeated_long scheme good.long m),
          placed_one level rs (length-mapped scheme (drop (sum_of scheme * m) fed) ∙ good.long),
        )

    module _ (is₀ : List ℤ) {is : List ℤ} (e : Sent level scheme fed m is₀ is) where
      abbrev front : List ℤ
      front = placed level m (mapped (repeated m scheme) fed)

      front_long : length front ≡ 256 * m
      front_long = length-placed level m (mapped (repeated m scheme) fed)

      -- the list is as long as it was
      pub sent_long : 256 * m ≤ length is₀ → length is ≡ length is₀
      sent_long room =
          ap length e ∙ length-append front (drop (256 * m) is₀) ∙ omega (arith, front_long, length-drop (256 * m) is₀)

      -- one OFDM symbol more
      pub sent_more : Scheme scheme → {is' : List ℤ} → Behind level scheme (drop (sum_of scheme * m) fed) m is is' → Sent level scheme fed (m + 1) is₀ is'
      sent_more good e' =
          let start : take (256 * m) is ≡ front = rw (e, take_at front (drop (256 * m) is₀) (256 * m) front_long) in
          let up : 256 * m + 256 ≡ 256 * (m + 1) = omega arith in
          let rest : drop (256 * m + 256) is ≡ drop (256 * (m + 1)) is₀
          = rw (sym (drop-drop 256 (256 * m) is), e, drop_at front (drop (256 * m) is₀) (256 * m) front_long, drop-drop 256 (256 * m) is₀, up) in
          e' ∙ rw (start, rest, placed_more good, append_assoc)

-- the bits sent for a frame, the last OFDM symbol filled up
abbrev pub fed_of : ℕ → List ℕ → List ℕ → List ℕ
fed_of mode frame scheme = filled_up (sum_of scheme * symbols_for mode (length frame) scheme) (coded_b mode frame)

-- all of them
pub all_sent : (level : Point → ℤ) (mode : ℕ) (frame scheme : List ℕ) (is₀ : List ℤ) {is : List ℤ}
    → Sent level scheme (fed_of mode frame scheme) (symbols_for mode (length frame) scheme) is₀ is → AllSent level mode frame scheme is₀ is
unfolding sent_b points_b
all_sent level mode frame scheme is₀ e = e
