-- OFDM symbols decided one behind the other: their tables grow by those of one OFDM symbol, and so do the levels that are written.
-- Assumes nothing.
use mathlib.Core.Path.{◌≡◌, refl, sym, ap, ap₂, ◌∙◌}
use mathlib.Core.List.{List, ◌++◌, map, append_assoc}
use Prim.Native.Nat.{ℕ, ◌+◌, ◌-◌, ◌*◌, ◌≤◌, ◌<◌}
use native.Mathlib.Omega.{arith}
use borrow.Rule.Slice.PartMut.{mid_of, put_mid, Post-is, mid_len}
use lib.IntN.{ℤ}
use lib.ListN.{length, take, drop, length-append, length-drop}
use lib.Seq.{take_at, drop_at, drop-drop}
use Rattle.points.specs.declared.Point.{Point}
use Rattle.points.specs.Constellations.{level_i, level_q}
use Rattle.symbols.specs.Grids.{points_from, spread, placed, received, room}
use Rattle.symbols.proofs.Readings.{length_points, length-received, received-one, received-add, points_take}
use Rattle.symbols.proofs.Placings.{length-placed, placed_one, placed-append}
use Rattle.decisions.specs.Decided.{decided, decided_levels}
use Rattle.decisions.proofs.Tables.{length-decided, decided-append}
use Rattle.decider.specs.Parts.{Enough, Symbol}
use Rattle.decider.specs.Tables.{Grows}

-- ---- places

-- the 256 elements behind those of k OFDM symbols
abbrev symbol_at : ℕ → List ℤ → List ℤ
symbol_at k xs = mid_of (256 * k) (256 * k + 256 - 256 * k) xs

symbol_long : (k : ℕ) (xs : List ℤ) → 256 * k + 256 ≤ length xs → length (symbol_at k xs) ≡ 256
symbol_long k xs room = mid_len (256 * k) (256 * k + 256) xs room ∙ omega arith

-- their points
symbol_points : (k : ℕ) (is qs : List ℤ) → points_from (symbol_at k is) (symbol_at k qs) 1 210 ≡ points_from (drop (256 * k) is) (drop (256 * k) qs) 1 210
symbol_points k is qs =
    let e : 256 * k + 256 - 256 * k ≡ 256 = omega arith in
    rw e (points_take (drop (256 * k) is) (drop (256 * k) qs))

-- levels put there, where those before them are written
put_behind : (front old part : List ℤ) (k : ℕ) → length front ≡ 256 * k
    → put_mid (256 * k) (256 * k + 256 - 256 * k) (front ++ drop (256 * k) old) part ≡ (front ++ part) ++ drop (256 * (k + 1)) old
put_behind front old part k long =
    let all = front ++ drop (256 * k) old in
    let start : take (256 * k) all ≡ front = take_at front (drop (256 * k) old) (256 * k) long in
    let up : 256 * k + 256 ≡ 256 * (k + 1) = omega arith in
    let rest : drop (256 * k + 256) all ≡ drop (256 * (k + 1)) old
    = sym (drop-drop 256 (256 * k) all) ∙ ap (drop 256) (drop_at front (drop (256 * k) old) (256 * k) long) ∙ drop-drop 256 (256 * k) old
    ∙ ap (λ (n : ℕ). drop n old) up in
    rw (Post-is (256 * k) (256 * k + 256) all (omega arith), start, rest, append_assoc)

-- ---- OFDM symbols

module _ {one : List (List Point)} {tables : ℕ → List (List Point)} (g : Grows one tables) (is qs : List ℤ) where
  -- the levels of the OFDM symbol behind k others
  abbrev next_levels : (Point → ℤ) → ℕ → List ℤ
  next_levels level k = spread (map level (decided one (points_from (symbol_at k is) (symbol_at k qs) 1 210)))

  -- one OFDM symbol more
  levels_more : (level : Point → ℤ) (k : ℕ) → decided_levels level (tables (k + 1)) (k + 1) is qs ≡ decided_levels level (tables k) k is qs ++ next_levels level k
  levels_more level k =
      let first = received k is qs in
      let ps = points_from (symbol_at k is) (symbol_at k qs) 1 210 in
      let come : received (k + 1) is qs ≡ first ++ ps
      = received-add k 1 is qs ∙ ap (λ (l : List Point). first ++ l) (received-one (drop (256 * k) is) (drop (256 * k) qs) ∙ sym (symbol_points k is qs)) in
      let long : length first ≡ length (tables k) = length-received k is qs ∙ sym (g.all_long k) in
      let short : length ps ≡ length one = length_points (symbol_at k is) (symbol_at k qs) 1 210 ∙ sym g.long in
      ap₂ (λ (ts : List (List Point)) (rs : List Point). placed level (k + 1) (decided ts rs)) (g.more k) come
      ∙ ap (placed level (k + 1)) (decided-append (tables k) one first ps long)
      ∙ placed-append level k 1 (decided (tables k) first) (decided one ps) (length-decided (tables k) first long ∙ g.all_long k)
      ∙ ap (λ (l : List ℤ). decided_levels level (tables k) k is qs ++ l) (placed_one level (decided one ps) (length-decided one ps short ∙ g.long))

  -- the levels of k OFDM symbols are written over what was there
  abbrev Done : (Point → ℤ) → List ℤ → ℕ → List ℤ → Type 0
  Done level old k out = out ≡ decided_levels level (tables k) k is qs ++ drop (256 * k) old

  module _ (level : Point → ℤ) (old : List ℤ) where
    done_none : Done level old 0 old
    unfolding placed
    done_none = refl

    module _ (k : ℕ) {out : List ℤ} (done : Done level old k out) where
      done_long : 256 * k ≤ length old → length out ≡ length old
      done_long room =
          let front = decided_levels level (tables k) k is qs in
          ap length done ∙ length-append front (drop (256 * k) old)
          ∙ omega (arith, length-placed level k (decided (tables k) (received k is qs)), length-drop (256 * k) old)

      done_more : {part : List ℤ} → part ≡ next_levels level k → Done level old (k + 1) (put_mid (256 * k) (256 * k + 256 - 256 * k) out part)
      done_more {part} e =
          let front = decided_levels level (tables k) k is qs in
          ap₂ (put_mid (256 * k) (256 * k + 256 - 256 * k)) done e
          ∙ put_behind front old (next_levels level k) k (length-placed level k (decided (tables k) (received k is qs)))
          ∙ ap (λ (l : List ℤ). l ++ drop (256 * (k + 1)) old) (sym (levels_more level k))

-- ---- both lists

-- k of m OFDM symbols are decided
pub record Underway (tables : ℕ → List (List Point)) (m : ℕ) (is qs old_i old_q : List ℤ) (k : ℕ) (out_i out_q : List ℤ) : Type 0 where
  pub low : k ≤ m
  pub done_i : out_i ≡ decided_levels level_i (tables k) k is qs ++ drop (256 * k) old_i
  pub done_q : out_q ≡ decided_levels level_q (tables k) k is qs ++ drop (256 * k) old_q

module _ {one : List (List Point)} {tables : ℕ → List (List Point)} (g : Grows one tables)
    {m : ℕ} {is qs old_i old_q : List ℤ} (enough : Enough m is qs old_i old_q) where
  -- none at first
  pub underway_none : Underway tables m is qs old_i old_q 0 old_i old_q
  underway_none = record { low = omega arith; done_i = done_none g is qs level_i old_i; done_q = done_none g is qs level_q old_q }

  module _ {k : ℕ} {out_i out_q : List ℤ} (u : Underway tables m is qs old_i old_q k out_i out_q) where
    -- the lists are as long as they were
    pub same_i : length out_i ≡ length old_i
    same_i = done_long g is qs level_i old_i k u.done_i (omega (arith, u.low, enough.long_out_i))

    pub same_q : length out_q ≡ length old_q
    same_q = done_long g is qs level_q old_q k u.done_q (omega (arith, u.low, enough.long_out_q))

    -- all of them
    pub underway_all : m ≤ k
        → (out_i ≡ decided_levels level_i (tables m) m is qs ++ drop (256 * m) old_i) × (out_q ≡ decided_levels level_q (tables m) m is qs ++ drop (256 * m) old_q)
    underway_all end =
        let e : k ≡ m = omega (arith, u.low) in
        (rw e at u.done_i, rw e at u.done_q)

    -- one more
    module _ (next : k < m) where
      -- there is room for it
      room_in_i : 256 * k + 256 ≤ length is
      room_in_i = omega (arith, enough.long_i)

      room_in_q : 256 * k + 256 ≤ length qs
      room_in_q = omega (arith, enough.long_q)

      pub room_i : 256 * k + 256 ≤ length out_i
      room_i = omega (arith, same_i, enough.long_out_i)

      pub room_q : 256 * k + 256 ≤ length out_q
      room_q = omega (arith, same_q, enough.long_out_q)

      pub symbol_there : Symbol (symbol_at k is) (symbol_at k qs) (symbol_at k out_i) (symbol_at k out_q)
      symbol_there = record {
        long_i = symbol_long k is room_in_i;
        long_q = symbol_long k qs room_in_q;
        long_out_i = symbol_long k out_i room_i;
        long_out_q = symbol_long k out_q room_q;
      }

      pub underway_more : {part_i part_q : List ℤ}
          → part_i ≡ spread (map level_i (decided one (points_from (symbol_at k is) (symbol_at k qs) 1 210)))
          → part_q ≡ spread (map level_q (decided one (points_from (symbol_at k is) (symbol_at k qs) 1 210)))
          → Underway tables m is qs old_i old_q (k + 1) (put_mid (256 * k) (256 * k + 256 - 256 * k) out_i part_i)
          (put_mid (256 * k) (256 * k + 256 - 256 * k) out_q part_q)
      underway_more ei eq = record {
        low = omega arith;
        done_i = done_more g is qs level_i old_i k u.done_i ei;
        done_q = done_more g is qs level_q old_q k u.done_q eq;
      }
