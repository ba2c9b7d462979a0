-- One OFDM symbol decided by halves: point after point in each, the sub-carriers between them emptied, and that this is what was to come out.
-- Assumes nothing.
use mathlib.Core.Path.{◌≡◌, sym, ap, subst, ◌∙◌}
use mathlib.Core.List.{List, [], ◌++◌, map}
use Prim.Native.Nat.{ℕ, suc, ◌+◌, ◌-◌, ◌≤◌, ◌<◌}
use native.Mathlib.Decide.{dec_le}
use native.Mathlib.Omega.{arith}
use borrow.Author.Count.{below_none, below_more}
use borrow.Rule.Slice.PartMut.{mid_of, put_mid, post_of, same_len_mid, mid_len}
use lib.IntN.{ℤ, pos}
use lib.ListN.{length, get_or, set, take, drop, replicate, length-set, length-drop, length-replicate, get_or-replicate, get_or-append, get_or-map}
use lib.Seq.{get_or-set_same, get_or-set_other, get_or-take, get_or-drop, get_or-append-add, length-take-le, ext_get_or}
use Rattle.points.specs.declared.Point.{Point}
use Rattle.points.specs.declared.Point.TheVariants.{Nothing}
use Rattle.points.specs.Constellations.{level_i, level_q}
use Rattle.nearest.specs.Nearest.{nearest}
use Rattle.symbols.specs.declared.Carrier.{Carrier}
use Rattle.symbols.specs.declared.Carrier.TheVariants.{Holds, Empty}
use Rattle.symbols.specs.Grid.{carrier_at, carrier_of}
use Rattle.symbols.specs.Grids.{level_on, spread, point_at, points_from}
use Rattle.symbols.proofs.Placement.{carrier_zero, carrier_low, carrier_middle, carrier_high, place_carrier}
use Rattle.symbols.proofs.Readings.{length_points, points_at}
use Rattle.symbols.proofs.Placings.{length-spread, spread_at}
use Rattle.symbols.proofs.Looks.{part_at}
use Rattle.decisions.specs.Decided.{decided}
use Rattle.decisions.proofs.Tables.{decided_at}
use Rattle.decider.specs.Parts.{FirstDecided, Cleared, emptied}

-- ---- half an OFDM symbol, point after point

module _ (level : Point → ℤ) (table : ℕ → List Point) (is qs : List ℤ) where
  -- before the first point
  pub decided_none : (out : List ℤ) → length out ≡ 105 → FirstDecided level table is qs 0 out
  decided_none out long = record { long = long; each = below_none _ }

  -- one point more: its level is put at its place
  pub decided_more : (out : List ℤ) (s : ℕ) (x : ℤ) → s < 105 → x ≡ level (nearest (table s) (get_or is s (pos 0)) (get_or qs s (pos 0)))
      → FirstDecided level table is qs s out → FirstDecided level table is qs (s + 1) (set out s x)
  decided_more out s x l e d = record {
    long = length-set out s x ∙ d.long;
    each = below_more (λ t. get_or (set out s x) t (pos 0) ≡ level (nearest (table t) (get_or is t (pos 0)) (get_or qs t (pos 0)))) s
        (λ t h. get_or-set_other out s t x (pos 0) (λ same. omega arith) ∙ d.each t h)
        (get_or-set_same out s x (pos 0) (omega (arith, d.long)) ∙ e);
  }

  -- all of them
  pub decided_all : (out : List ℤ) (s : ℕ) → 105 ≤ s → FirstDecided level table is qs s out → FirstDecided level table is qs 105 out
  decided_all out s h d = record { long = d.long; each = λ t l. d.each t (omega arith) }

-- ---- a list with a part of it written

module _ {A : Type 0} (a n : ℕ) (xs ys : List A) (fits : a + n ≤ length xs) (long : length ys ≡ n) where
  long_before : length (take a xs) ≡ a
  long_before = length-take-le a xs (omega arith)

  put_long : length (put_mid a n xs ys) ≡ length xs
  put_long =
      let part : length (take n (drop a xs)) ≡ n = length-take-le n (drop a xs) (rw length-drop (omega arith)) in
      same_len_mid a n xs ys (long ∙ sym part)

  -- what stands before the part, in it, and behind it
  put_before : (d : A) (k : ℕ) → k < a → get_or (put_mid a n xs ys) k d ≡ get_or xs k d
  put_before d k h = get_or-append (take a xs) (ys ++ post_of a n xs) d k (omega (arith, long_before)) ∙ get_or-take a xs k d h

  put_here : (d : A) (k : ℕ) → k < n → get_or (put_mid a n xs ys) (a + k) d ≡ get_or ys k d
  put_here d k h =
      ap (λ (j : ℕ). get_or (put_mid a n xs ys) (j + k) d) (sym long_before)
      ∙ get_or-append-add (take a xs) (ys ++ post_of a n xs) k d ∙ get_or-append ys (post_of a n xs) d k (omega arith)

  put_behind : (d : A) (k : ℕ) → a + n ≤ k → get_or (put_mid a n xs ys) k d ≡ get_or xs k d
  put_behind d k h =
      let j = k - (a + n) in
      let there : k ≡ length (take a xs) + (length ys + j) = omega (arith, long_before) in
      let back : a + (n + j) ≡ k = omega arith in
      ap (λ (i : ℕ). get_or (put_mid a n xs ys) i d) there
      ∙ get_or-append-add (take a xs) (ys ++ post_of a n xs) (length ys + j) d ∙ get_or-append-add ys (post_of a n xs) j d
      ∙ get_or-drop n (drop a xs) j d ∙ get_or-drop a xs (n + j) d ∙ ap (λ (i : ℕ). get_or xs i d) back

-- ---- the sub-carriers between the halves

module _ (out first middle : List ℤ) (wide : length out ≡ 256) (one : first ≡ replicate 1 (pos 0)) (rest : middle ≡ replicate 45 (pos 0)) where
  abbrev begun : List ℤ
  begun = put_mid 0 1 out first

  abbrev emptied_both : List ℤ
  emptied_both = put_mid 106 45 begun middle

  long_first : length first ≡ 1
  long_first = ap length one ∙ length-replicate 1 (pos 0)

  long_middle : length middle ≡ 45
  long_middle = ap length rest ∙ length-replicate 45 (pos 0)

  long_begun : length begun ≡ 256
  long_begun = put_long 0 1 out first (omega arith) long_first ∙ wide

  -- they are 0, and the others stay
  cleared_each : (k : ℕ) → k < 256 → get_or emptied_both k (pos 0) ≡ emptied (carrier_at k) (get_or out k (pos 0))
  cleared_each k h = by (dec_le 1 k) (dec_le 106 k) (dec_le 151 k)
    where
      kept : (s : ℕ) → carrier_at k ≡ Holds s → get_or emptied_both k (pos 0) ≡ get_or out k (pos 0)
          → get_or emptied_both k (pos 0) ≡ emptied (carrier_at k) (get_or out k (pos 0))
      kept s e same = same ∙ sym (ap (λ (c : Carrier). emptied c (get_or out k (pos 0))) e)

      none : carrier_at k ≡ Empty → get_or emptied_both k (pos 0) ≡ pos 0 → get_or emptied_both k (pos 0) ≡ emptied (carrier_at k) (get_or out k (pos 0))
      none e zero = zero ∙ sym (ap (λ (c : Carrier). emptied c (get_or out k (pos 0))) e)

      behind : 1 ≤ k → get_or begun k (pos 0) ≡ get_or out k (pos 0)
      behind a = put_behind 0 1 out first (omega arith) long_first (pos 0) k (omega arith)

      by : Dec (1 ≤ k) → Dec (106 ≤ k) → Dec (151 ≤ k) → get_or emptied_both k (pos 0) ≡ emptied (carrier_at k) (get_or out k (pos 0))
      by (no a) b c =
          let e : k ≡ 0 = omega arith in
          none (ap carrier_at e ∙ carrier_zero)
          (put_before 106 45 begun middle (omega (arith, long_begun)) long_middle (pos 0) k (omega arith)
          ∙ ap (λ (j : ℕ). get_or begun j (pos 0)) e
          ∙ put_here 0 1 out first (omega arith) long_first (pos 0) 0 (omega arith)
          ∙ ap (λ (w : List ℤ). get_or w 0 (pos 0)) one)
      by (yes a) (no b) c =
          kept (k + 105) (carrier_low k a (omega arith))
          (put_before 106 45 begun middle (omega (arith, long_begun)) long_middle (pos 0) k (omega arith) ∙ behind a)
      by (yes a) (yes b) (no c) =
          let e : k ≡ 106 + (k - 106) = omega arith in
          none (carrier_middle k b (omega arith))
          (ap (λ (j : ℕ). get_or emptied_both j (pos 0)) e
          ∙ put_here 106 45 begun middle (omega (arith, long_begun)) long_middle (pos 0) (k - 106) (omega arith)
          ∙ ap (λ (w : List ℤ). get_or w (k - 106) (pos 0)) rest ∙ get_or-replicate 45 (k - 106) (pos 0) (pos 0) (omega arith))
      by (yes a) (yes b) (yes c) =
          kept (k - 150) (carrier_high k c (omega arith))
          (put_behind 106 45 begun middle (omega (arith, long_begun)) long_middle (pos 0) k (omega arith) ∙ behind a)

  all_cleared : Cleared out emptied_both
  all_cleared = record { long = put_long 106 45 begun middle (omega (arith, long_begun)) long_middle ∙ long_begun; each = cleared_each }

-- two parts of zeros, as the code puts them, empty what is to be empty
pub both_cleared : (out first middle : List ℤ) → length out ≡ 256 → first ≡ replicate (length (mid_of 0 1 out)) (pos 0)
    → middle ≡ replicate (length (mid_of 106 45 (put_mid 0 1 out first))) (pos 0) → Cleared out (put_mid 106 45 (put_mid 0 1 out first) middle)
both_cleared out first middle wide one rest =
    let zeros : ℕ → List ℤ = λ n. replicate n (pos 0) in
    let once = one ∙ ap zeros (mid_len 0 1 out (omega arith)) in
    let long : length (put_mid 0 1 out first) ≡ 256 = put_long 0 1 out first (omega arith) (ap length once ∙ length-replicate 1 (pos 0)) ∙ wide in
    all_cleared out first middle wide once (rest ∙ ap zeros (mid_len 106 151 (put_mid 0 1 out first) (omega arith)))

-- ---- one OFDM symbol

module _ (level : Point → ℤ) (none : level Nothing ≡ pos 0) (tables : List (List Point)) (many : length tables ≡ 210) (is qs : List ℤ) where
  -- what is to come out
  abbrev levels : List ℤ
  levels = map level (decided tables (points_from is qs 1 210))

  -- the level of the point at sub-carrier k
  abbrev near : ℕ → ℕ → ℤ
  near s k = level (nearest (get_or tables s []) (get_or is k (pos 0)) (get_or qs k (pos 0)))

  near_at : (s : ℕ) → s < 210 → level_on levels (Holds (suc s)) ≡ near s (carrier_of (suc s))
  near_at s h =
      let ps = points_from is qs 1 210 in
      let one : 1 + s ≡ suc s = omega arith in
      let here = points_at is qs 1 210 s h ∙ ap (λ (t : ℕ). point_at is qs (carrier_of t)) one in
      ap (get_or levels s) (sym none) ∙ get_or-map level (decided tables ps) s Nothing
      ∙ ap level (decided_at tables ps s (omega arith) (omega (arith, length_points is qs 1 210)))
      ∙ ap (λ (p : Point). level (nearest (get_or tables s []) (level_i p) (level_q p))) here

  module _ {first second : ℕ → List Point} (out high low after : List ℤ) (wide : length out ≡ 256)
      (first_same : (s : ℕ) → s < 105 → first s ≡ get_or tables s []) (second_same : (s : ℕ) → s < 105 → second s ≡ get_or tables (105 + s) [])
      (highs : FirstDecided level first (take 105 (drop 151 is)) (take 105 (drop 151 qs)) 105 high)
      (lows : FirstDecided level second (take 105 (drop 1 is)) (take 105 (drop 1 qs)) 105 low)
      (cleared : Cleared (put_mid 1 105 (put_mid 151 105 out high) low) after) where
    abbrev begun_high : List ℤ
    begun_high = put_mid 151 105 out high

    abbrev written : List ℤ
    written = put_mid 1 105 begun_high low

    long_high : length begun_high ≡ 256
    long_high = put_long 151 105 out high (omega arith) highs.long ∙ wide

    -- a point of each half
    at_high : (s : ℕ) → s < 105 → get_or written (151 + s) (pos 0) ≡ near s (151 + s)
    at_high s h =
        put_behind 1 105 begun_high low (omega (arith, long_high)) lows.long (pos 0) (151 + s) (omega arith)
        ∙ put_here 151 105 out high (omega arith) highs.long (pos 0) s h ∙ highs.each s h
        ∙ rw (first_same s h, part_at is 151 105 s (pos 0) h, part_at qs 151 105 s (pos 0) h)

    at_low : (s : ℕ) → s < 105 → get_or written (1 + s) (pos 0) ≡ near (105 + s) (1 + s)
    at_low s h =
        put_here 1 105 begun_high low (omega (arith, long_high)) lows.long (pos 0) s h ∙ lows.each s h
        ∙ rw (second_same s h, part_at is 1 105 s (pos 0) h, part_at qs 1 105 s (pos 0) h)

    -- a sub-carrier that holds a point, and one that holds none
    held : (k s : ℕ) → k < 256 → s < 210 → carrier_at k ≡ Holds (suc s) → get_or written k (pos 0) ≡ near s k
        → get_or after k (pos 0) ≡ get_or (spread levels) k (pos 0)
    held k s h l e there =
        cleared.each k h ∙ ap (λ (c : Carrier). emptied c (get_or written k (pos 0))) e ∙ there
        ∙ sym (spread_at levels k h ∙ ap (level_on levels) e ∙ near_at s l ∙ ap (near s) (place_carrier k (suc s) e).0)

    empty : (k : ℕ) → k < 256 → carrier_at k ≡ Empty → get_or after k (pos 0) ≡ get_or (spread levels) k (pos 0)
    empty k h e =
        cleared.each k h ∙ ap (λ (c : Carrier). emptied c (get_or written k (pos 0))) e ∙ sym (spread_at levels k h ∙ ap (level_on levels) e)

    each_level : (k : ℕ) → k < 256 → get_or after k (pos 0) ≡ get_or (spread levels) k (pos 0)
    each_level k h = by (dec_le 1 k) (dec_le 106 k) (dec_le 151 k)
      where
        by : Dec (1 ≤ k) → Dec (106 ≤ k) → Dec (151 ≤ k) → get_or after k (pos 0) ≡ get_or (spread levels) k (pos 0)
        by (no a) b c = let e : k ≡ 0 = omega arith in empty k h (ap carrier_at e ∙ carrier_zero)
        by (yes a) (no b) c =
            let e : 1 + (k - 1) ≡ k = omega arith in
            held k (105 + (k - 1)) h (omega arith) (carrier_low k a (omega arith) ∙ ap Holds (omega arith))
            (subst (λ (j : ℕ). get_or written j (pos 0) ≡ near (105 + (k - 1)) j) e (at_low (k - 1) (omega arith)))
        by (yes a) (yes b) (no c) = empty k h (carrier_middle k b (omega arith))
        by (yes a) (yes b) (yes c) =
            let e : 151 + (k - 151) ≡ k = omega arith in
            held k (k - 151) h (omega arith) (carrier_high k c (omega arith) ∙ ap Holds (omega arith))
            (subst (λ (j : ℕ). get_or written j (pos 0) ≡ near (k - 151) j) e (at_high (k - 151) (omega arith)))

    -- the two halves, put and emptied between, are the points decided on their sub-carriers
    pub symbol_decided : after ≡ spread levels
    symbol_decided = ext_get_or (pos 0) after (spread levels) (cleared.long ∙ sym (length-spread levels)) (λ k h. each_level k (omega (arith, cleared.long)))
