-- OFDM symbols by DQPSK: the phases of one, read in halves, and the last of them; and that where no point is stray, what is read is what document 01 says.
-- Assumes nothing.
use mathlib.Core.Path.{◌≡◌, refl, sym, ap, ap₂, ◌∙◌}
use mathlib.Core.Bool.{Bool, true, false, cond}
use mathlib.Core.List.{List, [], ◌∷◌, ◌++◌, map, append-nil}
use Prim.Native.Nat.{ℕ, suc, ◌+◌, ◌-◌, ◌*◌, ◌≤◌, ◌<◌}
use native.Mathlib.Decide.{dec_le}
use native.Mathlib.Omega.{arith}
use borrow.Rule.Slice.PartMut.{put_mid}
use lib.IntN.{ℤ, pos}
use lib.ListN.{length, get_or, take, drop, length-append, length-map, drop_of_length-le, get_or-append, get_or-map}
use lib.Seq.{take_at, drop_at, ext_get_or}
use Rattle.ground.specs.First.{first_in}
use Rattle.points.specs.declared.Point.{Point}
use Rattle.points.specs.declared.Point.TheVariants.{Nothing}
use Rattle.points.specs.Constellations.{label_number, is_stray, level_i, level_q}
use Rattle.points.specs.Dqpsk.{phase_of, dibits_from, stray_at}
use Rattle.points.specs.Lent.{phase_read}
use Rattle.points.proofs.Turns.{phase_read_lem}
use Rattle.symbols.specs.Grid.{carrier_of}
use Rattle.symbols.specs.Grids.{points_from}
use Rattle.symbols.specs.ByPhase.{phases_read, dibits_between, last_of}
use Rattle.symbols.proofs.Placement.{carrier_of_low, carrier_of_high}
use Rattle.symbols.proofs.Indices.{get_or_behind}
use Rattle.symbols.proofs.Readings.{length_points, points_at}
use Rattle.symbols.proofs.Looks.{part_at}

-- ---- the phases of one OFDM symbol

-- the phase that a point is read as
abbrev pub read_as : Point → ℕ
read_as p = phase_read (level_i p) (level_q p)

-- and that of the levels at k of two lists
abbrev read_at : List ℤ → List ℤ → ℕ → ℕ
read_at is qs k = phase_read (get_or is k (pos 0)) (get_or qs k (pos 0))

pub length_phases : (is qs : List ℤ) → length (phases_read is qs) ≡ 210
unfolding phases_read
length_phases is qs = length-map (points_from is qs 1 210) read_as ∙ length_points is qs 1 210

phases_at : (is qs : List ℤ) (s : ℕ) → s < 210 → get_or (phases_read is qs) s 0 ≡ read_at is qs (carrier_of (suc s))
unfolding phases_read phase_read
phases_at is qs s h =
    let one : 1 + s ≡ suc s = omega arith in
    get_or-map read_as (points_from is qs 1 210) s Nothing ∙ ap read_as (points_at is qs 1 210 s h) ∙ ap (λ (t : ℕ). read_at is qs (carrier_of t)) one

-- the phases that the 105 points from k on are read as
abbrev Half : List ℤ → List ℤ → ℕ → List ℕ → Type 0
Half is qs k half = (s : ℕ) → s < 105 → get_or half s 0 ≡ read_at (take 105 (drop k is)) (take 105 (drop k qs)) s

half_at : (is qs : List ℤ) (k : ℕ) (half : List ℕ) → Half is qs k half → (s : ℕ) → s < 105 → get_or half s 0 ≡ read_at is qs (k + s)
half_at is qs k half there s h =
    there s h
    ∙ ap₂ phase_read (part_at is k 105 s (pos 0) h) (part_at qs k 105 s (pos 0) h)

-- s(1) to s(105) stand on the sub-carriers from 151 on, s(106) to s(210) on those from 1 on
module _ (is qs : List ℤ) (first second : List ℕ) (first_long : length first ≡ 105) (second_long : length second ≡ 105)
    (high : Half is qs 151 first) (low : Half is qs 1 second) where
  both_at : (s : ℕ) → s < 210 → get_or (first ++ second) s 0 ≡ read_at is qs (carrier_of (suc s))
  both_at s h = by (dec_le 105 s)
    where
      by : Dec (105 ≤ s) → get_or (first ++ second) s 0 ≡ read_at is qs (carrier_of (suc s))
      by (no l) =
          let k : 151 + s ≡ carrier_of (suc s) = omega (arith, carrier_of_low (suc s) (omega arith) (omega arith)) in
          get_or-append first second 0 s (omega arith) ∙ half_at is qs 151 first high s (omega arith) ∙ ap (read_at is qs) k
      by (yes l) =
          let k : 1 + (s - 105) ≡ carrier_of (suc s) = omega (arith, carrier_of_high (suc s) (omega arith) (omega arith)) in
          let behind : s ≡ 105 + (s - 105) = omega arith in
          ap (λ (t : ℕ). get_or (first ++ second) t 0) behind ∙ get_or_behind first second 105 (s - 105) 0 first_long
          ∙ half_at is qs 1 second low (s - 105) (omega arith) ∙ ap (read_at is qs) k

  halves_both : first ++ second ≡ phases_read is qs
  halves_both =
      let long : length (first ++ second) ≡ 210 = length-append first second ∙ omega arith in
      ext_get_or 0 (first ++ second) (phases_read is qs) (long ∙ sym (length_phases is qs))
      (λ s h. let l : s < 210 = omega arith in both_at s l ∙ sym (phases_at is qs s l))

  -- the second put behind the first
  pub halves_read : (rest : List ℕ) → length rest ≡ 105 → put_mid 105 105 (first ++ rest) second ≡ phases_read is qs
  halves_read rest e =
      let none : length rest ≤ 105 = omega arith in
      rw (take_at first rest 105 first_long, drop_at first rest 105 first_long, drop_of_length-le rest none, append-nil second) halves_both

last_at : (phase : ℕ) (phases : List ℕ) → last_of phase phases ≡ get_or (phase ∷ phases) (length phases) 0
unfolding last_of
last_at phase [] = refl
last_at phase (to ∷ rest) = last_at to rest

-- the last of 210
pub last_read : (phase : ℕ) (is qs : List ℤ) → last_of phase (phases_read is qs) ≡ get_or (phases_read is qs) 209 0
last_read phase is qs = last_at phase (phases_read is qs) ∙ ap (λ (n : ℕ). get_or (phase ∷ phases_read is qs) n 0) (length_phases is qs)

-- ---- their bits

pub length_between : (phase : ℕ) (phases : List ℕ) → length (dibits_between phase phases) ≡ 2 * length phases
unfolding dibits_between
length_between phase [] = refl
length_between phase (to ∷ rest) = omega (arith, length_between to rest)

-- the phase is carried on from phases to those behind them
pub between_append : (phase : ℕ) (a b : List ℕ) → dibits_between phase (a ++ b) ≡ dibits_between phase a ++ dibits_between (last_of phase a) b
unfolding dibits_between last_of
between_append phase [] b = refl
between_append phase (to ∷ a) b = rw (between_append to a b)

-- the phase of a point, 0 for a stray one
abbrev phase_number : Point → ℕ
phase_number p = label_number (phase_of (level_i p) (level_q p))

between_phases : (phase : ℕ) (ps : List Point) → dibits_between phase (map phase_number ps) ≡ dibits_from phase ps
unfolding dibits_between dibits_from
between_phases phase [] = refl
between_phases phase (p ∷ ps) = rw (between_phases (phase_number p) ps)

-- legal points are read as their phases
legal_phases : (ps : List Point) → stray_at ps ≡ length ps → map read_as ps ≡ map phase_number ps
unfolding first_in
legal_phases [] e = refl
legal_phases (p ∷ ps) e = by (is_stray (phase_of (level_i p) (level_q p))) refl e (legal_phases ps)
  where
    by : (stray : Bool) → is_stray (phase_of (level_i p) (level_q p)) ≡ stray → cond stray 0 (suc (stray_at ps)) ≡ suc (length ps)
        → (stray_at ps ≡ length ps → map read_as ps ≡ map phase_number ps) → map read_as (p ∷ ps) ≡ map phase_number (p ∷ ps)
    by true r e rest = absurd (omega arith)
    by false r e rest = ap₂ ◌∷◌ (sym (phase_read_lem (level_i p) (level_q p) r)) (rest (omega arith))

-- so their bits are those of the turns between what they are read as
pub legal_dibits : (phase : ℕ) (ps : List Point) → stray_at ps ≡ length ps → dibits_between phase (map read_as ps) ≡ dibits_from phase ps
legal_dibits phase ps e = ap (dibits_between phase) (legal_phases ps e) ∙ between_phases phase ps

-- an OFDM symbol without a stray point is read as document 01 says
pub read_dibits : (is qs : List ℤ) (phase : ℕ) → stray_at (points_from is qs 1 210) ≡ length (points_from is qs 1 210)
    → dibits_between phase (phases_read is qs) ≡ dibits_from phase (points_from is qs 1 210)
unfolding phases_read
read_dibits is qs phase e = legal_dibits phase (points_from is qs 1 210) e
