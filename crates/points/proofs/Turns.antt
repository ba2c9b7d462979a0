-- DQPSK: the turns are Table 1, and bits and points give each other back.
-- Assumes nothing.
use mathlib.Core.Path.{◌≡◌, refl, sym, ap, ◌∙◌}
use mathlib.Core.Bool.{Bool, true, false, cond, true≢false}
use mathlib.Core.List.{List, [], ◌∷◌, map}
use Prim.Native.Nat.{ℕ, zero, suc, ◌+◌, ◌-◌, ◌*◌, ◌/◌, ◌%◌, ◌<◌}
use native.Mathlib.Nat.{mod-lt}
use native.Mathlib.Omega.{arith}
use lib.Dec.{T, eqb, lit<}
use lib.IntN.{ℤ, pos, negsuc, nat_abs}
use lib.ListN.{length, get_or}
use Rattle.std.specs.Prelude.{Option, Some, None}
use Rattle.points.specs.declared.Point.{Point}
use Rattle.points.specs.declared.Point.TheVariants.{At, Nothing}
use Rattle.points.specs.Constellations.{label_at, next, label_number, is_at, is_stray, level_i, level_q}
use Rattle.points.specs.Lent.{phase_read, confirmed}
use Rattle.points.specs.Dqpsk.{table1, phases, turns, turn, dibit_to, phase_point, phase_of, turned_from, turned, dibits_from, dibits, phase_at, stray_at, after}
use Rattle.bits.specs.Words.{Bits}
use Rattle.ground.specs.First.{first_in}
use Rattle.ground.proofs.Tests.{all, all_at, all_equal}
use Rattle.ground.proofs.Firsts.{first}
use Rattle.points.proofs.Places.{Tells, tells, tells_is, look_again, point_of_label, in_list, none_there}

-- ---- the phase of a point

read_test : T (tells phase_read phases)
unfolding phase_read phases
read_test = tt

read_tells : Tells phase_read phases
read_tells = tells_is phase_read phases read_test

pub phase_again : (i q : ℤ) → confirmed (phase_point (phase_read i q)) (phase_read i q) i q ≡ phase_of i q
unfolding phase_point phase_of
phase_again i q = look_again phase_read phases read_tells i q

-- that of a point of DQPSK is what the point is read as
pub phase_read_lem : (i q : ℤ) → is_stray (phase_of i q) ≡ false → label_number (phase_of i q) ≡ phase_read i q
phase_read_lem i q kept = ap label_number (sym (phase_again i q)) ∙ by (is_at (phase_point (phase_read i q)) i q) (ap is_stray (phase_again i q) ∙ kept)
  where
    by : (there : Bool) → is_stray (cond there (Some (phase_read i q)) None) ≡ false → label_number (cond there (Some (phase_read i q)) None) ≡ phase_read i q
    by true e = refl
    by false e = absurd (true≢false e)

-- levels whose sizes are 0 and 1 are those of a point of DQPSK
pub single_legal : (i q : ℤ) → nat_abs i + nat_abs q ≡ 1 → is_stray (phase_of i q) ≡ false
unfolding phase_of phases label_at next
single_legal (pos zero) (pos (suc zero)) e = refl
single_legal (pos zero) (negsuc zero) e = refl
single_legal (pos (suc zero)) (pos zero) e = refl
single_legal (negsuc zero) (pos zero) e = refl
single_legal (pos zero) (pos zero) e = absurd (omega arith)
single_legal (pos zero) (pos (suc (suc m))) e = absurd (omega arith)
single_legal (pos zero) (negsuc (suc m)) e = absurd (omega arith)
single_legal (pos (suc zero)) (pos (suc m)) e = absurd (omega arith)
single_legal (pos (suc zero)) (negsuc m) e = absurd (omega arith)
single_legal (pos (suc (suc n))) q e = absurd (omega arith)
single_legal (negsuc zero) (pos (suc m)) e = absurd (omega arith)
single_legal (negsuc zero) (negsuc m) e = absurd (omega arith)
single_legal (negsuc (suc n)) q e = absurd (omega arith)

point_of_phase : (i q : ℤ) (phase : ℕ) → phase_of i q ≡ Some phase → phase_point phase ≡ At i q
unfolding phase_point phase_of
point_of_phase i q phase e = point_of_label phases i q phase e

-- ---- Table 1

-- all sixteen entries
pub turns_table :
    map (λ r. (r.0, after r.0 0b00, after r.0 0b01, after r.0 0b10, after r.0 0b11)) table1 ≡ table1
unfolding after phase_point turn phase_of phases label_at next
turns_table = refl

-- ---- phases and dibits

pub turn-lt : (phase dibit : ℕ) → turn phase dibit < 4
unfolding turn
turn-lt phase dibit = mod-lt (phase + _) (lit< tt)

-- f and g agree at each pair of numbers below 4
pairs_equal : (f g : ℕ → ℕ → ℕ) → T (all 4 (λ a. all 4 (λ b. eqb (f a b) (g a b)))) →
    (a b : ℕ) → a < 4 → b < 4 → f a b ≡ g a b
pairs_equal f g t a b ha hb = all_equal 4 (f a) (g a) (all_at 4 (λ a. all 4 (λ b. eqb (f a b) (g a b))) t a ha) b hb

back_test : T (all 4 (λ p. all 4 (λ d. eqb (dibit_to p (turn p d)) d)))
unfolding turn dibit_to
back_test = tt

-- the dibit read is the dibit that was turned by, and back
dibit_turn : (phase dibit : ℕ) → phase < 4 → dibit < 4 → dibit_to phase (turn phase dibit) ≡ dibit
dibit_turn = pairs_equal (λ p d. dibit_to p (turn p d)) (λ p d. d) back_test

forth_test : T (all 4 (λ p. all 4 (λ r. eqb (turn p (dibit_to p r)) r)))
unfolding turn dibit_to
forth_test = tt

turn_dibit : (phase to : ℕ) → phase < 4 → to < 4 → turn phase (dibit_to phase to) ≡ to
turn_dibit = pairs_equal (λ p r. turn p (dibit_to p r)) (λ p r. r) forth_test

-- ---- a frame's bits, turned into points and read back

phase_of_point : (phase : ℕ) → phase < 4 → phase_of (level_i (phase_point phase)) (level_q (phase_point phase)) ≡ Some phase
unfolding phase_of phase_point phases label_at next
phase_of_point zero h = refl
phase_of_point (suc zero) h = refl
phase_of_point (suc (suc zero)) h = refl
phase_of_point (suc (suc (suc zero))) h = refl
phase_of_point (suc (suc (suc (suc n)))) h = absurd (omega arith)

dibits_turned_from : (bits : List ℕ) (m phase : ℕ) → phase < 4 → length bits ≡ 2 * m → Bits bits →
    dibits_from phase (turned_from phase bits) ≡ bits
unfolding turned_from dibits_from
dibits_turned_from [] m phase h e each = refl
dibits_turned_from (b ∷ []) m phase h e each = absurd (omega arith)
dibits_turned_from (b ∷ (c ∷ bits)) zero phase h e each = absurd (omega arith)
dibits_turned_from (b ∷ (c ∷ bits)) (suc m) phase h e each =
    let first : b < 2 = each.0 in
    let second : c < 2 = each.1.0 in
    let to = turn phase (2 * b + c) in
    let d : dibit_to phase to ≡ 2 * b + c = dibit_turn phase (2 * b + c) h (omega arith) in
    let b_back : (2 * b + c) / 2 ≡ b = omega arith in
    let c_back : (2 * b + c) % 2 ≡ c = omega arith in
    let small = turn-lt phase (2 * b + c) in
    let rest = dibits_turned_from bits m to small (omega arith) each.1.1 in
    rw (phase_of_point to small, d, b_back, c_back, rest)

-- an even number of bits comes back from the points that it was turned into
pub dibits-turned : (bits : List ℕ) (m : ℕ) → length bits ≡ 2 * m → Bits bits → dibits (turned bits) ≡ bits
unfolding dibits turned
dibits-turned bits m e each = dibits_turned_from bits m 0 (lit< tt) e each

-- ---- legal points, read and turned again

phase_lt : (i q : ℤ) (phase : ℕ) → phase_of i q ≡ Some phase → phase < 4
unfolding phase_of phases
phase_lt i q phase e = in_list phases i q phase (point_of_label phases i q phase e)

-- the legal point of a phase
legal : (p : Point) (phase : ℕ) → phase_of (level_i p) (level_q p) ≡ Some phase → phase_point phase ≡ p
unfolding phase_of phases label_at next
legal (At i q) phase e = point_of_phase i q phase e
legal Nothing phase e = none_there e

step : (p : Point) (ps : List Point) (phase : ℕ) → phase < 4 →
    ((to : ℕ) → to < 4 → stray_at ps ≡ length ps → turned_from to (dibits_from to ps) ≡ ps) →
    (l : Option ℕ) → phase_of (level_i p) (level_q p) ≡ l → cond (is_stray l) 0 (suc (stray_at ps)) ≡ suc (length ps) →
    turned_from phase (dibits_from phase (p ∷ ps)) ≡ p ∷ ps
unfolding turned_from dibits_from
step p ps phase h later (Some to) r e =
    let k = phase_lt (level_i p) (level_q p) to r in
    let d = dibit_to phase to in
    let whole : 2 * (d / 2) + d % 2 ≡ d = omega arith in
    rw (r, whole, turn_dibit phase to h k, legal p to r, later to k (omega arith))
step p ps phase h later None r e = absurd (omega arith)

turned_dibits_from : (ps : List Point) (phase : ℕ) → phase < 4 → stray_at ps ≡ length ps →
    turned_from phase (dibits_from phase ps) ≡ ps
unfolding turned_from dibits_from first_in
turned_dibits_from [] phase h e = refl
turned_dibits_from (p ∷ ps) phase h e =
    step p ps phase h (λ to k. turned_dibits_from ps to k) (phase_of (level_i p) (level_q p)) refl e

-- legal points are those that the bits read from them are turned into
pub turned-dibits : (ps : List Point) → stray_at ps ≡ length ps → turned (dibits ps) ≡ ps
unfolding dibits turned
turned-dibits ps e = turned_dibits_from ps 0 (lit< tt) e

-- ---- how many there are, and that what is sent is legal

length-turned_from : (bits : List ℕ) (m phase : ℕ) → length bits ≡ 2 * m → length (turned_from phase bits) ≡ m
unfolding turned_from
length-turned_from [] m phase e = omega arith
length-turned_from (b ∷ []) m phase e = absurd (omega arith)
length-turned_from (b ∷ (c ∷ bits)) zero phase e = absurd (omega arith)
length-turned_from (b ∷ (c ∷ bits)) (suc m) phase e =
    ap suc (length-turned_from bits m (turn phase (2 * b + c)) (omega arith))

pub length-turned : (bits : List ℕ) (m : ℕ) → length bits ≡ 2 * m → length (turned bits) ≡ m
unfolding turned
length-turned bits m e = length-turned_from bits m 0 e

legal_turned_from : (bits : List ℕ) (phase : ℕ) → stray_at (turned_from phase bits) ≡ length (turned_from phase bits)
unfolding turned_from first_in
legal_turned_from [] phase = refl
legal_turned_from (b ∷ []) phase = refl
legal_turned_from (b ∷ (c ∷ bits)) phase =
    let to = turn phase (2 * b + c) in
    rw (phase_of_point to (turn-lt phase (2 * b + c)), legal_turned_from bits to)

-- no point that bits are turned into is stray
pub legal_turned : (bits : List ℕ) → stray_at (turned bits) ≡ length (turned bits)
unfolding turned
legal_turned bits = legal_turned_from bits 0

pub length-dibits_from : (ps : List Point) (phase : ℕ) → length (dibits_from phase ps) ≡ 2 * length ps
unfolding dibits_from
length-dibits_from [] phase = refl
length-dibits_from (p ∷ ps) phase =
    let rest = length-dibits_from ps (label_number (phase_of (level_i p) (level_q p))) in
    omega arith

pub length-dibits : (ps : List Point) → length (dibits ps) ≡ 2 * length ps
unfolding dibits
length-dibits ps = length-dibits_from ps 0

turns-lt : (k : ℕ) → get_or turns k 0 < 4
turns-lt zero = lit< tt
turns-lt (suc zero) = lit< tt
turns-lt (suc (suc zero)) = lit< tt
turns-lt (suc (suc (suc zero))) = lit< tt
turns-lt (suc (suc (suc (suc k)))) = lit< tt

dibit_lt : (phase to : ℕ) → dibit_to phase to < 4
unfolding dibit_to
dibit_lt phase to = turns-lt ((to % 4 + 4 - phase % 4) % 4)

pub dibits_bits_from : (ps : List Point) (phase : ℕ) → Bits (dibits_from phase ps)
unfolding dibits_from
dibits_bits_from [] phase = tt
dibits_bits_from (p ∷ ps) phase =
    let to = label_number (phase_of (level_i p) (level_q p)) in
    (omega (arith, dibit_lt phase to), (omega arith, dibits_bits_from ps to))

-- ---- the first stray point

stray : (l : Option ℕ) → is_stray l ≡ true → l ≡ None
stray (Some phase) e = absurd (true≢false (sym e))
stray None e = refl

-- unless it is the number of points, a stray point stands at stray_at
pub stray_there : (ps : List Point) → stray_at ps < length ps → phase_at ps (stray_at ps) ≡ None
stray_there ps h = stray _ ((first _ Nothing ps).there h)

-- and none before it
pub legal_before : (ps : List Point) (k : ℕ) → k < stray_at ps → is_stray (phase_at ps k) ≡ false
legal_before ps k h = (first _ Nothing ps).before k h
