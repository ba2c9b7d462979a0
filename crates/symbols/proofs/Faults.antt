-- Whether OFDM symbols can be looked at, and what is wrong with them.
-- Assumes nothing.
use mathlib.Core.Path.{◌≡◌, refl, sym}
use mathlib.Core.Bool.{Bool, true, false, cond, not, ◌&&◌, ◌||◌}
use mathlib.Core.List.{List}
use Prim.Native.Nat.{ℕ, ◌+◌, ◌*◌, ◌≤◌, ◌<◌}
use native.Mathlib.Decide.{dec_le}
use native.Mathlib.Omega.{arith}
use borrow.Author.Tests.{le-leb, lt-leb, eq-eqb, ne_eqb, ltb-false, lt-ltb, le-ltb}
use lib.Dec.{eqb, leb, ltb}
use lib.IntN.{ℤ}
use lib.ListN.{length, get_or}
use Rattle.std.specs.Prelude.{Result, Ok, Err}
use Rattle.ground.proofs.Firsts.{first_here, first_later}
use Rattle.symbols.specs.declared.Fault.{Fault}
use Rattle.symbols.specs.declared.Fault.TheVariants.{Occupied, StrayPoint}
use Rattle.symbols.specs.Grids.{index_of, first_occupied}
use Rattle.symbols.specs.Schemes.{bad_entry, Scheme}
use Rattle.symbols.specs.Faults.{roomy, fault_at}
use Rattle.symbols.specs.ByScheme.{bad_place, readable}
use Rattle.symbols.proofs.Rooms.{both_true}
use Rattle.symbols.proofs.Schemes.{bad_most}

-- ---- a loop over the entries

-- an entry outside 2..10
abbrev outside : ℕ → Bool
outside n = ltb n 2 || ltb 10 n

module _ (scheme : List ℕ) where
  bad_turn : (s : ℕ) → s < length scheme → Dec (s ≤ bad_entry scheme) → (t : Bool) → outside (get_or scheme s 0) ≡ t
      → (not (leb s (bad_entry scheme)) || t) ≡ not (leb (s + 1) (bad_entry scheme))
  bad_turn s l (yes h) true e = rw (le-leb s _ h, lt-leb (s + 1) (bad_entry scheme) (omega (arith, first_here outside 0 scheme s h e)))
  bad_turn s l (yes h) false e = rw (le-leb s _ h, le-leb (s + 1) (bad_entry scheme) (first_later outside 0 scheme s h l e))
  bad_turn s l (no h) true e = rw (lt-leb s (bad_entry scheme) (omega arith), lt-leb (s + 1) (bad_entry scheme) (omega arith))
  bad_turn s l (no h) false e = rw (lt-leb s (bad_entry scheme) (omega arith), lt-leb (s + 1) (bad_entry scheme) (omega arith))

  -- a turn: the entry at s, too, is looked at
  pub bad_more : (s : ℕ) (bad : Bool) → s < length scheme → bad ≡ not (leb s (bad_entry scheme))
      → (bad || outside (get_or scheme s 0)) ≡ not (leb (s + 1) (bad_entry scheme))
  bad_more s bad l e = rw e (bad_turn s l (dec_le s (bad_entry scheme)) (outside (get_or scheme s 0)) refl)

  -- the end: all were looked at
  pub bad_none : (s : ℕ) (bad : Bool) → length scheme ≡ 210 → s ≡ 210 → bad ≡ not (leb s (bad_entry scheme))
      → not bad ≡ (eqb (length scheme) 210 && eqb (bad_entry scheme) 210)
  bad_none s bad long end e = rw (e, end, eq-eqb (length scheme) 210 long) (by (dec_le 210 (bad_entry scheme)))
    where
      by : Dec (210 ≤ bad_entry scheme) → not (not (leb 210 (bad_entry scheme))) ≡ eqb (bad_entry scheme) 210
      by (yes h) = rw (le-leb 210 (bad_entry scheme) h) (sym (eq-eqb (bad_entry scheme) 210 (omega (arith, bad_most scheme))))
      by (no h) = rw (lt-leb 210 (bad_entry scheme) (omega arith)) (sym (ne_eqb (bad_entry scheme) 210 (λ same. omega arith)))

-- ---- what can be looked at

-- a scheme that was looked at
pub looked_at : {scheme : List ℕ} → length scheme ≡ 210 → bad_entry scheme ≡ 210 → Scheme scheme
looked_at long within = record { long = long; entries = within }

-- what can be looked at is a scheme, and the lists are long enough
pub parts : (m : ℕ) (scheme : List ℕ) (is qs : List ℤ) → readable m scheme is qs ≡ true
    → (eqb (length scheme) 210 && eqb (bad_entry scheme) 210 ≡ true) × (roomy m is qs ≡ true)
parts m scheme is qs ready = both_true _ _ (sym ready)

pub good_readable : {scheme : List ℕ} → Scheme scheme → (m : ℕ) (is qs : List ℤ) → readable m scheme is qs ≡ roomy m is qs
good_readable {scheme} good m is qs = rw (eq-eqb (length scheme) 210 good.long, eq-eqb (bad_entry scheme) 210 good.entries) refl

pub place_of_long : (scheme : List ℕ) → length scheme ≡ 210 → bad_entry scheme ≡ bad_place scheme
place_of_long scheme long = rw (eq-eqb (length scheme) 210 long) refl

-- ---- what is wrong

abbrev clear : Result Unit Fault
clear = Ok tt

module _ (stray m : ℕ) (is qs : List ℤ) where
  pub fault_occupied : first_occupied is qs 0 (256 * m) < 256 * m → Err (Occupied (first_occupied is qs 0 (256 * m))) ≡ fault_at stray m is qs
  fault_occupied h = rw (lt-ltb (first_occupied is qs 0 (256 * m)) (256 * m) h)

  pub fault_stray : 256 * m ≤ first_occupied is qs 0 (256 * m) → stray < 210 * m → Err (StrayPoint (index_of stray)) ≡ fault_at stray m is qs
  fault_stray free h = rw (le-ltb (first_occupied is qs 0 (256 * m)) (256 * m) free, lt-ltb stray (210 * m) h)

  pub fault_none : 256 * m ≤ first_occupied is qs 0 (256 * m) → 210 * m ≤ stray → clear ≡ fault_at stray m is qs
  fault_none free h = rw (le-ltb (first_occupied is qs 0 (256 * m)) (256 * m) free, le-ltb stray (210 * m) h)

-- what is made of the first fault is made of what is found first; and where there is none, no point is stray
module _ (stray m : ℕ) (is qs : List ℤ) where
  abbrev occupied_first : ℕ
  occupied_first = first_occupied is qs 0 (256 * m)

  pub fault_made : {A : Type 0} (made : Result Unit Fault → A)
      → cond (ltb occupied_first (256 * m)) (made (Err (Occupied occupied_first))) (cond (ltb stray (210 * m)) (made (Err (StrayPoint (index_of stray)))) (made clear))
      ≡ made (fault_at stray m is qs)
  fault_made {A} made = by (ltb occupied_first (256 * m)) (ltb stray (210 * m))
    where
      by : (a b : Bool) → cond a (made (Err (Occupied occupied_first))) (cond b (made (Err (StrayPoint (index_of stray)))) (made clear))
          ≡ made (cond a (Err (Occupied occupied_first)) (cond b (Err (StrayPoint (index_of stray))) clear))
      by true b = refl
      by false true = refl
      by false false = refl

  pub fault_clear : clear ≡ fault_at stray m is qs → 210 * m ≤ stray
  fault_clear e = ltb-false stray (210 * m) (by (ltb occupied_first (256 * m)) (ltb stray (210 * m)) e)
    where
      by : (a b : Bool) → clear ≡ cond a (Err (Occupied occupied_first)) (cond b (Err (StrayPoint (index_of stray))) clear) → b ≡ false
      by true b h = absurd (let z : ◌≡◌ {A = ℕ} 0 1 = cc in omega arith)
      by false true h = absurd (let z : ◌≡◌ {A = ℕ} 0 1 = cc in omega arith)
      by false false h = refl
