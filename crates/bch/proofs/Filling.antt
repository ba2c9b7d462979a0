-- A table to lend, filled entry by entry: the three machine words of an entry are written, and the entries before it stay.
-- Assumes nothing.
use mathlib.Core.Path.{◌≡◌, sym, ◌∙◌}
use mathlib.Core.Logic.{◌≢◌}
use mathlib.Core.List.{List, ◌++◌}
use Prim.Native.Nat.{ℕ, suc, ◌+◌, ◌*◌, ◌/◌, ◌%◌, ◌<◌}
use native.Mathlib.Decide.{dec_lt}
use native.Mathlib.Omega.{arith}
use lib.ListN.{length, get_or, set, replicate, length-set}
use lib.Seq.{get_or-set_same, get_or-set_other}
use Rattle.bits.specs.Words.{digits}
use Rattle.bits.specs.Remainders.{remainder}
use Rattle.bch.specs.Registers.{contents, Sixteens, entry_at, EntriesTo}
use Rattle.bch.specs.declared.register.Register.{Register}

module _ (table : List ℕ) (e : ℕ) (r : Register) where
  -- the entry e is written
  abbrev pub filled : List ℕ
  filled = set (set (set table e r.high) (64 + e) r.mid) (128 + e) r.low

  other : (p : ℕ) → p ≢ e → p ≢ 64 + e → p ≢ 128 + e → get_or filled p 0 ≡ get_or table p 0
  other p h m l =
      get_or-set_other (set (set table e r.high) (64 + e) r.mid) (128 + e) p r.low 0 l
      ∙ get_or-set_other (set table e r.high) (64 + e) p r.mid 0 m ∙ get_or-set_other table e p r.high 0 h

  entry_kept : (i : ℕ) → i < e → e < 64 → entry_at filled i ≡ entry_at table i
  entry_kept i before low =
      rw (
        other i (λ z. omega arith) (λ z. omega arith) (λ z. omega arith),
        other (64 + i) (λ z. omega arith) (λ z. omega arith) (λ z. omega arith),
        other (128 + i) (λ z. omega arith) (λ z. omega arith) (λ z. omega arith),
      )

  entry_put : e < 64 → length table ≡ 192 → entry_at filled e ≡ contents r
  entry_put low long =
      let one = set table e r.high in
      let two = set one (64 + e) r.mid in
      let h : get_or filled e 0 ≡ r.high
      = get_or-set_other two (128 + e) e r.low 0 (λ z. omega arith) ∙ get_or-set_other one (64 + e) e r.mid 0 (λ z. omega arith)
      ∙ get_or-set_same table e r.high 0 (omega arith) in
      let m : get_or filled (64 + e) 0 ≡ r.mid
      = get_or-set_other two (128 + e) (64 + e) r.low 0 (λ z. omega arith)
      ∙ get_or-set_same one (64 + e) r.mid 0 (omega (arith, length-set table e r.high)) in
      let l : get_or filled (128 + e) 0 ≡ r.low
      = get_or-set_same two (128 + e) r.low 0 (omega (arith, length-set one (64 + e) r.mid, length-set table e r.high)) in
      rw (h, m, l)

-- where the i-th of the part j is written behind 16 j + i entries, there is one more
pub next_entry : (g j i n : ℕ) (table : List ℕ) (part : List Register) (z : Register) → length table ≡ 192 → i < 16 → 16 * j + i < 64
    → n ≡ suc (16 * j + i) → Sixteens g (4 * j) part → EntriesTo (16 * j + i) g table → EntriesTo n g (filled table (16 * j + i) (get_or part i z))
next_entry g j i n table part z long few low next is before e h = go (dec_lt e (16 * j + i))
  where
    go : Dec (e < 16 * j + i)
        → entry_at (filled table (16 * j + i) (get_or part i z)) e ≡ remainder 192 g (digits 4 (e % 16) ++ replicate (4 * (e / 16)) 0)
    go (yes l) = entry_kept table (16 * j + i) (get_or part i z) e l low ∙ before e l
    go (no l) =
        let same : 16 * j + i ≡ e = omega arith in
        let a : (16 * j + i) % 16 ≡ i = omega arith in
        let b : (16 * j + i) / 16 ≡ j = omega arith in
        rw (sym same, a, b) (entry_put table (16 * j + i) (get_or part i z) low long ∙ is i z few)
