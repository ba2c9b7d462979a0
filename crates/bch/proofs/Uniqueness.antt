-- At most one codeword lies within t of a word: two codewords that differ in at most 2t places are one.
-- Assumes nothing.
use mathlib.Core.Path.{◌≡◌, sym, ◌∙◌}
use mathlib.Core.List.{List}
use Prim.Native.Nat.{ℕ, suc, ◌-◌, ◌*◌, ◌≤◌}
use native.Mathlib.Omega.{arith}
use lib.ListN.{length}
use lib.Seq.{ext_get_or}
use Rattle.algebra.proofs.Fields.{add_self}
use Rattle.algebra.proofs.Places.{Vanishing}
use Rattle.algebra.proofs.Words.{synd, bound}
use Rattle.field.proofs.Elements.{gf512}
use Rattle.field.proofs.Values.{a, a_nonzero, a_differ}
use Rattle.bits.specs.Words.{differ}
use Rattle.bch.specs.Codes.{Code, Codeword, Within}
use Rattle.bch.specs.Held.{Rooted}
use Rattle.bits.proofs.Distances.{differ_comm, triangle}
use Rattle.bch.proofs.Errors.{Pair, error, weight-error, synd-error, same_of_error}
use Rattle.bch.proofs.Roots.{codeword_zero}

module _ {c : Code} (rooted : Rooted c) where
  module _ {v u : List ℕ} (hv : Codeword c v) (hu : Codeword c u) where
    pair : Pair c.n v u
    pair = record { first_bits = hv.bits; first_long = hv.long; second_bits = hu.bits; second_long = hu.long }

    syndromes_zero : Vanishing gf512 (c.t * 2) (synd gf512 a c.n (error v u))
    syndromes_zero i l =
        let zv = codeword_zero rooted (suc i) (omega arith) l hv in
        let zu = codeword_zero rooted (suc i) (omega arith) l hu in
        rw (synd-error pair i, zv, zu) (add_self gf512 _)

    -- the bound on the distance
    pub far : differ v u ≤ c.t * 2 → v ≡ u
    far h =
        let e = weight-error pair in
        let z = bound gf512 a a_nonzero c.n (a_differ c.n rooted.places) (error v u) (c.t * 2) syndromes_zero (omega arith) in
        ext_get_or 0 v u (hv.long ∙ sym hu.long) (rw hv.long (λ i l. same_of_error pair i l (z (c.n - suc i) (omega arith))))

  pub unique : {w v u : List ℕ} → length w ≡ c.n → Within c w v → Within c w u → v ≡ u
  unique {w} {v} {u} e hv hu =
      let s = triangle v w u in
      let k = differ_comm w u in
      far hv.codeword hu.codeword (omega arith)
