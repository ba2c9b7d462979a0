-- The tables of the points of OFDM symbols: those of each symbol more stand behind the others, for DQPSK and for a scheme.
-- Assumes nothing.
use mathlib.Core.Path.{◌≡◌, sym, ap, ◌∙◌}
use mathlib.Core.List.{List, ◌++◌, map-append}
use Prim.Native.Nat.{ℕ, ◌+◌, ◌*◌}
use native.Mathlib.Numerals.{add-one}
use native.Mathlib.Omega.{arith}
use lib.ListN.{length, length-map, length-replicate, replicate-append-replicate}
use Rattle.points.specs.declared.Point.{Point}
use Rattle.points.specs.Constellations.{points}
use Rattle.points.specs.Dqpsk.{phases}
use Rattle.symbols.specs.Schemes.{repeated}
use Rattle.symbols.proofs.Schemes.{repeated_more, repeated_long}
use Rattle.decisions.specs.Decided.{phase_tables, scheme_tables}

-- the tables of one OFDM symbol, and of every number of them
pub record Grows (one : List (List Point)) (tables : ℕ → List (List Point)) : Type 0 where
  pub long : length one ≡ 210
  pub all_long : (k : ℕ) → length (tables k) ≡ 210 * k
  pub more : (k : ℕ) → tables (k + 1) ≡ tables k ++ one

-- those of DQPSK do
pub phases_grow : Grows (phase_tables 210) (λ (k : ℕ). phase_tables (210 * k))
phases_grow = record {
  long = length-replicate 210 phases;
  all_long = λ k. length-replicate (210 * k) phases;
  more = λ k. let e : 210 * (k + 1) ≡ 210 * k + 210 = omega arith in ap phase_tables e ∙ sym (replicate-append-replicate (210 * k) 210 phases);
}

-- and those of a scheme
pub scheme_grows : (scheme : List ℕ) → length scheme ≡ 210 → Grows (scheme_tables scheme) (λ (k : ℕ). scheme_tables (repeated k scheme))
scheme_grows scheme long = record {
  long = length-map scheme points ∙ long;
  all_long = λ k. length-map (repeated k scheme) points ∙ repeated_long scheme long k;
  more = λ k. ap scheme_tables (ap (λ (n : ℕ). repeated n scheme) (add-one k) ∙ repeated_more scheme k) ∙ map-append points (repeated k scheme) scheme;
}
