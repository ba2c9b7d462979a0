-- A code that is held is sound where its generator has the roots; the rest is computed. Its remainder stands at the top of the register.
-- Assumes nothing.
use mathlib.Core.Path.{◌≡◌, sym, ap, ◌∙◌}
use mathlib.Core.List.{List}
use Prim.Native.Nat.{ℕ, ◌+◌, ◌-◌, ◌*◌, ◌/◌, ◌%◌, ◌^◌}
use native.Mathlib.Omega.{arith}
use lib.Pow.{shr-shr}
use lib.Dec.{T, leb, eqb, leb→le, eqb→eq}
use Rattle.bits.specs.Words.{digits}
use Rattle.bch.specs.Registers.{tops, whole}
use Rattle.bits.specs.Remainders.{remainder}
use Rattle.bch.specs.Held.{Rooted, Sound, code_of}
use Rattle.bch.specs.declared.code.Held.{Held}
use Rattle.bits.proofs.Remainders.{remainder_scaled}
use Rattle.bch.proofs.Tops.{digits-tops}

pub sound : (h : Held) → Rooted (code_of h) → T (leb (h.n - h.k) 192) → T (leb h.n 508) → T (leb h.t 16)
    → T (eqb (h.k % 8) 0) → T (eqb (whole h.generator) ((code_of h).generator * 2 ^ (192 - (h.n - h.k)))) → Sound h
sound h rooted narrow short few bytes exact = record {
  rooted = rooted;
  narrow = leb→le (h.n - h.k) 192 narrow;
  short = leb→le h.n 508 short;
  few = leb→le h.t 16 few;
  bytes = eqb→eq (h.k % 8) 0 bytes;
  exact = eqb→eq (whole h.generator) ((code_of h).generator * 2 ^ (192 - (h.n - h.k))) exact;
}

-- at the top of 192 digits the generator has its highest digit behind the register
pub degree_192 : {h : Held} → Sound h → whole h.generator / 2 ^ 192 ≡ 1
degree_192 {h} sound =
    let e : 192 ≡ 192 - (h.n - h.k) + (h.n - h.k) = omega (arith, sound.narrow) in
    ap (λ (m : ℕ). whole h.generator / 2 ^ m) e ∙ sym (shr-shr (whole h.generator) (192 - (h.n - h.k)) (h.n - h.k)) ∙ sound.rooted.degree

module _ {h : Held} (sound : Sound h) (m : List ℕ) where
  pub scaled : remainder 192 (whole h.generator) m ≡ remainder (h.n - h.k) (code_of h).generator m * 2 ^ (192 - (h.n - h.k))
  scaled =
      ap (λ (g : ℕ). remainder 192 g m) sound.exact ∙ remainder_scaled (h.n - h.k) (code_of h).generator sound.narrow m

  pub tops-remainder : tops (h.n - h.k) (remainder 192 (whole h.generator) m) ≡ digits (h.n - h.k) (remainder (h.n - h.k) (code_of h).generator m)
  tops-remainder = ap (tops (h.n - h.k)) scaled ∙ sym (digits-tops (h.n - h.k) _ sound.narrow)
