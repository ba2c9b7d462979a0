-- `bch::register::chosen` meets its contract: each entry is the sum that the digits of its place choose.
-- Assumes nothing.
use mathlib.Core.Path.{◌≡◌, refl, sym, ap, ◌∙◌}
use mathlib.Core.List.{List, [], ◌∷◌, map}
use Prim.Native.Nat.{ℕ, zero, suc, ◌<◌}
use native.Mathlib.Omega.{arith}
use native.Mathlib.Nat.{zero-mul, one-mul}
use lib.Bits.{bit_xor}
use lib.ListN.{get_or, get_or-map}
use Rattle.ground.proofs.Xors.{xors}
use Rattle.bch.specs.declared.register.Register.{Register}
use Rattle.bch.specs.Registers.{contents, chosen}
use Rattle.bch.proofs.register.chosen.Goals as goal

-- the values of f at the first n numbers
abbrev values : (ℕ → ℕ) → ℕ → List ℕ
values f zero = []
values f (suc n) = f 0 ∷ values (λ (i : ℕ). f (suc i)) n

value_at : (f : ℕ → ℕ) (n i z : ℕ) → i < n → get_or (values f n) i z ≡ f i
value_at f zero i z h = absurd (omega arith)
value_at f (suc n) zero z h = refl
value_at f (suc n) (suc i) z h = value_at (λ (i : ℕ). f (suc i)) n i z (omega arith)

-- the sums in the order of the table
abbrev sums : ℕ → ℕ → ℕ → ℕ → List ℕ
sums a b c d =
    let ab = bit_xor a b in
    let cd = bit_xor c d in
    0 ∷ a ∷ b ∷ ab ∷ c ∷ bit_xor c a ∷ bit_xor c b ∷ bit_xor c ab ∷ d ∷ bit_xor d a ∷ bit_xor d b ∷ bit_xor d ab ∷ cd ∷ bit_xor cd a ∷ bit_xor cd b ∷ bit_xor cd ab ∷ []

chosen-sums : (a b c d : ℕ) → sums a b c d ≡ values (λ (i : ℕ). chosen i a b c d) 16
unfolding chosen
chosen-sums a b c d = simp (zero-mul, one-mul, xors)

entries : (t : List Register) (a b c d : ℕ) → map contents t ≡ sums a b c d
    → (i : ℕ) (z : Register) → i < 16 → contents (get_or t i z) ≡ chosen i a b c d
entries t a b c d e i z h =
    sym (get_or-map contents t i z) ∙ ap (λ (v : List ℕ). get_or v i (contents z)) (e ∙ chosen-sums a b c d)
    ∙ value_at (λ (n : ℕ). chosen n a b c d) 16 i (contents z) h

pub returns : goal.returns
returns cdab =
    let s = cdab.args in
    let t : List Register
    = record { high = 0; mid = 0; low = 0 } ∷ s.a ∷ s.b ∷ cdab.xor-ab.result ∷ s.c ∷ cdab.xor.result ∷ cdab.xor-2.result ∷ cdab.xor-3.result ∷ s.d
    ∷ cdab.xor-4.result ∷ cdab.xor-5.result ∷ cdab.xor-6.result ∷ cdab.xor-cd.result ∷ cdab.xor-7.result ∷ cdab.xor-8.result ∷ cdab.xor-9.result ∷ [] in
    let e : map contents t ≡ sums (contents s.a) (contents s.b) (contents s.c) (contents s.d)
    = rw (cdab.xor-9.ensures, cdab.xor-8.ensures, cdab.xor-7.ensures, cdab.xor-6.ensures, cdab.xor-5.ensures, cdab.xor-4.ensures)
    (rw (cdab.xor-3.ensures, cdab.xor-2.ensures, cdab.xor.ensures, cdab.xor-cd.ensures, cdab.xor-ab.ensures)) in
    entries t _ _ _ _ e
