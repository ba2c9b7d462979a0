-- The three codes (clause 6.3; document 01, "The three codes").
-- Assumes nothing.
use Rattle.std.specs.Prelude.{◌≡◌, List, ◌++◌, ℕ, ◌-◌, ◌≤◌, eqb, length, take, cond}
use Rattle.bits.specs.Words.{Bits, digits, differ}
use Rattle.bits.specs.Remainders.{remainder}

-- n bits, of which the first k are information; it mends t; the generator has degree n - k
pub record Code : Type 0 where
  pub n : ℕ
  pub k : ℕ
  pub t : ℕ
  pub generator : ℕ

abbrev pub code1 : Code
code1 = record { n = 508; k = 472; t = 4; generator = 0o1630256304641 }

abbrev pub code2 : Code
code2 = record { n = 504; k = 432; t = 8; generator = 0o1561350064670543777423345 }

abbrev pub code3 : Code
code3 = record { n = 392; k = 248; t = 16; generator = 0o1126657202505666323017001652245562614435511600655 }

-- the code of a number
pub data Named : Type 0 where
  known : Code → Named
  unknown : Named

abbrev pub named : ℕ → Named
named c = cond (eqb c 1) (known code1) (cond (eqb c 2) (known code2) (cond (eqb c 3) (known code3) unknown))

-- the information, then the remainder of information times x^(n-k) by the generator (clause 6.3.5)
unfoldable pub encoded : Code → List ℕ → List ℕ
encoded c m = m ++ digits (c.n - c.k) (remainder (c.n - c.k) c.generator m)

-- v is a codeword of the shortened code
pub record Codeword (c : Code) (v : List ℕ) : Type 0 where
  pub long : length v ≡ c.n
  pub bits : Bits v
  pub made : v ≡ encoded c (take c.k v)

-- v is a codeword that differs from w in at most t places
pub record Within (c : Code) (w v : List ℕ) : Type 0 where
  pub codeword : Codeword c v
  pub near : differ v w ≤ c.t
