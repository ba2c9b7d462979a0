-- How the code holds a code, and what is known of it.
-- The promise of encode and decode rests on nothing here: it is what the jobs and what they stand on promise one another.
-- Assumes nothing.
use Rattle.std.specs.Prelude.{◌≡◌, Bool, cond, List, ℕ, suc, eqb, ◌-◌, ◌*◌, ◌/◌, ◌%◌, ◌^◌, ◌≤◌, ◌<◌, length, Option, Some, None, Result, Ok, Err}
use Rattle.algebra.proofs.Powers.{pow}
use Rattle.field.proofs.Elements.{gf512}
use Rattle.field.proofs.Values.{a, value}
use Rattle.bits.specs.Words.{Bits, digits}
use Rattle.answers.specs.Checks.{passes, failing}
use Rattle.bch.specs.Codes.{Code, Named, known, unknown, named}
use Rattle.bch.specs.Promise.{checked_by}
use Rattle.bch.specs.Registers.{whole, Remainders}
use Rattle.bch.specs.declared.code.Held.{Held}
use Rattle.bch.specs.declared.tables.TheConstants.{TABLE1, TABLE2, TABLE3}
use Rattle.answers.specs.declared.Refusal.{Refusal}

-- a code of at most 511 places whose generator has the roots a, a^2, .., a^2t
pub record Rooted (c : Code) : Type 0 where
  pub order : c.k < c.n
  pub places : c.n ≤ 511
  pub degree : c.generator / 2 ^ (c.n - c.k) ≡ 1
  pub roots : (j : ℕ) → 0 < j → j ≤ c.t * 2 → value (pow gf512 a j) (digits (suc (c.n - c.k)) c.generator) ≡ gf512.zero

-- the code that is held
abbrev pub code_of : Held → Code
code_of h = record { n = h.n; k = h.k; t = h.t; generator = whole h.generator / 2 ^ (192 - (h.n - h.k)) }

-- what is known of a code that is held, its information whole bytes; it is one of three, so all of this is computed
pub record Sound (h : Held) : Type 0 where
  pub rooted : Rooted (code_of h)
  pub narrow : h.n - h.k ≤ 192
  pub short : h.n ≤ 508
  pub few : h.t ≤ 16
  pub bytes : h.k % 8 ≡ 0
  pub exact : whole h.generator ≡ (code_of h).generator * 2 ^ (192 - (h.n - h.k))

-- its table of remainders; no two of the three codes mend as many
unfoldable pub table_of : Held → List ℕ
table_of h = cond (eqb h.t 4) TABLE1 (cond (eqb h.t 8) TABLE2 TABLE3)

-- that is the table of its generator: so it is for a sound code that has a number (bch/proofs/Entries: `tabled`)
abbrev pub Tabled : Held → Type 0
Tabled h = Remainders (whole h.generator) (table_of h)

-- the code of a number is held, or there is none
abbrev pub Holds : ℕ → Option Held → Type 0
Holds c (Some h) = Sound h × (named c ≡ known (code_of h))
Holds c None = named c ≡ unknown

-- a sound code, a word of `size` bits, and room for n elements
pub record Fitting (h : Held) (size : ℕ) (word out : List ℕ) : Type 0 where
  pub sound : Sound h
  pub bits : Bits word
  pub long : length word ≡ size
  pub room : h.n ≤ length out

-- how many bits a word should have: n where it is a whole one, k where it is information
abbrev pub size_of : Bool → Code → ℕ
size_of whole c = cond whole c.n c.k

-- the checks pass, and all is there that the job needs; or one fails
abbrev pub JudgedBy : Named → Bool → List ℕ → List ℕ → Result Held Refusal → Type 0
JudgedBy c whole word out (Ok h) = Fitting h (size_of whole (code_of h)) word out × (checked_by c (size_of whole) word out ≡ passes (code_of h))
JudgedBy c whole word out (Err why) = checked_by c (size_of whole) word out ≡ failing why

-- the code by its number
abbrev pub Judged : ℕ → Bool → List ℕ → List ℕ → Result Held Refusal → Type 0
Judged c = JudgedBy (named c)
