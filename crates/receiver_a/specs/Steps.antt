-- What the private functions of receive A promise one another.
-- The promise of receive A rests on nothing here.
-- Assumes nothing.
use Rattle.std.specs.Prelude.{◌≡◌, List, [], ◌++◌, ℕ, length, get_or, Result, Ok, Err}
use Rattle.bits.specs.Words.{Bits, differ}
use Rattle.bits.specs.Bytes.{Bytes}
use Rattle.bits.specs.Places.{places}
use Rattle.bch.specs.Codes.{code3, Within}
use Rattle.payload_a.specs.Segments.{row_bits}
use Rattle.payload_a.specs.CodedA.{information}
use Rattle.answers.specs.declared.Refusal.{Refusal}
use Rattle.answers.specs.declared.Refusal.TheVariants.{WrongCheck, Uncorrectable}
use Rattle.answers.specs.Answers.{listed, no_burst}
use Rattle.answers.specs.declared.ReceivedBurst.{ReceivedBurst}

-- two words of n bits
pub record Pair (n : ℕ) (first second : List ℕ) : Type 0 where
  pub first_long : length first ≡ n
  pub second_long : length second ≡ n
  pub first_bits : Bits first
  pub second_bits : Bits second

-- two rows, each of the bits of a block
abbrev pub Rows : List (List ℕ) → Type 0
Rows rows = Pair row_bits (get_or rows 0 []) (get_or rows 1 [])

-- their 784 bits
abbrev pub flat_of : List (List ℕ) → List ℕ
flat_of rows = get_or rows 0 [] ++ get_or rows 1 []

-- the frame for which these bits were sent has been written to the area, or there is none, the check is wrong, and the area is as it was
abbrev pub Delivered : List ℕ → List ℕ → Result Unit Refusal → List ℕ → Type 0
Delivered bits area (Ok _) area' = (length area' ≡ length area) × Bytes area' × (information area' ≡ bits)
Delivered bits area (Err why) area' =
    (why ≡ WrongCheck) × (area' ≡ area) × ((frame : List ℕ) → length frame ≡ length area → information frame ≡ bits → ⊥)

-- the codeword within 16 of the row, the number of places that differ and the list of them; or there is none, and the row's number is refused
abbrev pub Mends : ℕ → List ℕ → Result (ℕ × List ℕ) Refusal → List ℕ → Type 0
Mends number row (Ok (mended, list)) word = Within code3 row word × (mended ≡ differ word row) × (list ≡ listed (places word row))
Mends number row (Err why) word = (why ≡ Uncorrectable number) × ((v : List ℕ) → Within code3 row v → ⊥)

-- the answer for a burst that is accepted, or refused: then no place is mended
abbrev pub burst_of : Result ReceivedBurst Refusal → ReceivedBurst
burst_of (Ok burst) = burst
burst_of (Err why) = no_burst why
