-- The numbers that document 01 marks with a star ("Numbers to try"), in its order: what our definitions give, and what document 01 says. Request 6 of
-- document 02 changes two of them, the frame checks: these are what the second program worked out.
-- Assumes nothing.
use Rattle.std.specs.Prelude.{◌≡◌, List, [], ◌∷◌, ◌++◌, ℕ, ◌-◌, ◌*◌, replicate, take}
use Rattle.bits.specs.Words.{digits}
use Rattle.bch.specs.Codes.{code1, code2, code3, encoded}
use Rattle.points.specs.Levels.{+0, +1, -1, +2, -2, -5}
use Rattle.symbols.specs.Grid.{carrier_of}
use Rattle.points.specs.Constellations.{point_of}
use Rattle.points.specs.declared.Point.{Point}
use Rattle.points.specs.declared.Point.TheVariants.{At}
use Rattle.payload.specs.Scrambler.{scrambled}
use Rattle.payload_a.specs.Check.{check_of}
use Rattle.payload_a.specs.CodedA.{points_a}
use Rattle.payload_b.specs.CodedB.{bits_for, symbols_for}
use Rattle.symbols.specs.Schemes.{sum_of}

pub record Row : Type 1 where
  pub Value : Type 0
  pub ours : Value
  pub document : Value

abbrev pub row : {A : Type 0} → A → A → Row
row {A} ours document = record { Value = A; ours = ours; document = document }

-- k bits, of which only the last is set
abbrev pub last_of : ℕ → List ℕ
last_of k = replicate (k - 1) 0 ++ (1 ∷ [])

-- the scheme of all QPSK: two bits to each of the 210 points
abbrev pub all_qpsk : List ℕ
all_qpsk = replicate 210 2

-- the first five points are those of any mode and frame
unfoldable pub table : List Row
table =
    row (scrambled (replicate 16 0)) (digits 16 0b1101101011010010) ∷
    row (check_of (replicate 464 0)) 0x3846_7b63 ∷
    row (check_of (last_of 464)) 0x3c87_66d4 ∷
    row (encoded code1 (last_of 472)) (replicate 471 0 ++ digits 37 0o1630256304641) ∷
    row (encoded code2 (last_of 432)) (replicate 431 0 ++ digits 73 0o1561350064670543777423345) ∷
    row (encoded code3 (last_of 248)) (replicate 247 0 ++ digits 145 0o1126657202505666323017001652245562614435511600655) ∷
    row {A = ℕ → List ℕ → List Point} (λ mode frame. take 5 (points_a mode frame))
    (λ mode frame. At -1 +0 ∷ At +1 +0 ∷ At -1 +0 ∷ At +1 +0 ∷ At +0 -1 ∷ []) ∷
    row (carrier_of 1) 151 ∷
    row (carrier_of 105) 255 ∷
    row (carrier_of 106) 1 ∷
    row (carrier_of 210) 105 ∷
    row (point_of 3 0b100) (At +0 +2) ∷
    row (point_of 3 0b010) (At +0 -2) ∷
    row (point_of 9 0b101100101) (At -5 +1) ∷
    row (bits_for 2 54) 504 ∷
    row (symbols_for 2 54 all_qpsk) 2 ∷
    row (sum_of all_qpsk * symbols_for 2 54 all_qpsk - bits_for 2 54) 336 ∷
    []

-- the claim: in each row the two are the same
abbrev pub Agrees : List Row → Type 0
Agrees [] = Unit {0}
Agrees (r ∷ rs) = (r.ours ≡ r.document) × Agrees rs
