-- Number, place and counts for each answer (document 01, "Refusal numbers"; document 02: 11, item 3; the worst block's count, item 8; 16, a state of a stream
-- that no opening and no steps give, is ours). In a refusal all counts are 0, and so is a count that the job does not have.
-- Of a word and of a burst also the places mended (document 02, item 10). In a refusal there are none.
-- Assumes nothing.
use Rattle.std.specs.Prelude.{cond, List, [], ◌++◌, ℕ, ◌-◌, eqb, length, replicate, Result, Ok, Err}
use Rattle.answers.specs.declared.Refusal.{Refusal}
use Rattle.answers.specs.declared.Refusal.TheVariants.{Unknown, WrongLength, NoRoom, NotABit, BadScheme, TooManySymbols, Occupied, StrayPoint, Uncorrectable, WrongCheck, Noise, Forged}
use Rattle.answers.specs.declared.Told.{Told}
use Rattle.answers.specs.declared.MendedA.{MendedA}
use Rattle.answers.specs.declared.MendedB.{MendedB}
use Rattle.answers.specs.declared.DecodedWord.{DecodedWord}
use Rattle.answers.specs.declared.ReceivedBurst.{ReceivedBurst}

-- what an accepted answer tells, with the bits mended, the protected bits that differ, and the bits mended in the worst block
abbrev pub accepted : ℕ → ℕ → ℕ → Told
accepted mended protected worst = record { number = 0; place = 0; mended = mended; protected = protected; worst = worst }

-- what a refusal tells
abbrev pub refused : ℕ → ℕ → Told
refused number place = record { number = number; place = place; mended = 0; protected = 0; worst = 0 }

abbrev pub because : Refusal → Told
because Unknown = refused 1 0
because WrongLength = refused 2 0
because NoRoom = refused 3 0
because (NotABit i) = refused 4 i
because (BadScheme i) = refused 5 i
because TooManySymbols = refused 6 0
because (Occupied i) = refused 7 i
because (StrayPoint i) = refused 8 i
because (Uncorrectable i) = refused 9 i
because WrongCheck = refused 10 0
because Noise = refused 11 0
because Forged = refused 16 0

-- the refusal that a number and a place tell; of a number that no refusal has, that of a forged state
abbrev pub refusal_at : ℕ → ℕ → Refusal
refusal_at number place =
    cond (eqb number 1) Unknown (cond (eqb number 2) WrongLength (cond (eqb number 3) NoRoom (cond (eqb number 4) (NotABit place)
    (cond (eqb number 5) (BadScheme place) (cond (eqb number 6) TooManySymbols (cond (eqb number 7) (Occupied place) (cond (eqb number 8) (StrayPoint place)
    (cond (eqb number 9) (Uncorrectable place) (cond (eqb number 10) WrongCheck (cond (eqb number 11) Noise Forged))))))))))

-- ---- the answers of the jobs: counts, or a refusal

-- of encode, send A and send B
abbrev pub Written : Type 0
Written = Result Unit Refusal

-- of decode: the bits mended
abbrev pub Decoded : Type 0
Decoded = Result ℕ Refusal

-- of receive A
abbrev pub ReceivedA : Type 0
ReceivedA = Result MendedA Refusal

-- of receive B
abbrev pub ReceivedB : Type 0
ReceivedB = Result MendedB Refusal

-- receive A and receive B, with these counts
abbrev pub counted_a : ℕ → ℕ → ℕ → ReceivedA
counted_a mended protected worst = Ok (record { mended = mended; protected = protected; worst = worst })

abbrev pub counted_b : ℕ → ℕ → ReceivedB
counted_b mended worst = Ok (record { mended = mended; worst = worst })

-- what encode, send A and send B tell
abbrev pub of_written : Written → Told
of_written (Ok counts) = accepted 0 0 0
of_written (Err why) = because why

-- what decode tells
abbrev pub of_decoded : Decoded → Told
of_decoded (Ok mended) = accepted mended 0 0
of_decoded (Err why) = because why

-- what receive A tells
abbrev pub of_received_a : ReceivedA → Told
of_received_a (Ok counts) = accepted counts.mended counts.protected counts.worst
of_received_a (Err why) = because why

-- what receive B tells
abbrev pub of_received_b : ReceivedB → Told
of_received_b (Ok counts) = accepted counts.mended 0 counts.worst
of_received_b (Err why) = because why

-- ---- the places mended

-- the entries of a list of places
abbrev pub most_places : ℕ
most_places = 16

-- places as an answer lists them: 0 behind the last
abbrev pub listed : List ℕ → List ℕ
listed places = places ++ replicate (most_places - length places) 0

-- what decode tells of a word: number, place and count, and the list of places
pub record ToldWord : Type 0 where
  pub told : Told
  pub places : List ℕ

abbrev pub of_word : DecodedWord → ToldWord
of_word r = record { told = of_decoded r.answer; places = r.places }

-- where it is accepted, with these places mended, and where it is refused
abbrev pub accepted_word : ℕ → List ℕ → ToldWord
accepted_word mended places = record { told = accepted mended 0 0; places = listed places }

abbrev pub refused_word : ℕ → ℕ → ToldWord
refused_word number place = record { told = refused number place; places = listed [] }

-- what receive A tells of a burst: number, place and counts, and a list for each half
pub record ToldBurst : Type 0 where
  pub told : Told
  pub first : List ℕ
  pub second : List ℕ

abbrev pub of_burst : ReceivedBurst → ToldBurst
of_burst r = record { told = of_received_a r.answer; first = r.first; second = r.second }

-- where it is accepted, with these places mended in each half, and where it is refused
abbrev pub accepted_burst : ℕ → ℕ → ℕ → List ℕ → List ℕ → ToldBurst
accepted_burst mended protected worst first second = record { told = accepted mended protected worst; first = listed first; second = listed second }

abbrev pub refused_burst : ℕ → ℕ → ToldBurst
refused_burst number place = record { told = refused number place; first = listed []; second = listed [] }

-- the answers of a refusal
abbrev pub no_word : Refusal → DecodedWord
no_word why = record { answer = Err why; places = listed [] }

abbrev pub no_burst : Refusal → ReceivedBurst
no_burst why = record { answer = Err why; first = listed []; second = listed [] }
