-- What an answer tells says which answer it is; and what holds of what checks find, test by test.
-- Assumes nothing.
use mathlib.Core.Path.{◌≡◌, refl, sym, ap, ap₂, ◌∙◌}
use mathlib.Core.Bool.{Bool, true, false, cond}
use Prim.Native.Nat.{ℕ, ◌<◌}
use native.Mathlib.Omega.{arith}
use lib.Dec.{eqb}
use Rattle.answers.specs.Answers.{accepted, refused, because, of_written, of_decoded, of_received_a, of_received_b, refusal_at, ToldWord, of_word, ToldBurst, of_burst, Decoded, ReceivedA, ReceivedB, Written, counted_a, counted_b}
use Rattle.answers.specs.Checks.{Checked}
use Rattle.answers.specs.declared.Refusal.{Refusal}
use Rattle.answers.specs.declared.Refusal.TheVariants.{Unknown, WrongLength, NoRoom, NotABit, BadScheme, TooManySymbols, Occupied, StrayPoint, Uncorrectable, WrongCheck, Noise, Forged}
use Rattle.answers.specs.declared.Told.{Told}
use Rattle.answers.specs.declared.DecodedWord.{DecodedWord}
use Rattle.answers.specs.declared.ReceivedBurst.{ReceivedBurst}
use Rattle.std.specs.Prelude.{Ok, Err}

-- a refusal, out of its number and place
pub refusal_at_lem : (r : Refusal) → refusal_at (because r).number (because r).place ≡ r
refusal_at_lem Unknown = refl
refusal_at_lem WrongLength = refl
refusal_at_lem NoRoom = refl
refusal_at_lem (NotABit i) = refl
refusal_at_lem (BadScheme i) = refl
refusal_at_lem TooManySymbols = refl
refusal_at_lem (Occupied i) = refl
refusal_at_lem (StrayPoint i) = refl
refusal_at_lem (Uncorrectable i) = refl
refusal_at_lem WrongCheck = refl
refusal_at_lem Noise = refl
refusal_at_lem Forged = refl

-- the refusal that tells this
pub refusal_of : Told → Refusal
refusal_of t = refusal_at t.number t.place

pub refusal_of_lem : (r : Refusal) → refusal_of (because r) ≡ r
unfolding refusal_of
refusal_of_lem r = refusal_at_lem r

-- only what is accepted has number 0
pub numbered : (r : Refusal) → eqb (because r).number 0 ≡ false
numbered Unknown = refl
numbered WrongLength = refl
numbered NoRoom = refl
numbered (NotABit i) = refl
numbered (BadScheme i) = refl
numbered TooManySymbols = refl
numbered (Occupied i) = refl
numbered (StrayPoint i) = refl
numbered (Uncorrectable i) = refl
numbered WrongCheck = refl
numbered Noise = refl
numbered Forged = refl

numbered_not : (r : Refusal) → (because r).number ≡ 0 → ⊥
numbered_not r e =
    let z : false ≡ true = sym (numbered r) ∙ ap (λ (n : ℕ). eqb n 0) e in
    let w : ◌≡◌ {A = ℕ} 1 0 = ap (λ (b : Bool). cond b 0 1) z in
    omega arith

pub never_accepted : (r : Refusal) (mended protected worst : ℕ) → because r ≡ accepted mended protected worst → ⊥
never_accepted r m p w e = numbered_not r (ap (λ (t : Told). t.number) e)

-- a refusal tells its number and place, and no counts
pub because_is : (r : Refusal) → because r ≡ refused (because r).number (because r).place
because_is Unknown = refl
because_is WrongLength = refl
because_is NoRoom = refl
because_is (NotABit i) = refl
because_is (BadScheme i) = refl
because_is TooManySymbols = refl
because_is (Occupied i) = refl
because_is (StrayPoint i) = refl
because_is (Uncorrectable i) = refl
because_is WrongCheck = refl
because_is Noise = refl
because_is Forged = refl

-- ---- each kind of answer, out of what it tells

written_of : Told → Written
written_of t = cond (eqb t.number 0) (Ok tt) (Err (refusal_of t))

written_of_lem : (a : Written) → written_of (of_written a) ≡ a
unfolding written_of
written_of_lem (Ok counts) = refl
written_of_lem (Err r) = rw (numbered r, refusal_of_lem r)

pub written_same : (a b : Written) → of_written a ≡ of_written b → a ≡ b
written_same a b e = sym (written_of_lem a) ∙ ap written_of e ∙ written_of_lem b

decoded_of : Told → Decoded
decoded_of t = cond (eqb t.number 0) (Ok t.mended) (Err (refusal_of t))

decoded_of_lem : (a : Decoded) → decoded_of (of_decoded a) ≡ a
unfolding decoded_of
decoded_of_lem (Ok m) = refl
decoded_of_lem (Err r) = rw (numbered r, refusal_of_lem r)

decoded_same : (a b : Decoded) → of_decoded a ≡ of_decoded b → a ≡ b
decoded_same a b e = sym (decoded_of_lem a) ∙ ap decoded_of e ∙ decoded_of_lem b

-- and with it the places
pub word_told : (a : DecodedWord) {t : ToldWord} → of_word a ≡ t → of_decoded a.answer ≡ t.told
word_told a = ap (λ (t : ToldWord). t.told)

pub word_same : (a b : DecodedWord) → of_word a ≡ of_word b → a ≡ b
word_same a b e =
    ap₂ (λ (x : Decoded) (t : ToldWord). record { answer = x; places = t.places })
    (decoded_same a.answer b.answer (word_told a e)) e

received_a_of : Told → ReceivedA
received_a_of t = cond (eqb t.number 0) (counted_a t.mended t.protected t.worst) (Err (refusal_of t))

received_a_of_lem : (a : ReceivedA) → received_a_of (of_received_a a) ≡ a
unfolding received_a_of
received_a_of_lem (Ok m) = refl
received_a_of_lem (Err r) = rw (numbered r, refusal_of_lem r)

received_a_same : (a b : ReceivedA) → of_received_a a ≡ of_received_a b → a ≡ b
received_a_same a b e = sym (received_a_of_lem a) ∙ ap received_a_of e ∙ received_a_of_lem b

pub burst_told : (a : ReceivedBurst) {t : ToldBurst} → of_burst a ≡ t → of_received_a a.answer ≡ t.told
burst_told a = ap (λ (t : ToldBurst). t.told)

pub burst_same : (a b : ReceivedBurst) → of_burst a ≡ of_burst b → a ≡ b
burst_same a b e =
    ap₂ (λ (x : ReceivedA) (t : ToldBurst). record { answer = x; first = t.first; second = t.second })
    (received_a_same a.answer b.answer (burst_told a e)) e

received_b_of : Told → ReceivedB
received_b_of t = cond (eqb t.number 0) (counted_b t.mended t.worst) (Err (refusal_of t))

received_b_of_lem : (a : ReceivedB) → received_b_of (of_received_b a) ≡ a
unfolding received_b_of
received_b_of_lem (Ok m) = refl
received_b_of_lem (Err r) = rw (numbered r, refusal_of_lem r)

pub received_b_same : (a b : ReceivedB) → of_received_b a ≡ of_received_b b → a ≡ b
received_b_same a b e = sym (received_b_of_lem a) ∙ ap received_b_of e ∙ received_b_of_lem b

-- ---- number 0 says that it is accepted, with its own counts

pub accepted_written : (a : Written) → (of_written a).number ≡ 0 → of_written a ≡ accepted 0 0 0
accepted_written (Ok tt) e = refl
accepted_written (Err r) e = absurd (numbered_not r e)

pub accepted_a : (a : ReceivedA) → (of_received_a a).number ≡ 0 → of_received_a a ≡ accepted (of_received_a a).mended (of_received_a a).protected (of_received_a a).worst
accepted_a (Ok m) e = refl
accepted_a (Err r) e = absurd (numbered_not r e)

pub accepted_b : (a : ReceivedB) → (of_received_b a).number ≡ 0 → of_received_b a ≡ accepted (of_received_b a).mended 0 (of_received_b a).worst
accepted_b (Ok m) e = refl
accepted_b (Err r) e = absurd (numbered_not r e)

-- ---- checks

-- what holds of each way of a test, by what the test says there
pub by_test : {A : Type 0} (P : Checked A → Type 0) (b : Bool) {x y : Checked A} → (b ≡ true → P x) → (b ≡ false → P y) → P (cond b x y)
by_test P true p q = p refl
by_test P false p q = q refl

-- what is accepted is not refused
pub not_refused : {t : Told} {mended differing worst number place : ℕ} → t ≡ accepted mended differing worst → t ≡ refused number place → 0 < number → ⊥
not_refused a r l = let z = ap (λ (t : Told). t.number) (sym a ∙ r) in omega arith
