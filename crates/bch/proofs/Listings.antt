-- What a list of places says of a word: where they are, and what the word is with them flipped.
-- Assumes nothing.
use mathlib.Core.Path.{◌≡◌, ap, ◌∙◌}
use mathlib.Core.List.{List}
use Prim.Native.Nat.{ℕ, ◌-◌, ◌<◌}
use native.Mathlib.Omega.{arith}
use lib.ListN.{length, take, drop, get_or, replicate}
use lib.Seq.{take_at, drop_at}
use Rattle.answers.specs.Answers.{most_places, listed}
use Rattle.bits.specs.Words.{Bits, differ}
use Rattle.bits.specs.Places.{places, flipped_at}
use Rattle.bits.proofs.Placing.{Rising, as_many, rises, in_word, flips}

-- the first m entries name places of w: they rise, and with these flipped w is v; the entries behind them are 0
pub record Names (list w v : List ℕ) (m : ℕ) : Type 0 where
  pub many : length (take m list) ≡ m
  pub rising : Rising (take m list)
  pub inside : (a : ℕ) → a < m → get_or (take m list) a 0 < length w
  pub flipped : flipped_at (take m list) w ≡ v
  pub rest : drop m list ≡ replicate (most_places - m) 0

-- the list of the places where v differs from w does so
pub names : (v w : List ℕ) → Bits v → Bits w → length v ≡ length w → {list : List ℕ} → list ≡ listed (places v w) → Names list w v (differ v w)
names v w bv bw e {list} is =
    let m = differ v w in
    let front : take m list ≡ places v w = ap (take m) is ∙ take_at (places v w) (replicate (most_places - length (places v w)) 0) m (as_many v w) in
    let back : drop m list ≡ replicate (most_places - length (places v w)) 0
    = ap (drop m) is ∙ drop_at (places v w) (replicate (most_places - length (places v w)) 0) m (as_many v w) in
    record {
      many = ap length front ∙ as_many v w;
      rising = rw front (rises v w);
      inside = λ a l. rw front (in_word v w e a (omega (arith, as_many v w)));
      flipped = ap (λ (ps : List ℕ). flipped_at ps w) front ∙ flips v w bv bw e;
      rest = back ∙ ap (λ (n : ℕ). replicate (most_places - n) 0) (as_many v w);
    }
