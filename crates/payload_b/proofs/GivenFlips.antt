-- Bits that differ from those sent in so many places, in all and in the worst block: there are such.
-- Assumes nothing.
use mathlib.Core.Path.{◌≡◌, refl, sym, ap, ap₂, subst, ◌∙◌}
use mathlib.Core.List.{List, [], ◌∷◌, ◌++◌}
use Prim.Native.Nat.{ℕ, zero, suc, ◌-◌, ◌*◌, ◌≤◌, ◌<◌, min, max}
use native.Mathlib.Nat.{mul-suc}
use native.Mathlib.Numerals.{add-one}
use native.Mathlib.Decide.{dec_lt}
use native.Mathlib.Omega.{arith}
use lib.ListN.{length, take, drop, length-append, length-drop, take-append-drop}
use lib.Seq.{length-take-le}
use Rattle.bits.specs.Words.{Bits, differ}
use Rattle.bits.proofs.Digits.{bits_take, bits_drop, bits_append}
use Rattle.bits.proofs.Distances.{differ-cons, differ_self, differ-append, apart_other}
use Rattle.payload.specs.Wire.{count_at, worst_of}
use Rattle.payload.proofs.Wires.{one_more, block_kept, block_last}
use Rattle.payload.proofs.LineQuality.{worst_more}

-- ---- one block

-- a word that differs from these bits in k places
pub record Apart (bits : List ℕ) (k : ℕ) : Type 0 where
  pub word : List ℕ
  pub long : length word ≡ length bits
  pub each : Bits word
  pub differs : differ bits word ≡ k

-- the first k bits the other way
flipped : (k : ℕ) (bits : List ℕ) → Bits bits → k ≤ length bits → Apart bits k
flipped zero bits each few = record { word = bits; long = refl; each = each; differs = differ_self bits }
flipped (suc k) [] each few = absurd (omega arith)
flipped (suc k) (b ∷ bits) each few =
    let r = flipped k bits each.1 (omega arith) in
    let l = each.0 in
    record {
      word = (1 - b) ∷ r.word;
      long = ap suc r.long;
      each = (omega arith, r.each);
      differs = differ-cons b (1 - b) bits r.word ∙ omega (arith, apart_other b (1 - b) (λ e. omega arith), r.differs);
    }

-- ---- many blocks

-- of m blocks: they differ in so many places, each in no more than w, and the worst in w if there are as many
pub record Spoilt (size w m : ℕ) (sent : List ℕ) (all : ℕ) : Type 0 where
  pub word : List ℕ
  pub long : length word ≡ size * m
  pub each : Bits word
  pub differs : differ sent word ≡ all
  pub near : (b : ℕ) → b < m → count_at size b sent word ≤ w
  pub largest : worst_of size m sent word ≡ min w all

module _ (size w : ℕ) (room : w ≤ size) where
  -- one block more, in which the rest differs
  module _ (m : ℕ) (front next : List ℕ) (lf : length front ≡ size * m) (ln : length next ≡ size) (bits : Bits next) (all : ℕ) (most : all ≤ w * suc m)
      (before : Spoilt size w m front (min all (w * m))) where
    abbrev k : ℕ
    k = all - min all (w * m)

    few : k ≤ w
    few = omega (arith, mul-suc w m)

    last : Apart next k
    last = flipped k next bits (omega (arith, few))

    abbrev word : List ℕ
    word = before.word ++ last.word

    last_long : length last.word ≡ size
    last_long = last.long ∙ ln

    one_near : (b : ℕ) → b < suc m → Dec (b < m) → count_at size b (front ++ next) word ≤ w
    one_near b l (yes h) =
        let more = one_more size b m h in
        rw (block_kept size front next b (omega arith), block_kept size before.word last.word b (omega (arith, before.long))) (before.near b h)
    one_near b l (no h) =
        let e : b ≡ m = omega arith in
        rw (e, block_last size front next m lf ln, block_last size before.word last.word m before.long last_long)
        (omega (arith, last.differs, few))

    worst_is : max (min w (min all (w * m))) k ≡ min w all
    worst_is = by m most
      where
        by : (j : ℕ) → all ≤ w * suc j → max (min w (min all (w * j))) (all - min all (w * j)) ≡ min w all
        by zero l = omega (arith, mul-suc w 0)
        by (suc j) l = omega (arith, mul-suc w j, mul-suc w (suc j))

    more_spoilt : Spoilt size w (suc m) (front ++ next) all
    more_spoilt = record {
      word = word;
      long = length-append before.word last.word ∙ omega (arith, before.long, last_long, mul-suc size m);
      each = bits_append before.word last.word before.each last.each;
      differs =
          differ-append front before.word next last.word (lf ∙ sym before.long) ∙ omega (arith, before.differs, last.differs);
      near = λ b l. one_near b l (dec_lt b m);
      largest =
          ap (λ (n : ℕ). worst_of size n (front ++ next) word) (sym (add-one m))
          ∙ worst_more size m front before.word next last.word lf before.long ln last_long
          ∙ ap₂ max before.largest last.differs ∙ worst_is;
    }

  pub spoilt : (m : ℕ) (sent : List ℕ) → length sent ≡ size * m → Bits sent → (all : ℕ) → all ≤ w * m → Spoilt size w m sent all
  unfolding worst_of
  spoilt zero [] long each all most =
      record { word = []; long = long; each = tt; differs = omega (arith, differ_self []); near = λ b l. absurd (omega arith); largest = omega arith }
  spoilt zero (x ∷ sent) long each all most = absurd (omega arith)
  spoilt (suc m) sent long each all most =
      let front = take (size * m) sent in
      let next = drop (size * m) sent in
      let lf : length front ≡ size * m = length-take-le (size * m) sent (omega (arith, mul-suc size m)) in
      let ln : length next ≡ size = length-drop (size * m) sent ∙ omega (arith, mul-suc size m) in
      subst (λ (l : List ℕ). Spoilt size w (suc m) l all) (take-append-drop (size * m) sent)
      (more_spoilt m front next lf ln (bits_drop (size * m) sent each) all most
      (spoilt m front lf (bits_take (size * m) sent each) (min all (w * m)) (omega arith)))
