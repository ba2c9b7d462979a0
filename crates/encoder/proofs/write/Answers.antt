-- `encoder::write` meets its contract: the digits at the top of the register are the remainder's.
-- Assumes nothing.
use mathlib.Core.Path.{◌≡◌, sym, ap, ap₂, ◌∙◌}
use mathlib.Core.List.{List, ◌++◌}
use Prim.Native.Nat.{ℕ, ◌-◌, ◌≤◌}
use native.Mathlib.Omega.{arith}
use borrow.Rule.Slice.PartMut.{put_mid}
use lib.ListN.{length, take, drop, replicate}
use lib.Seq.{take_all, take_at}
use Rattle.bits.specs.Words.{Bits, lowest, digits}
use Rattle.packed.specs.Packed.{bits512, padded}
use Rattle.bits.specs.Remainders.{remainder}
use Rattle.bch.specs.Codes.{encoded}
use Rattle.bch.specs.Registers.{tops, whole}
use Rattle.bch.specs.Held.{code_of}
use Rattle.bits.proofs.Digits.{lowest_same}
use Rattle.bch.proofs.Sounds.{tops-remainder}
use Rattle.bits.proofs.Parts.{second_long, both_written}
use Rattle.encoder.proofs.write.Goals as goal

-- the information of a word is packed, with zeros behind it
module _ (words m : List ℕ) (k : ℕ) (e : bits512 words ≡ padded (take 512 (lowest m))) (bits : Bits m) (long : length m ≡ k) (low : k ≤ 512) where
  packed : bits512 words ≡ padded m
  packed = e ∙ ap (λ (l : List ℕ). padded (take 512 l)) (lowest_same m bits) ∙ ap padded (take_all 512 m (omega arith))

  front : take k (bits512 words) ≡ m
  front = ap (take k) packed ∙ take_at m (replicate (512 - length m) 0) k long

pub remainder-r-requires : goal.remainder-r-requires
remainder-r-requires c =
    let s = c.args in
    let fit = c.requires.0 in
    let low : s.c.now.k ≤ 512 = omega (arith, fit.sound.rooted.order, fit.sound.short) in
    (fit.sound, c.requires.1, packed c.pack.result s.bits.now s.c.now.k c.pack.ensures fit.bits fit.long low ∙ ap padded (sym (front c.pack.result s.bits.now s.c.now.k c.pack.ensures fit.bits fit.long low)))

pub returns : goal.returns
unfolding encoded
returns c =
    let h = c.args.c.now in
    let m = c.args.bits.now in
    let out = c.args.out.now in
    let fit = c.requires.0 in
    let low : h.k ≤ h.n = omega (arith, fit.sound.rooted.order) in
    let first : c.put_front.new.to ≡ m ++ drop h.k out = c.put_front.ensures.there (omega (arith, fit.room, fit.long)) ∙ ap (λ (n : ℕ). m ++ drop n out) fit.long in
    let whole_word = front c.pack.result m h.k c.pack.ensures fit.bits fit.long (omega (arith, fit.sound.rooted.order, fit.sound.short)) in
    let put : c.put.new.out ≡ digits (h.n - h.k) (remainder (h.n - h.k) (code_of h).generator m)
    = c.put.ensures
    ∙ ap₂ tops
    (ap (λ (l : List ℕ). length (take (h.n - h.k) (drop h.k l))) first ∙ second_long out m h.k h.n fit.long low fit.room)
    (c.remainder-r.ensures ∙ ap (remainder 192 (whole h.generator)) whole_word)
    ∙ tops-remainder fit.sound m in
    ap₂ (put_mid h.k (h.n - h.k)) first put ∙ both_written out m h.k h.n fit.long low _
