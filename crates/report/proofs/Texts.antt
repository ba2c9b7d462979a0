-- Texts: their length, and a text with more bytes behind it.
-- Assumes nothing.
use mathlib.Core.Path.{◌≡◌, refl, sym, ap, ◌∙◌}
use mathlib.Core.List.{List, ◌++◌}
use Prim.Native.Nat.{ℕ, ◌+◌, ◌-◌, ◌≤◌}
use native.Mathlib.Omega.{arith}
use borrow.Rule.Slice.PartMut.{put_mid}
use lib.ListN.{length, drop, replicate, length-append, length-replicate, replicate-append-replicate}
use lib.Seq.{take_at, drop_at, take-append_seam, drop-append-add}
use Rattle.bits.proofs.Copies.{put_part}
use Rattle.report.specs.declared.Text.{Text}
use Rattle.report.specs.Lines.{text_of, Counted}
use Rattle.report.specs.Made.{Room}

abbrev zeros : ℕ → List ℕ
zeros n = replicate n 0

drop-zeros : (n m : ℕ) → drop n (zeros (n + m)) ≡ zeros m
drop-zeros n m = ap (drop n) (sym (replicate-append-replicate n m 0)) ∙ drop_at (zeros n) (zeros m) n (length-replicate n 0)

module _ (held : List ℕ) where
  count_text : (text_of held).count ≡ length held
  unfolding text_of
  count_text = refl

  length_text : length held ≤ 128 → length (text_of held).bytes ≡ 128
  unfolding text_of
  length_text h = rw (length-append held (replicate (128 - length held) 0), length-replicate) (omega arith)

  pub counted_text : length held ≤ 128 → Counted (text_of held)
  unfolding text_of
  counted_text h =
      (rw (length_text h) h, sym (ap length (take_at held (replicate (128 - length held) 0) (length held) refl)))

module _ (held more : List ℕ) (short : length held + length more ≤ 128) where
  abbrev bytes : List ℕ
  bytes = held ++ zeros (128 - length held)

  grown : (k : ℕ) (w : List ℕ) → k ≡ length more → w ≡ more
      → record { bytes = put_mid (length held) k bytes w; count = length held + length more } ≡ text_of (held ++ more)
  unfolding text_of
  grown k w ek ew =
      let put = put_part bytes more (length held) (rw (length_text held (omega arith)) short) k w ek ew in
      let left : 128 - length held ≡ length more + (128 - (length held + length more)) = omega arith in
      let rest : drop (length held + length more) bytes ≡ zeros (128 - (length held + length more))
      = drop-append-add held (zeros (128 - length held)) (length more) ∙ rw left (drop-zeros (length more) _) in
      rw (put, take-append_seam held (zeros (128 - length held)), rest, length-append held more)

module _ (more : List ℕ) (text : Text) (room : Room (length more) text) where
  -- what it says of the fields
  pub count_room : text.count + length more ≤ 128
  count_room = omega (arith, room.short, ap (λ (t : Text). t.count) room.is, count_text room.held)

  pub length_room : length text.bytes ≡ 128
  length_room = ap (λ (t : Text). length t.bytes) room.is ∙ length_text room.held (omega (arith, room.short))

  -- bytes put behind
  pub text_grown : (k : ℕ) (w : List ℕ) → k ≡ length more → w ≡ more → (held : List ℕ) → text ≡ text_of held
      → record { bytes = put_mid text.count k text.bytes w; count = text.count + length more } ≡ text_of (held ++ more)
  unfolding text_of
  text_grown k w ek ew held is =
      let short : length held + length more ≤ 128 = omega (arith, count_room, ap (λ (t : Text). t.count) is) in
      rw is (grown held more short k w ek ew)

-- room for fewer, and room behind what a text is known to hold
pub room_less : (n m : ℕ) (text : Text) → Room n text → m ≤ n → Room m text
room_less n m text room h = record { held = room.held; is = room.is; short = omega (arith, room.short) }

pub room_behind : (n : ℕ) (held : List ℕ) (text : Text) → text ≡ text_of held → length held + n ≤ 128 → Room n text
room_behind n held text is short = record { held = held; is = is; short = short }
