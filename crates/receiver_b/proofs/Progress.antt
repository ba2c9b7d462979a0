-- Blocks of Payload B mended one after the other since a tally, the base: what is known of those done, with one more, and where one cannot be mended.
-- Assumes nothing.
use mathlib.Core.Path.{◌≡◌, refl, sym, ap, ap₂, ◌∙◌}
use mathlib.Core.List.{List, [], ◌++◌}
use Prim.Native.Nat.{ℕ, suc, ◌+◌, ◌-◌, ◌*◌, ◌≤◌, ◌<◌, max}
use native.Mathlib.Nat.{add-zero, mul-zero, mul-one, mul-suc, zero-div}
use native.Mathlib.Numerals.{add-one}
use native.Mathlib.Omega.{arith}
use lib.ListN.{length, take, drop, length-append}
use lib.Seq.{take-take}
use Rattle.bits.specs.Words.{differ}
use Rattle.bits.specs.Bytes.{bits_of}
use Rattle.bits.proofs.Distances.{differ_self}
use Rattle.packed.proofs.Paddings.{drop-take}
use Rattle.bch.specs.Codes.{Code}
use Rattle.payload.specs.Scrambler.{scrambled_from, register_after}
use Rattle.payload.specs.Wire.{block_at, count_at, worst_of, Fits, FirstHopeless}
use Rattle.payload.proofs.Scrambling.{register_more}
use Rattle.payload.proofs.Wires.{one_more, block_last}
use Rattle.payload_b.specs.CodedB.{block_bytes, block_bits, code_b, block_of, coded_from}
use Rattle.payload_b.specs.PromiseB.{wire_from}
use Rattle.payload_b.proofs.Blocks.{coded}
use Rattle.payload_b.proofs.Blockwise.{blocks_in_lem, coded_none, coded_one, length_block}
use Rattle.payload_b.proofs.Joining.{fits_joined, total_joined, worst_joined, hopeless_same, hopeless_kept, hopeless_joined}
use Rattle.receiver_b.specs.Steps.{NoneNear, Writes, Done, Stuck}
use Rattle.receiver_b.specs.declared.stream.Tally.{Tally}

-- ---- blocks that are mended

pub done_none : (mode : ℕ) (base : Tally) → Done mode base 0 [] [] base.register base.mended base.worst
unfolding register_after worst_of
done_none mode base = record {
  long = omega arith;
  fits = rw (mul-zero (block_bytes mode)) (record { long = refl; bytes = tt; near = λ b l. absurd (omega (arith, zero-div (block_bytes mode))) });
  carried = refl;
  counted = omega (arith, ap (λ (w : List ℕ). differ w []) (coded_none mode base.register) ∙ differ_self []);
  largest = omega arith;
}

-- one block more
module _ {mode : ℕ} {base : Tally} {m : ℕ} {bits f : List ℕ} {register k worst : ℕ} (d : Done mode base m bits f register k worst)
    {block g : List ℕ} {count after : ℕ} (w : Writes mode register block count after g) (lk : length block ≡ block_bits mode) where
  -- it alone, and what is sent for it
  sent_one : coded_from mode register g ≡ block_of mode (scrambled_from register (bits_of g))
  sent_one = coded_one mode register g w.long

  one_long : length block ≡ block_bits mode * 1
  one_long = lk ∙ sym (mul-one (block_bits mode))

  one_count : count_at (block_bits mode) 0 (coded_from mode register g) block ≡ count
  one_count =
      let none = sym (mul-zero (block_bits mode)) in
      let sent = coded_from mode register g in
      ap₂ differ (block_last (block_bits mode) [] sent 0 none (ap length sent_one ∙ length_block mode register g w.long) ∙ sent_one)
      (block_last (block_bits mode) [] block 0 none lk)
      ∙ sym w.counted

  one_fits : Fits (wire_from mode register (block_bytes mode * 1)) block g
  one_fits = record {
    long = w.long ∙ sym (mul-one (block_bytes mode));
    bytes = w.bytes;
    near = λ b l. let e : b ≡ 0 = omega (arith, l, blocks_in_lem mode 1) in rw (e, one_count) w.near;
  }

  one_worst : worst_of (block_bits mode) 1 (coded_from mode register g) block ≡ count
  unfolding worst_of
  one_worst = omega (arith, one_count)

  pub done_more : Done mode base (m + 1) (bits ++ block) (f ++ g) after (k + count) (max worst count)
  done_more =
      let from : register ≡ register_after (8 * (block_bytes mode * m)) base.register
      = d.carried ∙ ap (λ (n : ℕ). register_after (8 * n) base.register) d.fits.long in
      let end : 8 * length f + 8 * block_bytes mode ≡ 8 * length (f ++ g) = omega (arith, w.long, length-append f g) in
      let differs = total_joined mode base.register register m 1 from bits block d.long one_long f g d.fits one_fits.long in
      let largest = rw (blocks_in_lem mode (m + 1), blocks_in_lem mode m, blocks_in_lem mode 1) at
      (worst_joined mode base.register register m 1 from bits block d.long one_long f g d.fits one_fits.long) in
      record {
        long = length-append bits block ∙ omega (arith, d.long);
        fits = fits_joined mode base.register register m 1 from bits block d.long one_long f g d.fits one_fits;
        carried =
            w.carried ∙ ap (register_after (8 * block_bytes mode)) d.carried ∙ sym (register_more (8 * length f) (8 * block_bytes mode) base.register)
            ∙ ap (λ (j : ℕ). register_after j base.register) end;
        counted = omega (arith, d.counted, w.counted, differs, ap (λ (v : List ℕ). differ v block) sent_one);
        largest = omega (arith, d.largest, largest, one_worst);
      }

-- ---- the first that cannot be

-- it is so among more blocks, whatever comes behind it
pub hopeless_wider : {c : Code} {m : ℕ} {fed : List ℕ} → FirstHopeless c (suc m) fed m → c.n * suc m ≤ length fed → (more : List ℕ) (k : ℕ) → m < k
    → FirstHopeless c k (take (c.n * k) (fed ++ more)) m
hopeless_wider {c} {m} {fed} h whole more k l =
    let n = c.n in
    hopeless_same (hopeless_kept h l whole more) l (λ b lb.
    let low = one_more n b k (omega arith) in
    ap (take n) (drop-take (n * b) (n * k) (fed ++ more)) ∙ take-take n (n * k - n * b) (drop (n * b) (fed ++ more)) (omega arith))

module _ {mode blocks : ℕ} (known : mode ≤ 2) where
  -- a state that is stuck stays so
  pub stuck_kept : {base : Tally} {fed : List ℕ} {done : ℕ} → Stuck mode blocks base fed done → (more : List ℕ) → Stuck mode blocks base (fed ++ more) done
  stuck_kept {fed = fed} k more =
      let c = coded mode known k.coded in
      record {
        coded = k.coded;
        next = k.next;
        m = k.m;
        since = k.since;
        whole = omega (arith, k.whole, length-append fed more);
        hopeless = hopeless_kept k.hopeless (omega arith) (rw c.whole k.whole) more;
      }

  -- the next block cannot be mended
  pub stuck_next : {base : Tally} {m : ℕ} {bits f : List ℕ} {register k worst : ℕ} → Done mode base m bits f register k worst → {block : List ℕ}
      → length block ≡ block_bits mode → NoneNear mode block → {done : ℕ} → done ≡ base.done + m → done < blocks
      → Stuck mode blocks base (bits ++ block) done
  stuck_next {base} {m} {bits} {f} d {block} lk none since next =
      let n = (code_b mode).n in
      let alone : block_at n 0 block ≡ block = block_last n [] block 0 (sym (mul-zero n)) (lk ∙ sym (coded mode known none.coded).whole) in
      record {
        coded = none.coded;
        next = next;
        m = m;
        since = since;
        whole = omega (arith, d.long, length-append bits block, mul-suc (block_bits mode) m);
        hopeless =
            rw (add-one m, add-zero m) at
            (hopeless_joined mode base.register m 1 known none.coded bits block f d.long d.fits 0
            (record { one = omega arith; none = λ p. none.none p.0 (rw alone at p.1); before = λ b h. absurd (omega arith) }));
      }
