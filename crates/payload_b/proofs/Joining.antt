-- Blocks of Payload B with blocks behind them, from any register: bytes that fit both, their counts in all and in the worst block, and the first hopeless one.
-- Assumes nothing.
use mathlib.Core.Path.{◌≡◌, sym, ap, ap₂, ◌∙◌}
use mathlib.Core.Logic.{◌≢◌}
use mathlib.Core.List.{List, [], ◌∷◌, ◌++◌, append-nil, append_assoc}
use Prim.Native.Nat.{ℕ, zero, suc, ◌+◌, ◌-◌, ◌*◌, ◌≤◌, ◌<◌, max}
use native.Mathlib.Nat.{mul-add, mul-suc, mul-zero, mul-mod_right}
use native.Mathlib.Numerals.{add-one}
use native.Mathlib.Decide.{dec_le}
use native.Mathlib.Omega.{arith}
use lib.ListN.{length, take, drop, length-append, length-drop, take-append-drop}
use lib.Seq.{drop_at, drop-drop, length-take-le}
use Rattle.bits.specs.Words.{differ}
use Rattle.bits.proofs.Distances.{differ-append}
use Rattle.bits.proofs.Octets.{bytes_append}
use Rattle.bch.specs.Codes.{Code}
use Rattle.payload.specs.Scrambler.{register_after}
use Rattle.payload.specs.Wire.{block_at, count_at, worst_of, total, worst, Fits, Mendable, FirstHopeless}
use Rattle.payload.proofs.Wires.{one_more, block_kept, fits_mendable}
use Rattle.payload.proofs.LineQuality.{worst_more}
use Rattle.payload_b.specs.CodedB.{block_bytes, block_bits, code_b, coded_from}
use Rattle.payload_b.specs.PromiseB.{mends_b, wire_from}
use Rattle.payload_b.proofs.Blocks.{coded}
use Rattle.payload_b.proofs.Blockwise.{blocks_in_lem, coded_append, length_coded, codeword_b}

-- ---- blocks of bits

-- a block behind d others
pub block_behind : (size : ℕ) (front more : List ℕ) (d b : ℕ) → length front ≡ size * d → block_at size (d + b) (front ++ more) ≡ block_at size b more
block_behind size front more d b long =
    let on : size * (d + b) ≡ size * d + size * b = mul-add size d b in
    ap (take size) (ap (λ (n : ℕ). drop n (front ++ more)) on ∙ sym (drop-drop (size * b) (size * d) (front ++ more))
    ∙ ap (drop (size * b)) (drop_at front more (size * d) long))

-- the worst of j blocks and those before them
module _ (size d : ℕ) (sent bits : List ℕ) (ls : length sent ≡ size * d) (lb : length bits ≡ size * d) where
  abbrev Worse : ℕ → List ℕ → List ℕ → Type 0
  Worse j next more = worst_of size (d + j) (sent ++ next) (bits ++ more) ≡ max (worst_of size d sent bits) (worst_of size j next more)

  worst_none : Worse 0 [] []
  unfolding worst_of
  worst_none =
      let none : d + 0 ≡ d = omega arith in
      rw (none, append-nil sent, append-nil bits) (omega arith)

  -- one block more
  worst_last : (j : ℕ) (next more x y : List ℕ) → length next ≡ size * j → length more ≡ size * j → length x ≡ size → length y ≡ size → Worse j next more
      → Worse (j + 1) (next ++ x) (more ++ y)
  worst_last j next more x y ln lm lx ly before =
      let on : d + (j + 1) ≡ d + j + 1 = omega arith in
      let all : length (sent ++ next) ≡ size * (d + j) = length-append sent next ∙ ap₂ ◌+◌ ls ln ∙ sym (mul-add size d j) in
      let both : length (bits ++ more) ≡ size * (d + j) = length-append bits more ∙ ap₂ ◌+◌ lb lm ∙ sym (mul-add size d j) in
      rw (on, ← append_assoc sent next x, ← append_assoc bits more y)
      (worst_more size (d + j) (sent ++ next) (bits ++ more) x y all both lx ly ∙ ap (λ (k : ℕ). max k (differ x y)) before
      ∙ omega (arith, worst_more size j next more x y ln lm lx ly))

  pub worst_behind : (j : ℕ) (next more : List ℕ) → length next ≡ size * j → length more ≡ size * j → Worse j next more
  worst_behind zero [] [] ln lm = worst_none
  worst_behind zero [] (b ∷ more) ln lm = absurd (omega (arith, mul-zero size))
  worst_behind zero (a ∷ next) more ln lm = absurd (omega (arith, mul-zero size))
  worst_behind (suc j) next more ln lm =
      let x = take (size * j) next in
      let y = take (size * j) more in
      let front : (w : List ℕ) → length w ≡ size * suc j → length (take (size * j) w) ≡ size * j
      = λ w l. length-take-le (size * j) w (omega (arith, mul-suc size j)) in
      let last : (w : List ℕ) → length w ≡ size * suc j → length (drop (size * j) w) ≡ size = λ w l. length-drop (size * j) w ∙ omega (arith, mul-suc size j) in
      rw (take-append-drop (size * j) next, take-append-drop (size * j) more, add-one j) at
      (worst_last j x y (drop (size * j) next) (drop (size * j) more) (front next ln) (front more lm) (last next ln) (last more lm)
      (worst_behind j x y (front next ln) (front more lm)))

-- ---- d blocks that fit, and j behind them, from any register

module _ (mode base register d j : ℕ) (carried : register ≡ register_after (8 * (block_bytes mode * d)) base) (bits more : List ℕ)
    (lb : length bits ≡ block_bits mode * d) (lm : length more ≡ block_bits mode * j) (f g : List ℕ)
    (fits : Fits (wire_from mode base (block_bytes mode * d)) bits f) where
  module _ (lg : length g ≡ block_bytes mode * j) where
    -- what is sent for them
    abbrev sent : List ℕ
    sent = coded_from mode base f

    abbrev next : List ℕ
    next = coded_from mode register g

    sent_joined : coded_from mode base (f ++ g) ≡ sent ++ next
    sent_joined = coded_append mode base d f fits.long register (carried ∙ ap (λ (n : ℕ). register_after (8 * n) base) (sym fits.long)) j g lg

    sent_long : length sent ≡ block_bits mode * d
    sent_long = length_coded mode base d f fits.long

    next_long : length next ≡ block_bits mode * j
    next_long = length_coded mode register j g lg

    pub total_joined : total (wire_from mode base (block_bytes mode * (d + j))) (bits ++ more) (f ++ g)
        ≡ total (wire_from mode base (block_bytes mode * d)) bits f + total (wire_from mode register (block_bytes mode * j)) more g
    total_joined = ap (λ (w : List ℕ). differ w (bits ++ more)) sent_joined ∙ differ-append sent bits next more (sent_long ∙ sym lb)

    pub worst_joined : worst (wire_from mode base (block_bytes mode * (d + j))) (bits ++ more) (f ++ g)
        ≡ max (worst (wire_from mode base (block_bytes mode * d)) bits f) (worst (wire_from mode register (block_bytes mode * j)) more g)
    worst_joined =
        rw (blocks_in_lem mode (d + j), blocks_in_lem mode d, blocks_in_lem mode j, sent_joined)
        (worst_behind (block_bits mode) d sent bits sent_long lb j next more next_long lm)

    near_joined : ((b : ℕ) → b < j → count_at (block_bits mode) b next more ≤ mends_b mode) → (b : ℕ) → b < d + j
        → count_at (block_bits mode) b (coded_from mode base (f ++ g)) (bits ++ more) ≤ mends_b mode
    near_joined near b l = rw sent_joined (by (dec_le d b))
      where
        by : Dec (d ≤ b) → count_at (block_bits mode) b (sent ++ next) (bits ++ more) ≤ mends_b mode
        by (yes h) =
            let e : b ≡ d + (b - d) = omega arith in
            rw (e, block_behind (block_bits mode) sent next d (b - d) sent_long, block_behind (block_bits mode) bits more d (b - d) lb)
            (near (b - d) (omega arith))
        by (no h) =
            let low = one_more (block_bits mode) b d (omega arith) in
            rw (block_kept (block_bits mode) sent next b (omega (arith, sent_long)), block_kept (block_bits mode) bits more b (omega (arith, lb)))
            (fits.near b (rw (blocks_in_lem mode d) (omega arith)))

  pub fits_joined : Fits (wire_from mode register (block_bytes mode * j)) more g → Fits (wire_from mode base (block_bytes mode * (d + j))) (bits ++ more) (f ++ g)
  fits_joined behind = record {
    long = length-append f g ∙ ap₂ ◌+◌ fits.long behind.long ∙ sym (mul-add (block_bytes mode) d j);
    bytes = bytes_append f g fits.bytes behind.bytes;
    near = λ b l. near_joined behind.long (λ i h. behind.near i (rw (blocks_in_lem mode j) h)) b (rw (blocks_in_lem mode (d + j)) at l);
  }

-- ---- the first that is hopeless

-- it is the first as well of other bits, where it and the blocks before it are the same
pub hopeless_same : {c : Code} {k j m : ℕ} {bits bits' : List ℕ} → FirstHopeless c k bits m → m < j
    → ((b : ℕ) → b ≤ m → block_at c.n b bits' ≡ block_at c.n b bits) → FirstHopeless c j bits' m
hopeless_same {m = m} h l same = record {
  one = l;
  none = λ p. h.none (p.0, rw (same m (omega arith)) at p.1);
  before = λ b lb. rw (same b (omega arith)) (h.before b lb);
}

-- whatever comes behind it
pub hopeless_kept : {c : Code} {k j m : ℕ} {bits : List ℕ} → FirstHopeless c k bits m → m < j → c.n * suc m ≤ length bits → (more : List ℕ)
    → FirstHopeless c j (bits ++ more) m
hopeless_kept {c} {m = m} {bits} h l whole more =
    hopeless_same h l (λ b lb. let low = one_more c.n b (suc m) (omega arith) in block_kept c.n bits more b (omega arith))

-- behind d blocks that fit
module _ (mode base d j : ℕ) (known : mode ≤ 2) (not : mode ≢ 0) (bits more f : List ℕ) (lb : length bits ≡ block_bits mode * d)
    (fits : Fits (wire_from mode base (block_bytes mode * d)) bits f) where
  long_coded : length bits ≡ (code_b mode).n * d
  long_coded = rw (coded mode known not).whole lb

  -- those can be mended
  before_mendable : (b : ℕ) → b < d → Mendable (code_b mode) b (bits ++ more)
  before_mendable b l =
      let c = coded mode known not in
      let low = one_more (code_b mode).n b d l in
      rw (block_kept (code_b mode).n bits more b (omega (arith, long_coded)))
      (fits_mendable (wire_from mode base (block_bytes mode * d)) (code_b mode) (sym c.whole) (sym c.mends)
      (codeword_b mode base (block_bytes mode * d) known (mul-mod_right (block_bytes mode) d) not) bits f fits b (rw (blocks_in_lem mode d) l))

  pub hopeless_joined : (block : ℕ) → FirstHopeless (code_b mode) j more block → FirstHopeless (code_b mode) (d + j) (bits ++ more) (d + block)
  hopeless_joined block hopeless = record {
    one = omega (arith, hopeless.one);
    none = λ p. hopeless.none (p.0, rw (block_behind (code_b mode).n bits more d block long_coded) at p.1);
    before = λ b l. by b l (dec_le d b);
  }
    where
      by : (b : ℕ) → b < d + block → Dec (d ≤ b) → Mendable (code_b mode) b (bits ++ more)
      by b l (yes h) =
          let e : b ≡ d + (b - d) = omega arith in
          rw (e, block_behind (code_b mode).n bits more d (b - d) long_coded) (hopeless.before (b - d) (omega arith))
      by b l (no h) = before_mendable b (omega arith)

-- of the first blocks, when more comes
pub hopeless_more : (c : Code) (d m : ℕ) → d ≤ m → (front more : List ℕ) → length front ≡ c.n * d → (block : ℕ) → FirstHopeless c d front block
    → FirstHopeless c m (front ++ more) block
hopeless_more c d m l front more long block hopeless =
    hopeless_kept hopeless (omega (arith, hopeless.one)) (omega (arith, one_more c.n block d hopeless.one)) more
