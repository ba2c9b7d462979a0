-- Laws of what is sent for a frame, of Payload A and of Payload B alike: clean bits fit their frame, no two frames fit the same bits, and where one fits,
-- each coded block can be mended. And of blocks, when more bits come behind them.
-- Assumes nothing.
use mathlib.Core.Path.{◌≡◌, refl, sym, ap, ap₂, ◌∙◌}
use mathlib.Core.List.{List, [], ◌∷◌, ◌++◌}
use Prim.Native.Nat.{ℕ, zero, suc, ◌+◌, ◌*◌, ◌≤◌, ◌<◌}
use native.Mathlib.Decide.{dec_lt}
use native.Mathlib.Nat.{mul-suc, mul-le-mul_left}
use native.Mathlib.Omega.{arith}
use lib.ListN.{length, take, drop, length-drop, take-append-drop}
use lib.Seq.{drop-drop, length-take-le, take_all, drop_at, take-append-le, drop-append-le}
use Rattle.bits.specs.Words.{differ}
use Rattle.bits.specs.Bytes.{Bytes}
use Rattle.bits.proofs.Distances.{differ_self, differ-zero}
use Rattle.bch.specs.Codes.{Code, known, named, Codeword}
use Rattle.bch.proofs.Mendings.{only_codeword}
use Rattle.payload.specs.Wire.{Wire, block_at, Fits, Mendable, FirstHopeless}

-- words of m parts of k elements, each part the same
pub parts_same : (k m : ℕ) (x y : List ℕ) → length x ≡ k * m → length y ≡ k * m
    → ((b : ℕ) → b < m → take k (drop (k * b) x) ≡ take k (drop (k * b) y)) → x ≡ y
parts_same k zero [] [] lx ly e = refl
parts_same k zero [] (b ∷ y) lx ly e = absurd (omega arith)
parts_same k zero (a ∷ x) y lx ly e = absurd (omega arith)
parts_same k (suc m) x y lx ly e =
    let zero_is : k * 0 ≡ 0 = omega arith in
    let first : take k x ≡ take k y = rw zero_is at (e 0 (omega arith)) in
    let up : (b : ℕ) → k + k * b ≡ k * suc b = λ b. omega arith in
    let on : (w : List ℕ) (b : ℕ) → take k (drop (k * b) (drop k w)) ≡ take k (drop (k * suc b) w)
    = λ w b. ap (take k) (drop-drop (k * b) k w ∙ ap (λ (n : ℕ). drop n w) (up b)) in
    let rest : drop k x ≡ drop k y
    = parts_same k m (drop k x) (drop k y) (length-drop k x ∙ omega arith) (length-drop k y ∙ omega arith)
    (λ b l. on x b ∙ e (suc b) (omega arith) ∙ sym (on y b)) in
    sym (take-append-drop k x) ∙ ap₂ ◌++◌ first rest ∙ take-append-drop k y

-- the part b of m is within them
pub one_more : (n b m : ℕ) → b < m → n * b + n ≤ n * m
one_more n b m l = omega (arith, mul-suc n b, mul-le-mul_left n l)

-- a block is as long as it should be
pub block_long : (size m : ℕ) (bits : List ℕ) → length bits ≡ size * m → (b : ℕ) → b < m → length (block_at size b bits) ≡ size
block_long size m bits long b l = length-take-le size (drop (size * b) bits) (rw length-drop (omega (arith, one_more size b m l)))

module _ (size : ℕ) (front more : List ℕ) (b : ℕ) where
  -- a whole block stays as it is when more comes
  pub block_kept : size * b + size ≤ length front → block_at size b (front ++ more) ≡ block_at size b front
  block_kept l =
      ap (take size) (drop-append-le (size * b) front more (omega arith))
      ∙ take-append-le size (drop (size * b) front) more (rw length-drop (omega arith))

  -- what comes is the next, where the blocks before are whole
  pub block_last : length front ≡ size * b → length more ≡ size → block_at size b (front ++ more) ≡ more
  block_last lf lm = ap (take size) (drop_at front more (size * b) lf) ∙ take_all size more (omega arith)

-- what is known of the blocks of a wire: none of their bits may differ, or each is a codeword of one code, and its t may
pub data Blocks (w : Wire) : Type 0 where
  plain : w.mends ≡ 0 → Blocks w
  coded : (number : ℕ) (c : Code) → named number ≡ known c → w.size ≡ c.n → w.mends ≡ c.t
      → ((f : List ℕ) → length f ≡ w.bytes → (b : ℕ) → b < w.blocks → Codeword c (block_at w.size b (w.sent f))) → Blocks w

-- and of all of it: the bits sent are those of the blocks, and say which frame it was
pub record Lawful (w : Wire) : Type 0 where
  pub blocks : Blocks w
  pub long : (f : List ℕ) → length f ≡ w.bytes → length (w.sent f) ≡ w.size * w.blocks
  pub told : (f g : List ℕ) → length f ≡ w.bytes → length g ≡ w.bytes → Bytes f → Bytes g → w.sent f ≡ w.sent g → f ≡ g

-- clean bits fit their frame
pub fits_clean : (w : Wire) (frame : List ℕ) → length frame ≡ w.bytes → Bytes frame → Fits w (w.sent frame) frame
fits_clean w frame long bytes =
    record { long = long; bytes = bytes; near = λ b _. omega (arith, differ_self (block_at w.size b (w.sent frame))) }

module _ {w : Wire} (lawful : Lawful w) (bits : List ℕ) (as_many : length bits ≡ w.size * w.blocks) where
  -- two frames that fit are sent as the same blocks
  same_block : (f g : List ℕ) → Fits w bits f → Fits w bits g → Blocks w → (b : ℕ) → b < w.blocks
      → block_at w.size b (w.sent f) ≡ block_at w.size b (w.sent g)
  same_block f g p q (plain none) b l = clean f p b l ∙ sym (clean g q b l)
    where
      clean : (h : List ℕ) → Fits w bits h → (b : ℕ) → b < w.blocks → block_at w.size b (w.sent h) ≡ block_at w.size b bits
      clean h fits b l = let z = fits.near b l in differ-zero _ _ (omega arith)
  same_block f g p q (coded number c is size mends codeword) b l =
      only_codeword number is {w = block_at w.size b bits} (block_long w.size w.blocks bits as_many b l ∙ size)
      (record { codeword = codeword f p.long b l; near = let z = p.near b l in omega arith })
      (record { codeword = codeword g q.long b l; near = let z = q.near b l in omega arith })

  -- there are never two frames that fit
  pub one_fits : (f g : List ℕ) → Fits w bits f → Fits w bits g → f ≡ g
  one_fits f g p q =
      lawful.told f g p.long q.long p.bytes q.bytes
      (parts_same w.size w.blocks (w.sent f) (w.sent g) (lawful.long f p.long) (lawful.long g q.long) (same_block f g p q lawful.blocks))

module _ (w : Wire) (c : Code) (size : w.size ≡ c.n) (mends : w.mends ≡ c.t)
    (codeword : (f : List ℕ) → length f ≡ w.bytes → (b : ℕ) → b < w.blocks → Codeword c (block_at w.size b (w.sent f))) where
  -- where a frame fits, each coded block can be mended
  pub fits_mendable : (bits frame : List ℕ) → Fits w bits frame → (b : ℕ) → b < w.blocks → Mendable c b bits
  fits_mendable bits frame fits b l =
      let near : differ (block_at c.n b (w.sent frame)) (block_at c.n b bits) ≤ c.t = rw (size, mends) at (fits.near b l) in
      (block_at c.n b (w.sent frame), record { codeword = rw size at (codeword frame fits.long b l); near = near })

  -- so none is hopeless
  pub fits_hopeless : (bits frame : List ℕ) → Fits w bits frame → (block : ℕ) → FirstHopeless c w.blocks bits block → ⊥
  fits_hopeless bits frame fits block hopeless = hopeless.none (fits_mendable bits frame fits block hopeless.one)

-- the first hopeless block is one
pub one_hopeless : (c : Code) (blocks : ℕ) (bits : List ℕ) (a b : ℕ) → FirstHopeless c blocks bits a → FirstHopeless c blocks bits b → a ≡ b
one_hopeless c blocks bits a b p q = go (dec_lt a b) (dec_lt b a)
  where
    go : Dec (a < b) → Dec (b < a) → a ≡ b
    go (yes l) _ = absurd (p.none (q.before a l))
    go (no _) (yes l) = absurd (q.none (p.before b l))
    go (no m) (no n) = omega arith
