-- The promise of encode_packed leaves one answer, and one packed word beside it.
-- Assumes nothing.
use mathlib.Core.Path.{◌≡◌}
use mathlib.Core.List.{List}
use Prim.Native.Nat.{ℕ}
use lib.ListN.{length, take, replicate}
use Rattle.bch.specs.Codes.{named}
use Rattle.bch.proofs.Once.{encode_once}
use Rattle.packed.specs.Packed.{bits512}
use Rattle.packed.proofs.Once.{Wide, words_once}
use Rattle.encoder.specs.Promise.{information_by, EncodingPacked}
use Rattle.answers.specs.Answers.{Written}

pub encode_packed_once : (c : ℕ) (words : List ℕ) (a b : Written) (u v : List ℕ) → length u ≡ 8 → length v ≡ 8 → Wide u → Wide v
    → EncodingPacked c words a u → EncodingPacked c words b v → (a ≡ b) × (u ≡ v)
encode_packed_once c words a b u v lu lv wu wv p q =
    let same = encode_once (take (information_by (named c)) (bits512 words)) (replicate 512 0) a b (bits512 u) (bits512 v) c p q in
    (same.0, words_once u v lu lv wu wv same.1)
