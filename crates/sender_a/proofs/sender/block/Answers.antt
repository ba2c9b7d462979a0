-- `sender_a::sender::block` meets its contract: the checks of `encoder::encode` pass, and the codeword fills the room.
-- Assumes nothing.
use mathlib.Core.Path.{refl, ◌∙◌}
use mathlib.Core.List.{append-nil}
use native.Mathlib.Omega.{arith}
use lib.ListN.{replicate}
use Rattle.bch.specs.Codes.{code3}
use Rattle.bch.proofs.Codewords.{encoded_front}
use Rattle.sender_a.proofs.sender.block.Goals as goal

pub returns : goal.returns
returns c =
    let pre = c.requires in
    encoded_front 3 {c = code3} refl _ (replicate 392 0) _ _ pre.0 pre.1 (omega arith) c.encode.ensures ∙ append-nil _
