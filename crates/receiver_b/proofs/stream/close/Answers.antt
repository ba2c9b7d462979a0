-- `receiver_b::stream::close` meets its contract: a mended block is one block more of the frame.
-- Assumes nothing.
use mathlib.Core.Path.{◌≡◌, ap}
use Prim.Native.Nat.{ℕ, ◌+◌, ◌*◌}
use Rattle.payload_b.specs.CodedB.{block_bytes}
use Rattle.payload_b.specs.ModesB.{number_of}
use Rattle.receiver_b.proofs.Closing.{whole_block, closes_mended}
use Rattle.receiver_b.proofs.stream.close.Goals as goal

pub returns : goal.returns
returns c =
    let a = c.args in
    let step = c.block_bytes-step in
    let at = step.result * a.from.done in
    let place : at ≡ block_bytes (number_of a.mode) * a.from.done = ap (λ (n : ℕ). n * a.from.done) step.ensures in
    rw (c.block_bits.ensures, c.max.ensures)
    (closes_mended c.requires (whole_block (number_of a.mode) a.block) at (at + step.result) place (ap (λ (n : ℕ). at + n) step.ensures)
    c.in_ok-finished.ensures)
