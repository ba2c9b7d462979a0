-- `payload::scrambler::pack_bytes` meets its contract: machine word after machine word, and then one that is not whole.
-- Assumes nothing.
use Rattle.std.proofs.Common.{◌≡◌, ap, ◌∙◌, List, ℕ, min, length, take}
use native.Mathlib.Omega.{arith}
use Rattle.std.proofs.lemmas.List.{take_min, length-take}
use Rattle.bits.proofs.Octets.{bytes_from}
use Rattle.payload.proofs.Packing.{packing_none, packing_eight, packing_last, packing_all}
use Rattle.payload.proofs.scrambler.pack_bytes.Goals as goal

pub loop-w-init : goal.loop-w-init
loop-w-init c = let a = c.args in packing_none a.register a.bytes.now

-- the first 64, or all
whole : (bytes : List ℕ) (n : ℕ) → n ≡ min (length bytes) 64 → take n bytes ≡ take 64 bytes
whole bytes n e = ap (λ (k : ℕ). take k bytes) (omega arith) ∙ take_min 64 bytes

pub loop-w-preserved : goal.loop-w-preserved
loop-w-preserved c =
    let l = c.loop-w in
    let a = c.args in
    let chunks = c.as_chunks.ensures in
    let eight = c.scramble64-eight.ensures in
    packing_eight a.register a.bytes.now _ (whole a.bytes.now _ c.min.ensures) _ _ chunks.front chunks.back _ _ _ l.invariant (omega arith) (bytes_from a.bytes.now (λ i. (c.type_inv.bytes i).fits)) c.from_be_bytes.ensures eight.0 eight.1

pub returns-then-rest-gt0 : goal.returns-then-rest-gt0
returns-then-rest-gt0 c =
    let a = c.args in
    let chunks = c.as_chunks.ensures in
    let last = c.scramble_last-last.ensures in
    packing_last a.register a.bytes.now _ (whole a.bytes.now _ c.min.ensures) _ _ chunks.front chunks.back (length c.as_chunks.result.0.now) _ _ c.loop-w.invariant (omega arith) (omega arith)
    c.if-rest-gt0.true last.0 last.1

pub returns-else-rest-gt0 : goal.returns-else-rest-gt0
returns-else-rest-gt0 c =
    let a = c.args in
    let all = ap length (whole a.bytes.now _ c.min.ensures) in
    let few = length-take 64 a.bytes.now in
    packing_all a.register a.bytes.now c.loop-w.invariant (omega (arith, all, few)) (omega (arith, all, few))
