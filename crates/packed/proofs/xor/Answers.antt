-- `packed::xor` meets its contract: machine word after machine word.
-- Assumes nothing.
use mathlib.Core.Path.{refl}
use mathlib.Core.List.{zip_with}
use native.Mathlib.Omega.{arith}
use lib.Bits.{bit_xor}
use Rattle.packed.specs.Packed.{bits512}
use Rattle.packed.proofs.Walks.{from_none}
use Rattle.packed.proofs.Stores.{stored_more, stored_all, length_sum, sum_at}
use Rattle.packed.proofs.xor.Goals as goal

pub loop-i-init : goal.loop-i-init
loop-i-init c = (refl, from_none 0 _)

pub loop-i-preserved : goal.loop-i-preserved
loop-i-preserved c =
    let l = c.loop-i in
    let a = c.args in
    let v = a.v.now in
    let w = a.w.now in
    stored_more (zip_with bit_xor (bits512 v) (bits512 w)) l.out l.i _ (omega arith) (sum_at v w l.i (omega arith)) l.invariant

pub returns : goal.returns
returns c =
    let l = c.loop-i in
    let a = c.args in
    let v = a.v.now in
    let w = a.w.now in
    stored_all (zip_with bit_xor (bits512 v) (bits512 w)) l.out l.i (length_sum v w) (omega arith) l.invariant
