-- `sender_a::sender::symbol` meets its contract: each field and each segment stands behind those before it.
-- Assumes nothing.
use mathlib.Core.Path.{refl, sym, ◌∙◌}
use mathlib.Core.List.{[]}
use native.Mathlib.Omega.{arith}
use lib.ListN.{take, drop, replicate}
use lib.Seq.{take_all}
use Rattle.payload_a.specs.Segments.{field1, field2, field3, symbol_of}
use Rattle.payload_a.proofs.Puttings.{put_next}
use Rattle.sender_a.proofs.Splitting.{first_long, second_long, second_whole}
use Rattle.sender_a.proofs.sender.symbol.Goals as goal

pub returns : goal.returns
unfolding symbol_of
returns c =
    let block = c.args.block.now in
    let m = first_long 196 block c.requires in
    let n = second_long 196 block c.requires in
    let whole = second_whole 196 block c.requires in
    let t1 = put_next (replicate 420 0) field1 0 (omega arith) [] _ 10 refl refl c.put.ensures in
    let t2 = put_next c.put.new.out (take 196 block) 10 (omega arith) _ _ 206 (omega arith) t1 c.put-2.ensures in
    let t3 = put_next c.put-2.new.out field2 206 (omega arith) _ _ 216 (omega arith) t2 c.put-3.ensures in
    let t4 = put_next c.put-3.new.out (drop 196 block) 216 (omega arith) _ _ 412 (omega arith) t3 (rw whole at c.put-4.ensures) in
    let t5 = put_next c.put-4.new.out field3 412 (omega arith) _ _ 420 (omega arith) t4 c.put-5.ensures in
    sym (take_all 420 _ (omega arith)) ∙ t5
