-- `trial::stream::write_block` meets its contract: a word more stands after the bytes of those before it; one that fails leaves a front of its own.
use Rattle.std.proofs.Common.{sym, subst, arith}
use Rattle.std.proofs.KnownBytes.{Appends-nil, Appends-trans}
use Rattle.std.specs.Io.KnownBytes.{Appends}
use Rattle.streams.specs.Streams.{AppendsFront}
use Rattle.streams.proofs.Writing.{front_first, front_then}
use Rattle.trial.specs.Format.{word_bytes}
use Rattle.trial.proofs.Packing.{word_after, words_left}
use Rattle.trial.proofs.stream.write_block.Goals as goal

pub loop-word-init : goal.loop-word-init
unfolding word_bytes
loop-word-init g c = Appends-nil _

pub loop-word-preserved : goal.loop-word-preserved
loop-word-preserved g c =
    let after = word_after c.args.block.now c.loop-word.word-index (omega arith) in
    subst (Appends _ _) (sym after) (Appends-trans _ _ _ _ _ c.loop-word.invariant c.in_ok-write_count.ensures.ok)

pub returns-in_err-write_count-clause-front : goal.returns-in_err-write_count-clause-front
returns-in_err-write_count-clause-front g c =
    let all = words_left c.args.block.now c.loop-word.word-index (omega arith) in
    subst (AppendsFront _ _) (sym all) (front_then _ _ _ _ _ c.loop-word.invariant (front_first _ _ _ _ c.in_err-write_count.ensures.front))
