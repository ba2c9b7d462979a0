-- `trial::stream::write_block` meets its contract: the words are written from the front, and each turn writes one more.
use Rattle.std.proofs.Common.{take}
use Rattle.std.specs.Io.KnownBytes.{Appends}
use Rattle.trial.specs.Format.{word_bytes}
use Rattle.trial.proofs.stream.write_block.Given as goal

abbrev pub invariant-loop-word : goal.invariant-loop-word
invariant-loop-word g l = Appends (g.W.Write.contents l.initial.to) (g.W.Write.contents l.to) (word_bytes (take l.word-index l.block))
