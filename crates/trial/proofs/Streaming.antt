-- Reading and writing step by step: what each step leaves is the rest, and what it writes follows.
-- Assumes nothing.
use Rattle.std.proofs.Common.{Option, List, ℕ}
use Rattle.streams.specs.Streams.{AppendsFront, Grows}
use Rattle.streams.proofs.Reading.{rest_none, rest_trans}
use Rattle.streams.proofs.Writing.{grows_none, grows_trans, front_grows}

-- a front is written, and then more
pub front_more : (a b c : Option (List ℕ)) (xs : List ℕ) → AppendsFront a b xs → Grows b c → Grows a c
front_more a b c xs p q = grows_trans a b c (front_grows a b xs p) q

-- one step after the other, and one write after the other
pub ruleset steps = (rest_none, grows_none, rest_trans, grows_trans, front_grows)

pub ruleset writes = (front_more, front_grows)
