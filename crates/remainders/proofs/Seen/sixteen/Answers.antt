-- `remainders::Seen::sixteen` meets its contract: the four entries are added machine word by machine word.
-- Assumes nothing.
use Rattle.remainders.specs.Seen.{seen}
use Rattle.remainders.proofs.Narrow.{four_joined}
use Rattle.remainders.proofs.Seen.sixteen.Goals as goal

pub returns : goal.returns
returns c =
    let a = c.args in
    rw (c.four-3.ensures.0, c.four-2.ensures.0, c.four.ensures.0)
    (four_joined (seen a.self.now) a.z c.four-2.ensures.1 c.four-3.ensures.1)
