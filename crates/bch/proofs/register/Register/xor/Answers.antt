-- `bch::register::Register::xor` meets its contract: digits are added one by one, so words are too.
-- Assumes nothing.
use native.Mathlib.Omega.{arith}
use Rattle.bch.proofs.Triples.{joined-xor}
use Rattle.bch.proofs.register.Register.xor.Goals as goal

pub returns : goal.returns
returns c =
    let a = c.args in
    joined-xor 64 a.self.high a.self.mid a.self.low a.s.high a.s.mid a.s.low
    (omega arith) (omega arith) (omega arith) (omega arith)
