-- `symbols::scheme::Scheme::bits` meets its contract: each entry of a scheme that was looked at is from 2 to 10.
-- Assumes nothing.
use Rattle.symbols.proofs.Schemes.{entry_in}
use Rattle.symbols.proofs.Faults.{looked_at}
use Rattle.symbols.proofs.scheme.Scheme.bits.Goals as goal

pub invariant_of-result : goal.invariant_of-result
invariant_of-result c =
    let entry = entry_in (looked_at c.args.self.long c.args.self.within) c.args.s c.requires in
    record { least = entry.0; most = entry.1 }
