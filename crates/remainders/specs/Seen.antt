-- What is read of a lent table: of its entries as many machine words below the highest as are told.
-- Assumes nothing.
use Rattle.std.specs.Prelude.{List, ℕ, suc, ◌*◌, take}
use Rattle.remainders.specs.declared.Seen.{Seen}

abbrev pub seen : Seen → List ℕ
seen s = take (64 * suc s.below) s.table.now
