-- `decoder::mending::tests::mends_three` meets its contract: its code is sound, and there is no bit behind a first part.
-- Assumes nothing.
use Rattle.decoder.proofs.Entries.{first_clear}
use Rattle.decoder.proofs.Lent.{sound_3}
use Rattle.decoder.proofs.mending.tests.mends_three.Goals as goal

pub of_any-three-requires : goal.of_any-three-requires
of_any-three-requires c after = (sound_3, first_clear sound_3 _ _ after.first.ensures)

pub of_any-four-requires : goal.of_any-four-requires
of_any-four-requires c after = (sound_3, first_clear sound_3 _ _ after.first-2.ensures)
