-- The checks 1, 2, 3, 7, 8 and 11 of Payload A, one after the other: what a test of the code says of `send_checked`, `receive_checked`, `points_checked` and
-- `noise_checked`.
-- Assumes nothing.
use mathlib.Core.Path.{◌≡◌}
use mathlib.Core.Logic.{◌≢◌}
use mathlib.Core.Bool.{true, false}
use mathlib.Core.List.{List}
use Prim.Native.Nat.{ℕ, ◌≤◌, ◌<◌}
use borrow.Author.Tests.{le-leb, lt-leb, lt-ltb, le-ltb, eq-eqb, ne_eqb}
use lib.IntN.{ℤ}
use lib.ListN.{length}
use Rattle.points.specs.Dqpsk.{dibits, stray_at}
use Rattle.symbols.specs.Grids.{received, first_occupied, room}
use Rattle.answers.specs.Checks.{Checked, fails, passes}
use Rattle.payload_a.specs.Segments.{protected_differing, most_differing}
use Rattle.payload_a.specs.CodedA.{bytes_a}
use Rattle.payload_a.specs.PromiseA.{send_checked, noise_checked, points_checked, receive_checked}

-- ---- send

module _ (P : Checked Unit → Type 0) (mode : ℕ) (frame : List ℕ) (is qs : List ℤ) where
  module _ (known : mode ≤ 1) where
    pub wrong_length : length frame ≢ bytes_a mode → P (fails 2 0) → P (send_checked mode frame is qs)
    wrong_length n p = rw (le-leb mode 1 known, ne_eqb (length frame) (bytes_a mode) n) p

    module _ (long : length frame ≡ bytes_a mode) where
      pub sendable : true ≡ room 512 is qs → P (passes tt) → P (send_checked mode frame is qs)
      sendable e p = rw (le-leb mode 1 known, eq-eqb (length frame) (bytes_a mode) long, ← e) p

-- ---- receive

module _ (P : Checked Unit → Type 0) (mode : ℕ) (is qs : List ℤ) (area : List ℕ) where
  pub no_mode : 1 < mode → P (fails 1 0) → P (receive_checked mode is qs area)
  no_mode l p = rw (lt-leb mode 1 l) p

  module _ (known : mode ≤ 1) where
    pub no_points : false ≡ room 512 is qs → P (fails 3 0) → P (receive_checked mode is qs area)
    no_points e p = rw (le-leb mode 1 known, ← e) p

    module _ (points : true ≡ room 512 is qs) where
      pub no_area : length area < bytes_a mode → P (fails 3 0) → P (receive_checked mode is qs area)
      no_area l p = rw (le-leb mode 1 known, ← points, lt-leb (bytes_a mode) (length area) l) p

      pub receivable : bytes_a mode ≤ length area → P (points_checked is qs) → P (receive_checked mode is qs area)
      receivable l p = rw (le-leb mode 1 known, ← points, le-leb (bytes_a mode) (length area) l) p

-- ---- points

module _ (P : Checked Unit → Type 0) (is qs : List ℤ) where
  pub legal : 512 ≤ first_occupied is qs 0 512 → 420 ≤ stray_at (received 2 is qs) → P (noise_checked (dibits (received 2 is qs))) → P (points_checked is qs)
  legal empty l p = rw (le-ltb (first_occupied is qs 0 512) 512 empty, le-ltb (stray_at (received 2 is qs)) 420 l) p

-- ---- noise

module _ (P : Checked Unit → Type 0) (bits : List ℕ) where
  pub noise : most_differing < protected_differing bits → P (fails 11 0) → P (noise_checked bits)
  noise l p = rw (lt-ltb most_differing (protected_differing bits) l) p

  pub no_noise : protected_differing bits ≤ most_differing → P (passes tt) → P (noise_checked bits)
  no_noise l p = rw (le-ltb most_differing (protected_differing bits) l) p
