-- Where an OFDM symbol can be written, and what is written.
-- Assumes nothing.
use mathlib.Core.Path.{◌≡◌, refl}
use mathlib.Core.Bool.{true}
use mathlib.Core.List.{List, append-nil}
use Prim.Native.Nat.{ℕ, ◌*◌}
use native.Mathlib.Omega.{arith}
use borrow.Author.Tests.{eq-eqb}
use lib.IntN.{ℤ}
use lib.ListN.{length, drop_of_length-le}
use Rattle.points.specs.declared.Point.{Point}
use Rattle.symbols.proofs.Rooms.{room_enough}
use Rattle.symbols.specs.Schemes.{Scheme}
use Rattle.symbols.specs.ByScheme.{readable, symbol_written}
use Rattle.sender_b.specs.Steps.{spread_of}

module _ {scheme : List ℕ} (good : Scheme scheme) (is qs : List ℤ) (li : length is ≡ 256) (lq : length qs ≡ 256) where
  pub can_write : readable 1 scheme is qs ≡ true
  can_write =
      rw (eq-eqb (length scheme) 210 good.long, good.entries, ← room_enough (256 * 1) is qs (omega arith) (omega arith)) refl

  -- its bits are
  pub symbol_ours : (level : Point → ℤ) (bits : List ℕ) (levels : List ℤ) → length levels ≡ 256
      → symbol_written level scheme bits is qs levels ≡ spread_of level scheme bits
  symbol_ours level bits levels l =
      rw (can_write, drop_of_length-le levels {i = 256} (omega arith)) (append-nil (spread_of level scheme bits))
