-- `decoder::syndrome::syndromes` meets its contract: of whatever bits odd has the values, the entries before 2 l are the syndromes.
-- Assumes nothing.
use mathlib.Core.Path.{◌≡◌, refl}
use Prim.Native.Nat.{◌+◌, ◌*◌}
use native.Mathlib.Omega.{arith}
use lib.ListN.{length-set}
use Rattle.bch.proofs.Tops.{tops_bits}
use Rattle.decoder.proofs.Horners.{odds_of}
use Rattle.decoder.proofs.Squares.{odd_more, square_more}
use Rattle.decoder.proofs.syndrome.syndromes.Goals as goal

pub loop-l-preserved : goal.loop-l-preserved
loop-l-preserved c =
    let loop = c.loop-l in
    let l = loop.l in
    let e : (l + 1) * 2 ≡ l * 2 + 1 + 1 = omega arith in (
      simp length-set loop.invariant.0,
      λ bits are odds.
          rw (e, c.product.ensures)
          (square_more bits _ are l (simp length-set (omega arith))
          (odd_more bits loop.out _ c.args.t l (omega arith) (omega arith) odds (loop.invariant.1 bits are odds))),
    )

pub returns : goal.returns
returns c i h =
    c.loop-l.invariant.1 _ (tops_bits _ _)
    (λ l k. odds_of c.args.t 16 refl (omega (arith, c.requires.1)) c.take_all.ensures _ l (omega arith)) i (omega arith)
