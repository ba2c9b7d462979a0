-- `payload_b::plan::sum` meets its contract: n is the sum of the entries so far, each at most 10.
-- Assumes nothing.
use mathlib.Core.Path.{◌≡◌, sym, ap, ◌∙◌}
use mathlib.Core.List.{List}
use Prim.Native.Nat.{ℕ, ◌<◌}
use native.Mathlib.Omega.{arith}
use native.Mathlib.Numerals.{add-one}
use lib.ListN.{length, take}
use lib.Seq.{take_all}
use Rattle.symbols.specs.Schemes.{sum_of}
use Rattle.symbols.proofs.Faults.{looked_at}
use Rattle.symbols.proofs.Schemes.{entry_in, sum_nil, sum_snoc, sum_whole}
use Rattle.payload_b.proofs.plan.sum.Goals as goal

-- the first 210 of 210 entries are all
first_all : {xs ns : List ℕ} → xs ≡ ns → length ns ≡ 210 → take 210 xs ≡ ns
first_all {xs} {ns} e long = ap (take 210) e ∙ take_all 210 ns (omega arith)

pub slice_bounds-entry-items-end : goal.slice_bounds-entry-items-end
slice_bounds-entry-items-end c =
    let all = first_all c.entries.ensures c.args.scheme.long in
    omega (arith, ap length c.entries.ensures, ap length all, c.args.scheme.long)

pub loop-entry-init : goal.loop-entry-init
loop-entry-init c = (sym sum_nil, omega arith)

pub overflow_add-n : goal.overflow_add-n
overflow_add-n c =
    let l = c.loop-entry in
    let scheme = c.args.scheme in
    let all = first_all c.entries.ensures scheme.long in
    let low : l.entry-index < 210 = omega (arith, ap length all, scheme.long) in
    omega (arith, rw all at c.from-n.ensures, entry_in (looked_at scheme.long scheme.within) l.entry-index low)

pub loop-entry-preserved : goal.loop-entry-preserved
loop-entry-preserved c =
    let l = c.loop-entry in
    let scheme = c.args.scheme in
    let all = first_all c.entries.ensures scheme.long in
    let low : l.entry-index < 210 = omega (arith, ap length all, scheme.long) in
    let one = rw all at c.from-n.ensures in (
      rw (add-one l.entry-index) (omega (arith, one, sum_snoc scheme.entries.now l.entry-index (omega (arith, scheme.long)))),
      omega (arith, one, entry_in (looked_at scheme.long scheme.within) l.entry-index low),
    )

pub returns : goal.returns
returns c =
    let l = c.loop-entry in
    let scheme = c.args.scheme in
    let all = first_all c.entries.ensures scheme.long in
    let end : l.entry-index ≡ 210 = omega (arith, ap length all, scheme.long) in
    c.from.ensures ∙ l.invariant.0 ∙ ap (λ (n : ℕ). sum_of (take n scheme.entries.now)) end ∙ sum_whole (looked_at scheme.long scheme.within)
