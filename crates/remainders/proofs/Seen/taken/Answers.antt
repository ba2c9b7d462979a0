-- `remainders::Seen::taken` meets its contract: what is left of the machine words is taken in after what the register has taken, and then the bytes.
-- Assumes nothing.
use mathlib.Core.Path.{ap, ◌∙◌}
use Prim.Native.Nat.{ℕ, ◌+◌, ◌-◌, ◌/◌, ◌%◌}
use native.Mathlib.Omega.{arith}
use lib.ListN.{get_or}
use Rattle.bch.specs.Registers.{contents}
use Rattle.remainders.specs.Seen.{seen}
use Rattle.remainders.specs.Taking.{machine_words_by, bytes_by, taken_by}
use Rattle.remainders.proofs.Turns.{words_turn, words_end}
use Rattle.remainders.proofs.Seen.taken.Goals as goal

pub loop-i-preserved : goal.loop-i-preserved
loop-i-preserved c =
    let l = c.loop-i in
    let a = c.args in
    let n = c.min-bytes.result / 8 in
    let table = seen a.self.now in
    let rest : ℕ → ℕ = λ x. machine_words_by table (n - (l.i + 1)) (l.i + 1) x a.words.now in
    ap rest c.machine_word-r.ensures ∙ words_turn table a.words.now n l.i (contents l.r) (omega arith) ∙ l.invariant

pub returns : goal.returns
unfolding taken_by
returns c =
    let l = c.loop-i in
    let found = c.min-bytes in
    let a = c.args in
    let table = seen a.self.now in
    let read : ℕ → ℕ → ℕ = λ b x. bytes_by table (b % 8) x (get_or a.words.now (b / 8) 0) in
    let whole = words_end table a.words.now (found.result / 8) l.i (contents l.r) (omega arith) ∙ l.invariant in
    c.some_bytes.ensures ∙ ap (read found.result) whole
    ∙ ap (λ (b : ℕ). read b (machine_words_by table (b / 8) 0 0 a.words.now)) found.ensures
