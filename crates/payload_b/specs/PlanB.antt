-- What the checks 1, 2, 5 and 6 of Payload B find out about a frame, with which both directions begin.
-- Assumes nothing.
use Rattle.std.specs.Prelude.{◌≡◌, List, ℕ, ◌%◌, ◌≤◌, ◌<◌, Result, MatchResult}
use Rattle.answers.specs.Checks.{Checked, failing}
use Rattle.answers.specs.declared.Refusal.{Refusal}
use Rattle.payload_b.specs.CodedB.{block_bytes, blocks_in, symbols_for}
use Rattle.symbols.specs.Schemes.{sum_of, Scheme}
use Rattle.payload_b.specs.ModesB.{mode_of}
use Rattle.payload_b.specs.PromiseB.{most_symbols, planned}
use Rattle.payload_b.specs.declared.plan.Plan.{Plan}

-- what is known where they pass: a frame of n bytes can be sent
pub record Sendable (mode n : ℕ) (scheme : List ℕ) : Type 0 where
  pub known : mode ≤ 2
  pub some : 0 < n
  pub whole : n % block_bytes mode ≡ 0
  pub entries : Scheme scheme
  pub few : symbols_for mode n scheme ≤ most_symbols

-- the mode, the OFDM symbols needed, the blocks, and the bits of an OFDM symbol
abbrev pub plan_of : ℕ → ℕ → List ℕ → Plan
plan_of mode n scheme = record { mode = mode_of mode; symbols = symbols_for mode n scheme; blocks = blocks_in mode n; sum = sum_of scheme }

-- they pass, with this plan; or one fails, whatever checks follow
abbrev pub Judged : ℕ → ℕ → List ℕ → Result Plan Refusal → Type 0
Judged mode n scheme answer =
    MatchResult answer (λ plan. Sendable mode n scheme × (plan ≡ plan_of mode n scheme))
    (λ why. (next : Checked Unit) → planned mode n scheme next ≡ failing why)
