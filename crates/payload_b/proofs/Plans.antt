-- Whole blocks and OFDM symbols of a frame; and the checks 1, 2, 5 and 6, one after the other: what a test says of `planned`, whatever follows.
-- Assumes nothing.
use mathlib.Core.Path.{◌≡◌, refl, sym, ap, ◌∙◌}
use mathlib.Core.Logic.{◌≢◌}
use mathlib.Core.Bool.{false, and-false}
use mathlib.Core.List.{List}
use Prim.Native.Nat.{ℕ, zero, suc, ◌+◌, ◌-◌, ◌*◌, ◌/◌, ◌%◌, ◌≤◌, ◌<◌}
use native.Mathlib.Nat.{mod-lt, div-add-mod, mul-zero}
use native.Mathlib.Decide.{ℕ_discrete}
use native.Mathlib.Omega.{arith}
use borrow.Author.Tests.{le-leb, lt-leb, lt-ltb, le-ltb, eq-eqb, ne_eqb, eqb-false}
use lib.Dec.{ltb}
use lib.ListN.{length}
use Rattle.payload_b.specs.CodedB.{block_bytes, blocks_in, bits_for, symbols_for}
use Rattle.symbols.specs.Schemes.{sum_of, bad_entry}
use Rattle.answers.specs.Checks.{Checked, fails}
use Rattle.payload_b.specs.PromiseB.{planned}
use Rattle.payload_b.specs.ModesB.{number_of}
use Rattle.payload_b.specs.PlanB.{Sendable, plan_of}
use Rattle.payload_b.specs.declared.plan.Plan.{Plan}
use Rattle.payload_b.proofs.ModesB.{number_of_lem}
use Rattle.symbols.specs.ByScheme.{is_good, bad_place}
use Rattle.symbols.proofs.Faults.{place_of_long}
use Rattle.symbols.proofs.Schemes.{bad_most, sum_least}

-- ---- whole blocks and whole OFDM symbols

-- a quotient rounded up is enough
rounded_up : (a b : ℕ) → 0 < b → a ≤ b * ((a + (b - 1)) / b)
rounded_up a b p = omega (arith, div-add-mod (a + (b - 1)) b, mod-lt (a + (b - 1)) p)

-- bytes without remainder are those of their blocks
pub whole_blocks : (mode n : ℕ) → n % block_bytes mode ≡ 0 → n ≡ block_bytes mode * blocks_in mode n
whole_blocks mode n e = omega (arith, div-add-mod n (block_bytes mode))

-- there is one
pub some_blocks : {mode n : ℕ} {scheme : List ℕ} → Sendable mode n scheme → 0 < blocks_in mode n
some_blocks {mode} {n} plan = by (blocks_in mode n) (whole_blocks mode n plan.whole) plan.some
  where
    by : (b : ℕ) → n ≡ block_bytes mode * b → 0 < n → 0 < b
    by zero e some = absurd (omega (arith, e, mul-zero (block_bytes mode)))
    by (suc b) e some = omega arith

-- the OFDM symbols hold the coded bits
pub symbols_hold : {mode n : ℕ} {scheme : List ℕ} → Sendable mode n scheme → bits_for mode n ≤ sum_of scheme * symbols_for mode n scheme
symbols_hold {mode} {n} {scheme} plan = rounded_up (bits_for mode n) (sum_of scheme) (omega (arith, sum_least plan.entries))

-- ---- the checks

module _ (mode n : ℕ) (scheme : List ℕ) (next : Checked Unit) where
  pub mode_unknown : 2 < mode → planned mode n scheme next ≡ fails 1 0
  mode_unknown l = rw (lt-leb mode 2 l) refl

  module _ (known : mode ≤ 2) where
    pub none_sent : n ≡ 0 → planned mode n scheme next ≡ fails 2 0
    none_sent e = rw (le-leb mode 2 known, e) refl

    pub not_whole : n % block_bytes mode ≢ 0 → planned mode n scheme next ≡ fails 2 0
    not_whole e = rw (le-leb mode 2 known, ne_eqb (n % block_bytes mode) 0 e, and-false (ltb 0 n)) refl

    module _ (some : 0 < n) (whole : n % block_bytes mode ≡ 0) where
      pub other_length : length scheme ≢ 210 → planned mode n scheme next ≡ fails 5 210
      other_length e = rw (le-leb mode 2 known, lt-ltb 0 n some, eq-eqb (n % block_bytes mode) 0 whole, ne_eqb (length scheme) 210 e) refl

      module _ (long : length scheme ≡ 210) where
        pub some_bad : bad_entry scheme < 210 → planned mode n scheme next ≡ fails 5 (bad_entry scheme)
        some_bad l =
            rw
            (le-leb mode 2 known, lt-ltb 0 n some, eq-eqb (n % block_bytes mode) 0 whole, eq-eqb (length scheme) 210 long, lt-ltb (bad_entry scheme) 210 l)
            refl

        module _ (good : 210 ≤ bad_entry scheme) where
          pub too_many : 256 < symbols_for mode n scheme → planned mode n scheme next ≡ fails 6 0
          too_many l =
              rw (
                le-leb mode 2 known,
                lt-ltb 0 n some,
                eq-eqb (n % block_bytes mode) 0 whole,
                eq-eqb (length scheme) 210 long,
                le-ltb (bad_entry scheme) 210 good,
                lt-leb (symbols_for mode n scheme) 256 l,
              )
              refl

          pub all_pass : symbols_for mode n scheme ≤ 256 → planned mode n scheme next ≡ next
          all_pass l =
              rw (
                le-leb mode 2 known,
                lt-ltb 0 n some,
                eq-eqb (n % block_bytes mode) 0 whole,
                eq-eqb (length scheme) 210 long,
                le-ltb (bad_entry scheme) 210 good,
                le-leb (symbols_for mode n scheme) 256 l,
              )
              refl

-- a scheme that is none
pub no_scheme : (mode n : ℕ) (scheme : List ℕ) (next : Checked Unit) → mode ≤ 2 → 0 < n → n % block_bytes mode ≡ 0 → is_good scheme ≡ false
    → planned mode n scheme next ≡ fails 5 (bad_place scheme)
no_scheme mode n scheme next known some whole e = by (ℕ_discrete (length scheme) 210)
  where
    by : Dec (length scheme ≡ 210) → planned mode n scheme next ≡ fails 5 (bad_place scheme)
    by (yes long) =
        let other = eqb-false (bad_entry scheme) 210 (rw (eq-eqb (length scheme) 210 long) at e) in
        let low : bad_entry scheme < 210 = omega (arith, bad_most scheme) in
        some_bad mode n scheme next known some whole long low ∙ ap (fails 5) (place_of_long scheme long)
    by (no other) =
        other_length mode n scheme next known some whole other ∙ ap (fails 5) (sym (rw (ne_eqb (length scheme) 210 other) refl))

-- the checks that follow decide where these pass
pub plan_passes : {mode n : ℕ} {scheme : List ℕ} → Sendable mode n scheme → (next : Checked Unit) → planned mode n scheme next ≡ next
plan_passes {mode} {n} {scheme} p next =
    all_pass mode n scheme next p.known p.some p.whole p.entries.long (omega (arith, p.entries.entries)) p.few

-- the mode of the plan is the frame's
pub plan_mode : {mode n : ℕ} {scheme : List ℕ} {plan : Plan} → Sendable mode n scheme → plan ≡ plan_of mode n scheme → number_of plan.mode ≡ mode
plan_mode {mode} p e = rw e (number_of_lem mode p.known)
