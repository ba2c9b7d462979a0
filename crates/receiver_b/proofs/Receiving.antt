-- Receiving Payload B symbol by symbol: the bits of one OFDM symbol more; and that at the end a frame goes up, or a block has no codeword within t.
-- Assumes nothing.
use mathlib.Core.Path.{◌≡◌, refl, sym, ap, ap₂, ◌∙◌}
use mathlib.Core.Logic.{inl, inr}
use mathlib.Core.List.{List, [], ◌++◌, append-nil, append_assoc}
use Prim.Native.Nat.{ℕ, zero, suc, ◌+◌, ◌-◌, ◌*◌, ◌≤◌}
use native.Mathlib.Nat.{mul-zero, zero-add, add-zero, zero-max, mul-le-mul_left}
use native.Mathlib.Omega.{arith}
use native.Mathlib.Numerals.{add-one}
use lib.IntN.{ℤ}
use lib.ListN.{length, take, drop, replicate, length-append, take-append-drop}
use lib.Seq.{take_at, length-take-le}
use Rattle.ground.proofs.Firsts.{first}
use Rattle.std.specs.Prelude.{None, Result, Ok, Err}
use Rattle.packed.specs.Packed.{bits_from, bits512, padded_to}
use Rattle.packed.proofs.Walks.{length_512}
use Rattle.points.specs.declared.Point.{Point}
use Rattle.points.specs.Constellations.{is_stray}
use Rattle.symbols.specs.Grids.{points_from, received}
use Rattle.payload_b.specs.CodedB.{block_bytes, block_bits, blocks_in, bits_for, symbols_for}
use Rattle.symbols.specs.Schemes.{Scheme, sum_of, repeated, labelled, stray_in}
use Rattle.symbols.specs.ByScheme.{read_by, symbol_read}
use Rattle.answers.specs.Answers.{ReceivedB, accepted, counted_b}
use Rattle.answers.specs.Checks.{passes}
use Rattle.payload_b.specs.PromiseB.{bits_received, GoesB, ReceivesB}
use Rattle.payload_b.specs.PlanB.{Sendable, plan_of}
use Rattle.payload_b.specs.declared.plan.Plan.{Plan}
use Rattle.receiver_b.specs.Steps.{Going, Enters, Sticks, TakesIn, began}
use Rattle.receiver_b.specs.declared.stream.Stream.{Stream}
use Rattle.receiver_b.specs.declared.stream.Tally.{Tally}
use Rattle.answers.specs.declared.Refusal.TheVariants.{Uncorrectable}
use Rattle.symbols.proofs.Readings.{length_points, received-one, received-add, points_take}
use Rattle.symbols.proofs.Schemes.{repeated_more}
use Rattle.symbols.proofs.Mapping.{as_many, length_symbols}
use Rattle.symbols.proofs.Labelled.{labels, labels_long}
use Rattle.payload_b.proofs.Plans.{whole_blocks, symbols_hold}
use Rattle.payload_b.proofs.Blocks.{coded}
use Rattle.symbols.proofs.ReadBits.{read_append, length_read, read_labelled}
use Rattle.receiver_b.proofs.Faults.{is_readable}
use Rattle.receiver_b.proofs.Progress.{hopeless_wider}
use Rattle.receiver_b.proofs.Taking.{rest_same, base_taken, all_done}

-- ---- OFDM symbols, read

module _ (scheme : List ℕ) (is qs : List ℤ) where
  -- the bits of m of them
  abbrev pub bits_read : ℕ → List ℕ
  bits_read m = read_by (repeated m scheme) (received m is qs)

  pub symbol_none : bits_read 0 ≡ []
  unfolding read_by repeated
  symbol_none = refl

  -- those of one more, read from the part of the lists that belongs to it
  abbrev symbol_bits : ℕ → List ℕ
  symbol_bits m =
      read_by scheme (points_from (take (256 * m + 256 - 256 * m) (drop (256 * m) is)) (take (256 * m + 256 - 256 * m) (drop (256 * m) qs)) 1 210)

  pub symbol_part : length scheme ≡ 210 → (m : ℕ)
      → bits_read (m + 1)
      ≡ bits_read m
      ++ read_by scheme
      (points_from (take (256 * m + 256 - 256 * m) (drop (256 * m) is)) (take (256 * m + 256 - 256 * m) (drop (256 * m) qs)) 1 210)
  symbol_part long m =
      let size : 256 * m + 256 - 256 * m ≡ 256 = omega arith in
      let points : received (m + 1) is qs ≡ received m is qs ++ points_from (drop (256 * m) is) (drop (256 * m) qs) 1 210
      = received-add m 1 is qs ∙ ap (λ (ps : List Point). received m is qs ++ ps) (received-one (drop (256 * m) is) (drop (256 * m) qs)) in
      rw (size, points_take (drop (256 * m) is) (drop (256 * m) qs))
      (ap₂ read_by (ap (λ (n : ℕ). repeated n scheme) (add-one m) ∙ repeated_more scheme m) points
      ∙ read_append (repeated m scheme) scheme (received m is qs) _ (as_many scheme long m is qs))

  -- and of more, behind the first m
  pub symbols_more : length scheme ≡ 210 → (m k : ℕ) → (more : List ℕ) × (bits_read (m + k) ≡ bits_read m ++ more)
  symbols_more long m zero = ([], ap bits_read (add-zero m) ∙ sym (append-nil (bits_read m)))
  symbols_more long m (suc k) =
      let rest = symbols_more long m k in
      let up : m + suc k ≡ m + k + 1 = omega arith in
      let more = symbol_bits (m + k) in (
        rest.0 ++ more,
        ap bits_read up ∙ symbol_part long (m + k) ∙ ap (λ (w : List ℕ). w ++ more) rest.1 ∙ append_assoc (bits_read m) rest.0 more,
      )

-- the bits of one stand in the run behind those that wait
pub symbol_behind : {scheme : List ℕ} → Scheme scheme → (is qs : List ℤ) → 256 * 1 ≤ length is → 256 * 1 ≤ length qs
    → (block run : List ℕ) (count n : ℕ) → count ≤ 512 → n ≡ sum_of scheme
    → bits_from 41 0 run ≡ padded_to 2624 (take count (bits512 block) ++ symbol_read scheme is qs)
    → take (count + n) (bits_from 41 0 run) ≡ take count (bits512 block) ++ read_by scheme (points_from is qs 1 210)
symbol_behind {scheme} good is qs li lq block run count n few sum e =
    let bits = read_by scheme (points_from is qs 1 210) in
    let held = take count (bits512 block) in
    let read : symbol_read scheme is qs ≡ bits = rw (is_readable good 1 (omega arith) is qs li lq) in
    let long : length (held ++ bits) ≡ count + n
    = length-append held bits
    ∙ omega (
      arith,
      length-take-le count (bits512 block) (omega (arith, length_512 block)),
      length_read scheme (points_from is qs 1 210) (length_points is qs 1 210 ∙ sym good.long),
    ) in
    ap (take (count + n)) (e ∙ ap (λ (w : List ℕ). padded_to 2624 (held ++ w)) read) ∙ take_at (held ++ bits) _ (count + n) long

-- ---- as they were sent

-- the bits of m OFDM symbols
abbrev pub bits_of_symbols : List ℕ → List ℤ → List ℤ → ℕ → List ℕ
bits_of_symbols scheme is qs m = labelled (repeated m scheme) (received m is qs)

-- where no point is stray, they are read
pub none_stray : {scheme : List ℕ} → Scheme scheme → (m : ℕ) (is qs : List ℤ)
    → 210 * m ≤ stray_in (repeated m scheme) (received m is qs) → bits_read scheme is qs m ≡ bits_of_symbols scheme is qs m
none_stray {scheme} good m is qs all =
    read_labelled (repeated m scheme) (received m is qs)
    (omega (arith, labels_long good m is qs, (first is_stray None (labels good m is qs)).most))

-- ---- at the end

-- what is answered, and what is left in the area: in a refusal the frame's bytes are zero
abbrev pub settled_b : Result Stream ℕ → ReceivedB
settled_b (Ok end) = counted_b end.tally.mended end.tally.worst
settled_b (Err done) = Err (Uncorrectable done)

abbrev pub settled_area : ℕ → List ℕ → Result Stream ℕ → List ℕ
settled_area n area (Ok end) = area
settled_area n area (Err done) = replicate n 0 ++ drop n area

module _ {mode n : ℕ} {scheme : List ℕ} (plan : Sendable mode n scheme) (is qs : List ℤ) where
  -- the bits of all OFDM symbols
  abbrev all : List ℕ
  all = bits_of_symbols scheme is qs (symbols_for mode n scheme)

  -- they hold all blocks
  symbols_enough : bits_for mode n ≤ length all
  symbols_enough = rw (length_symbols scheme plan.entries.long (symbols_for mode n scheme) is qs) (symbols_hold plan)

  -- read by this plan, they are taken in from the beginning
  pub all_taken : {p : Plan} {from : Stream} (area area' : List ℕ) (r : Result Stream ℕ)
      → 210 * p.symbols ≤ stray_in (repeated p.symbols scheme) (received p.symbols is qs) → p ≡ plan_of mode n scheme → from ≡ began
      → TakesIn mode p.blocks (bits_read scheme is qs p.symbols) area (bits512 from.block) from.tally area' r
      → TakesIn mode (blocks_in mode n) all area (bits512 began.block) began.tally area' r
  all_taken {p} area area' r clear ep ef on =
      rw (none_stray plan.entries p.symbols is qs clear, ep, ef) at on

  module _ {area area' held : List ℕ} {s : Tally} (on : Enters mode (blocks_in mode n) all area (bits512 began.block) began.tally area' held s) where
    -- nothing beyond the frame is touched
    beyond : drop n area' ≡ drop n area
    beyond =
        let y = block_bytes mode in
        let last = mul-le-mul_left y on.0.counts.few in
        rw (← whole_blocks mode n plan.whole) at (rest_same (y * s.done) (y * blocks_in mode n) area' area last on.1.beyond)

    going : Going mode (blocks_in mode n) began.tally all area' held s
    going = on.1.taken began.tally [] (base_taken mode (blocks_in mode n) area (bits512 began.block) began.tally)

    -- all blocks are mended
    goes_up : Going mode (blocks_in mode n) began.tally all area' held s
        → GoesB mode n (bits_received mode n scheme is qs) area (counted_b s.mended s.worst) area'
    goes_up g =
        let y = block_bytes mode in
        let m : g.m ≡ blocks_in mode n = omega (arith, g.since, all_done on.0 (omega (arith, symbols_enough)) g) in
        let size : y * g.m ≡ n = ap (λ (k : ℕ). y * k) m ∙ sym (whole_blocks mode n plan.whole) in
        let long : length g.bits ≡ bits_for mode n = g.done.long ∙ ap (λ (k : ℕ). block_bits mode * k) m in
        let bits : g.bits ≡ bits_received mode n scheme is qs = sym (ap (take (bits_for mode n)) g.parts ∙ take_at g.bits _ (bits_for mode n) long) in
        let frame : take (y * g.m) (drop (y * 0) area') ≡ take n area' = rw (size, mul-zero y) refl in
        record {
          frame = take n area';
          fits = rw (frame, size, bits) at g.done.fits;
          tells =
              ap₂ (λ (k j : ℕ). accepted k 0 j) (rw (frame, bits, zero-add) at g.done.counted) (rw (frame, m, bits, zero-max) at g.done.largest);
          left = sym (take-append-drop n area') ∙ ap (λ (w : List ℕ). take n area' ++ w) beyond;
        }

    -- so the answer at the end is right
    pub all_mended : ReceivesB (passes tt) mode n (bits_received mode n scheme is qs) area (counted_b s.mended s.worst) area'
    all_mended = inl (goes_up going)

  -- or one cannot be
  pub one_hopeless : {area area' : List ℕ} {done : ℕ} → Sticks mode (blocks_in mode n) all area (bits512 began.block) began.tally area' done
      → ReceivesB (passes tt) mode n (bits_received mode n scheme is qs) area (Err (Uncorrectable done)) (replicate n 0 ++ drop n area')
  one_hopeless {area} {area'} {done} h =
      let k = h.stuck began.tally [] (base_taken mode (blocks_in mode n) area (bits512 began.block) began.tally) in
      let c = coded mode plan.known k.coded in
      let m : k.m ≡ done = omega (arith, k.since) in
      inr (record {
        coded = k.coded;
        block = done;
        hopeless =
            rw (c.whole, append-nil, m) at (hopeless_wider k.hopeless (rw c.whole k.whole) [] (blocks_in mode n) (omega (arith, k.next)));
        tells = refl;
        left = ap (λ (w : List ℕ). replicate n 0 ++ w) (rw (← whole_blocks mode n plan.whole) at h.beyond);
      })

  -- so the answer at the end is right, whichever it is
  pub settled_b_lem : (area area' : List ℕ) (r : Result Stream ℕ)
      → TakesIn mode (blocks_in mode n) all area (bits512 began.block) began.tally area' r
      → ReceivesB (passes tt) mode n (bits_received mode n scheme is qs) area (settled_b r) (settled_area n area' r)
  settled_b_lem area area' (Ok end) on = all_mended on
  settled_b_lem area area' (Err done) on = one_hopeless on
