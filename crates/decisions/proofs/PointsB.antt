-- Payload B's points beside deciding: what points decided by the entries of a scheme are, and what was sent for a frame, which deciding keeps where it was moved
-- by less than half the least distance of its constellations.
-- Assumes nothing.
use mathlib.Core.Path.{◌≡◌, refl, sym, ap, ap₂, subst, ◌∙◌}
use mathlib.Core.List.{List, [], ◌∷◌, ◌++◌, map, zip_with}
use Prim.Native.Nat.{ℕ, zero, suc, ◌-◌, ◌*◌, ◌%◌, ◌^◌, ◌<◌}
use native.Mathlib.Omega.{arith}
use lib.IntN.{ℤ}
use lib.ListN.{length, get_or, take, drop, length-append, length-replicate, length-take, length-map, get_or-map}
use lib.Seq.{take_at}
use Rattle.ground.specs.First.{first_in}
use Rattle.answers.specs.Answers.{accepted, of_written, Written}
use Rattle.answers.specs.Checks.{Checked, fails}
use Rattle.answers.proofs.Telling.{by_test, not_refused}
use Rattle.bits.specs.Words.{Bits}
use Rattle.bits.specs.Bytes.{as_number}
use Rattle.bits.proofs.Digits.{bits_append}
use Rattle.bits.proofs.Copies.{bits_zeros}
use Rattle.bits.proofs.Numbers.{number_low}
use Rattle.points.specs.declared.Point.{Point}
use Rattle.points.specs.declared.Point.TheVariants.{Nothing}
use Rattle.points.specs.Constellations.{tables, columns, points, point_of, level_i, level_q}
use Rattle.points.proofs.Rules.{points_count}
use Rattle.nearest.specs.Margins.{Spaced}
use Rattle.nearest.proofs.Spacings.{spaced}
use Rattle.symbols.specs.Grids.{placed, received, room}
use Rattle.symbols.specs.Schemes.{sum_of, repeated, mapped, labelled, stray_in}
use Rattle.symbols.proofs.Placings.{Points}
use Rattle.symbols.proofs.Leading.{front_back}
use Rattle.symbols.proofs.Schemes.{Entries, behind, sum_repeated, repeated_long}
use Rattle.symbols.proofs.Mapping.{length-mapped, entries_repeated, points_mapped, labelled-mapped}
use Rattle.payload.specs.Scrambler.{start}
use Rattle.payload_b.specs.CodedB.{block_bytes, bits_for, coded_b, symbols_for, filled_up, points_b, sent_b}
use Rattle.payload_b.specs.PromiseB.{SendsB, SendingB}
use Rattle.payload_b.specs.PlanB.{Sendable}
use Rattle.payload_b.proofs.Plans.{symbols_hold}
use Rattle.payload_b.proofs.Blockwise.{bits_coded, length-coded_b}
use Rattle.payload_b.proofs.OnceB.{by_plan}
use Rattle.decisions.specs.Decided.{decided, scheme_tables}
use Rattle.decisions.specs.Moves.{AllMoved}
use Rattle.decisions.proofs.Moves.{moved_kept, nearest_of_at, nearest_of_label}

-- ---- points decided by entries of a scheme

-- each has levels of its own
pub points_decided : (ns : List ℕ) (xs : List Point) → Entries ns → length xs ≡ length ns → Points (decided (scheme_tables ns) xs)
unfolding decided
points_decided [] xs each e k l = absurd (omega arith)
points_decided (n ∷ ns) [] each e k l = absurd (omega arith)
points_decided (n ∷ ns) (x ∷ xs) each e zero l = let h = each 0 (omega arith) in nearest_of_at n h.0 h.1 (level_i x) (level_q x)
points_decided (n ∷ ns) (x ∷ xs) each e (suc k) l = points_decided ns xs (behind n ns each) (omega arith) k (omega arith)

-- and none is stray
pub stray_decided : (ns : List ℕ) (xs : List Point) → Entries ns → length xs ≡ length ns → stray_in ns (decided (scheme_tables ns) xs) ≡ length ns
unfolding decided first_in zip_with
stray_decided [] xs each e = refl
stray_decided (n ∷ ns) [] each e = absurd (omega arith)
stray_decided (n ∷ ns) (x ∷ xs) each e =
    let h = each 0 (omega arith) in
    rw (nearest_of_label n h.0 h.1 (level_i x) (level_q x), stray_decided ns xs (behind n ns each) (omega arith))

-- ---- and points that bits are sent as

no_table : points 0 ≡ []
unfolding points columns tables
no_table = refl

table_at : (ns : List ℕ) (k : ℕ) → get_or (scheme_tables ns) k [] ≡ points (get_or ns k 0)
table_at ns k = ap (get_or (map points ns) k) (sym no_table) ∙ get_or-map points ns k 0

-- each is one of its constellation
mapped_among : (ns bits : List ℕ) → Entries ns → (k : ℕ) → k < length ns
    → (l : ℕ) × (l < length (points (get_or ns k 0))) × (get_or (mapped ns bits) k Nothing ≡ get_or (points (get_or ns k 0)) l Nothing)
unfolding mapped point_of
mapped_among [] bits each k h = absurd (omega arith)
mapped_among (n ∷ ns) bits each zero h =
    let e = each 0 (omega arith) in
    let low : as_number (take n bits) < 2 ^ n = number_low n (take n bits) (rw (length-take n bits) (omega arith)) in
    (as_number (take n bits), rw (points_count n e.0 e.1) low, refl)
mapped_among (n ∷ ns) bits each (suc k) h = mapped_among ns (drop n bits) (behind n ns each) k (omega arith)

-- moved by less than half the least distance of their constellations, they are decided as themselves
pub kept_mapped : (ns bits : List ℕ) (xs : List Point) → Entries ns → length xs ≡ length ns → AllMoved 4 xs (mapped ns bits)
    → decided (scheme_tables ns) xs ≡ mapped ns bits
kept_mapped ns bits xs each e moved =
    let many : length (scheme_tables ns) ≡ length ns = length-map ns points in
    moved_kept 4 (scheme_tables ns) xs (mapped ns bits) (e ∙ sym many) (length-mapped ns bits ∙ sym many)
    (λ k h. let i = each k (omega arith) in subst (λ (t : List Point). Spaced t 4) (sym (table_at ns k)) (spaced (get_or ns k 0) i.0 i.1))
    (λ k h.
    subst (λ (t : List Point). (l : ℕ) × (l < length t) × (get_or (mapped ns bits) k Nothing ≡ get_or t l Nothing)) (sym (table_at ns k))
    (mapped_among ns bits each k (omega arith)))
    moved

-- ---- the points sent for a frame of n bytes

module _ {mode n : ℕ} {scheme : List ℕ} (sendable : Sendable mode n scheme) (frame : List ℕ) (long : length frame ≡ n) where
  abbrev symbols : ℕ
  symbols = symbols_for mode n scheme

  abbrev pub filled : List ℕ
  filled = filled_up (sum_of scheme * symbols) (coded_b mode frame)

  pub points_are : points_b mode frame scheme ≡ mapped (repeated symbols scheme) filled
  unfolding points_b
  points_are =
      ap (λ (k : ℕ). mapped (repeated (symbols_for mode k scheme) scheme) (filled_up (sum_of scheme * symbols_for mode k scheme) (coded_b mode frame))) long

  pub sent_are : (level : Point → ℤ) → sent_b level mode frame scheme ≡ placed level symbols (points_b mode frame scheme)
  unfolding sent_b
  sent_are level = ap (λ (k : ℕ). placed level (symbols_for mode k scheme) (points_b mode frame scheme)) long

  coded_long : length (coded_b mode frame) ≡ bits_for mode n
  coded_long = length-coded_b mode frame (ap (λ (k : ℕ). k % block_bytes mode) long ∙ sendable.whole) ∙ ap (bits_for mode) long

  filled_long : length filled ≡ sum_of scheme * symbols
  filled_long = rw (length-append, length-replicate) (omega (arith, coded_long, symbols_hold sendable))

  filled_bits : Bits filled
  filled_bits = bits_append (coded_b mode frame) _ (bits_coded mode start frame) (bits_zeros (sum_of scheme * symbols - length (coded_b mode frame)))

  entries_all : Entries (repeated symbols scheme)
  entries_all = entries_repeated sendable.entries symbols

  points_long : length (points_b mode frame scheme) ≡ 210 * symbols
  points_long = ap length points_are ∙ length-mapped (repeated symbols scheme) filled ∙ repeated_long scheme sendable.entries.long symbols

  points_each : Points (points_b mode frame scheme)
  points_each = subst Points (sym points_are) (points_mapped (repeated symbols scheme) filled entries_all filled_bits)

  -- their bits, the fill left out
  pub points_bits : take (bits_for mode n) (labelled (repeated symbols scheme) (points_b mode frame scheme)) ≡ coded_b mode frame
  points_bits =
      ap (take (bits_for mode n)) (ap (labelled (repeated symbols scheme)) points_are
      ∙ labelled-mapped (repeated symbols scheme) filled entries_all filled_bits (filled_long ∙ sym (sum_repeated scheme symbols)))
      ∙ take_at (coded_b mode frame) _ (bits_for mode n) coded_long

  -- they are received where they are sent
  module _ (s_i s_q : List ℤ) (sent : Written) (s_i' s_q' : List ℤ) (sending : SendingB mode frame scheme s_i s_q sent s_i' s_q')
      (told : of_written sent ≡ accepted 0 0 0) where
    abbrev pub size : ℕ
    size = 256 * symbols_for mode (length frame) scheme

    abbrev Sent : Type 0
    Sent = (s_i' ≡ sent_b level_i mode frame scheme ++ drop size s_i) × (s_q' ≡ sent_b level_q mode frame scheme ++ drop size s_q)

    was_sent : Sent
    was_sent =
        by_plan P mode (length frame) scheme _ failed (λ _. by_test P (room size s_i s_q) (λ _ p. (p.1, p.2)) (λ _. failed 3 0 (omega arith))) sending
      where
        P : Checked Unit → Type 0
        P k = SendsB k mode frame scheme s_i s_q sent s_i' s_q' → Sent

        failed : (number place : ℕ) → 0 < number → P (fails number place)
        failed number place l p = absurd (not_refused told p.0 l)

    pub sent_points : received symbols s_i' s_q' ≡ points_b mode frame scheme
    sent_points =
        let at : (level : Point → ℤ) (old : List ℤ)
        → sent_b level mode frame scheme ++ drop size old ≡ placed level symbols (points_b mode frame scheme) ++ drop size old
        = λ level old. ap (λ (w : List ℤ). w ++ drop size old) (sent_are level) in
        ap₂ (received symbols) (was_sent.0 ∙ at level_i s_i) (was_sent.1 ∙ at level_q s_q)
        ∙ front_back symbols (points_b mode frame scheme) (drop size s_i) (drop size s_q) points_long points_each
