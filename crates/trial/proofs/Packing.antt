-- Numbers in bytes: how many there are, and packed one after the other.
-- Assumes nothing.
use Rattle.std.proofs.Common.{Option, subst, ◌≡◌, ℕ, zero, suc, ◌+◌, ◌-◌, ◌*◌, ◌/◌, ◌≤◌, ◌<◌, List, [], ◌∷◌, ◌++◌, refl, sym, ap, ◌∙◌, append-nil, append_assoc, add-one, arith, ℤ, of_z, map, length, get_or, take, drop, take-append-drop}
use borrow.Rule.Slice.PartMut.{put_mid}
use lib.Seq.{drop-cons, take-suc, take_all, take-add}
use Rattle.std.proofs.lemmas.List.{map-append}
use mir.Syntax.{w16, w64}
use Rattle.std.specs.Int.{to_le_bytes}
use Rattle.std.proofs.KnownBytes.{Appends-nil, Appends-trans}
use Rattle.std.specs.Io.KnownBytes.{Appends}
use Rattle.streams.specs.Streams.{AppendsFront}
use Rattle.streams.proofs.Writing.{front_first, front_then}
use Rattle.bits.proofs.Copies.{part_written}
use Rattle.trial.specs.Format.{little_endian, value, pairs, word_bytes, level_bytes}

pub length-little_endian : (k n : ℕ) → length (little_endian k n) ≡ k
unfolding little_endian
length-little_endian zero n = refl
length-little_endian (suc k) n = ap suc (length-little_endian k (n / 256))

-- a number in two bytes, in eight and in four of eight, as std has them
pub two_le : (n : ℕ) → to_le_bytes w16 n ≡ little_endian 2 n
unfolding little_endian
two_le n = refl

pub eight_le : (n : ℕ) → to_le_bytes w64 n ≡ little_endian 8 n
unfolding little_endian
eight_le n =
    let e2 : n / 0x10000 ≡ n / 256 / 256 = omega arith in
    let e3 : n / 0x1000000 ≡ n / 256 / 256 / 256 = omega arith in
    let e4 : n / 0x100000000 ≡ n / 256 / 256 / 256 / 256 = omega arith in
    let e5 : n / 0x10000000000 ≡ n / 256 / 256 / 256 / 256 / 256 = omega arith in
    let e6 : n / 0x1000000000000 ≡ n / 256 / 256 / 256 / 256 / 256 / 256 = omega arith in
    let e7 : n / 0x100000000000000 ≡ n / 256 / 256 / 256 / 256 / 256 / 256 / 256 = omega arith in
    rw (e2, e3, e4, e5, e6, e7) refl

pub four_le : (n : ℕ) → take 4 (to_le_bytes w64 n) ≡ little_endian 4 n
unfolding little_endian
four_le n = ap (take 4) (eight_le n)

-- the number of two bytes
pub two_at : (bytes : List ℕ) (at : ℕ) → at + 1 < length bytes → get_or bytes at 0 + get_or bytes (at + 1) 0 * 256 ≡ value (take 2 (drop at bytes))
unfolding value
two_at bytes at l = rw (add-one at, drop-cons bytes at 0 (omega arith), drop-cons bytes (suc at) 0 (omega arith)) (omega arith)

pub packed_append : (ms ns : List ℕ) → pairs (ms ++ ns) ≡ pairs ms ++ pairs ns
unfolding pairs
packed_append [] ns = refl
packed_append (m ∷ ms) ns = rw (packed_append ms ns, append_assoc)

packed_snoc : (ns : List ℕ) (n : ℕ) → pairs (ns ++ (n ∷ [])) ≡ pairs ns ++ little_endian 2 n
unfolding pairs
packed_snoc ns n = packed_append ns (n ∷ []) ∙ ap (λ (bs : List ℕ). pairs ns ++ bs) (append-nil (little_endian 2 n))

-- ---- numbers packed one after the other: the bytes of the first i

-- the part of two places from i * 2 on holds the bytes of the number at i
module _ (numbers bytes : List ℕ) (i : ℕ) where
  pub packed_more : (w : List ℕ) (k n : ℕ) → i < length numbers → length bytes ≡ length numbers * 2 → k ≡ 2 → n ≡ get_or numbers i 0
      → w ≡ to_le_bytes w16 n → take (i * 2) bytes ≡ pairs (take i numbers)
      → take ((i + 1) * 2) (put_mid (i * 2) k bytes w) ≡ pairs (take (i + 1) numbers)
  packed_more w k n h long two en ew e =
      let room : i * 2 + 2 ≤ length bytes = omega arith in
      let end : (i + 1) * 2 ≡ i * 2 + 2 = omega arith in
      let bs : w ≡ little_endian 2 n = ew ∙ two_le n in
      rw (end, two, bs)
      (part_written (i * 2) 2 bytes room (little_endian 2 n) (length-little_endian 2 n)
      ∙ rw (e, en, add-one, take-suc numbers i 0 h, packed_snoc (take i numbers) (get_or numbers i 0)))

  pub packed_all : length numbers ≤ i → length bytes ≤ i * 2 → take (i * 2) bytes ≡ pairs (take i numbers) → bytes ≡ pairs numbers
  packed_all h l e = sym (take_all (i * 2) bytes l) ∙ e ∙ ap pairs (take_all i numbers h)

-- ---- levels, part by part

-- levels as numbers
abbrev pub numbers : List ℤ → List ℕ
numbers levels = map (of_z w16) levels

-- the levels before the rest are written
pub record Written (old new : Option (List ℕ)) (levels rest : List ℤ) : Type 0 where
  pub front : List ℤ
  pub split : levels ≡ front ++ rest
  pub writes : Appends old new (level_bytes front)

-- none of them
pub written_none : (old : Option (List ℕ)) (levels rest : List ℤ) → rest ≡ levels → Written old old levels rest
unfolding pairs
written_none old levels rest e = record { front = []; split = sym e; writes = Appends-nil old }

-- the bytes of one list and then of another
bytes_append : (front part : List ℤ) → level_bytes (front ++ part) ≡ level_bytes front ++ level_bytes part
bytes_append front part = ap pairs (map-append (of_z w16) front part) ∙ packed_append (numbers front) (numbers part)

-- the bytes of the levels before j are those of the levels before i, and then those of the part between
pub part_behind : (levels : List ℤ) (i j : ℕ) → i ≤ j → level_bytes (take j levels) ≡ level_bytes (take i levels) ++ level_bytes (take (j - i) (drop i levels))
part_behind levels i j h =
    let e : i + (j - i) ≡ j = omega arith in
    ap (λ (n : ℕ). level_bytes (take n levels)) (sym e) ∙ ap level_bytes (take-add i (j - i) levels)
    ∙ bytes_append (take i levels) (take (j - i) (drop i levels))

-- the bytes of the levels are those of the levels before i, of the part up to j, and of the levels from j on
pub parts_left : (levels : List ℤ) (i j : ℕ) → i ≤ j
    → level_bytes levels ≡ level_bytes (take i levels) ++ (level_bytes (take (j - i) (drop i levels)) ++ level_bytes (drop j levels))
parts_left levels i j h =
    ap level_bytes (sym (take-append-drop j levels)) ∙ bytes_append (take j levels) (drop j levels)
    ∙ ap (λ (bs : List ℕ). bs ++ level_bytes (drop j levels)) (part_behind levels i j h)
    ∙ append_assoc (level_bytes (take i levels)) (level_bytes (take (j - i) (drop i levels))) (level_bytes (drop j levels))

module _ (old now new : Option (List ℕ)) (levels rest part after : List ℤ) (w : Written old now levels rest) (next : rest ≡ part ++ after) where
  whole : levels ≡ w.front ++ (part ++ after)
  whole = w.split ∙ ap (λ (ls : List ℤ). w.front ++ ls) next

  -- a part more of them
  pub written_more : Appends now new (level_bytes part) → Written old new levels after
  written_more h = record {
    front = w.front ++ part;
    split = whole ∙ sym (append_assoc w.front part after);
    writes = subst (Appends old new) (sym (bytes_append w.front part)) (Appends-trans old now new _ _ w.writes h);
  }

  -- and a front of that part
  pub written_front : AppendsFront now new (level_bytes part) → AppendsFront old new (level_bytes levels)
  written_front h =
      let all : level_bytes levels ≡ level_bytes w.front ++ (level_bytes part ++ level_bytes after)
      = ap level_bytes whole ∙ bytes_append w.front (part ++ after) ∙ ap (λ (bs : List ℕ). level_bytes w.front ++ bs) (bytes_append part after) in
      subst (AppendsFront old new) (sym all) (front_then old now new _ _ w.writes (front_first now new _ _ h))

-- ---- words, one after the other

pub words_append : (ms ns : List ℕ) → word_bytes (ms ++ ns) ≡ word_bytes ms ++ word_bytes ns
unfolding word_bytes
words_append [] ns = refl
words_append (m ∷ ms) ns = rw (words_append ms ns, append_assoc)

words_snoc : (ns : List ℕ) (n : ℕ) → word_bytes (ns ++ (n ∷ [])) ≡ word_bytes ns ++ little_endian 8 n
unfolding word_bytes
words_snoc ns n = words_append ns (n ∷ []) ∙ ap (λ (bs : List ℕ). word_bytes ns ++ bs) (append-nil (little_endian 8 n))

module _ (words : List ℕ) (i : ℕ) (h : i < length words) where
  -- the bytes of the word at i stand after those of the words before it
  pub word_after : word_bytes (take (i + 1) words) ≡ word_bytes (take i words) ++ little_endian 8 (get_or words i 0)
  word_after = rw (add-one, take-suc words i 0 h) (words_snoc (take i words) (get_or words i 0))

  -- the bytes of the words are those of the words before i, of the word at i, and of the words after it
  pub words_left : word_bytes words ≡ word_bytes (take i words) ++ (little_endian 8 (get_or words i 0) ++ word_bytes (drop (i + 1) words))
  words_left =
      ap word_bytes (sym (take-append-drop (i + 1) words)) ∙ words_append (take (i + 1) words) (drop (i + 1) words)
      ∙ ap (λ (bs : List ℕ). bs ++ word_bytes (drop (i + 1) words)) word_after
      ∙ append_assoc (word_bytes (take i words)) (little_endian 8 (get_or words i 0)) (word_bytes (drop (i + 1) words))
