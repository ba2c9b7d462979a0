-- Writing on: what two writes add follows what was held, and a front of the second follows the whole of the first.
-- Assumes nothing.
use Rattle.std.proofs.Common.{ℕ, ◌+◌, ◌-◌, List, [], ◌++◌, Option, length, take, drop, sym, ap, ◌∙◌, subst, append_assoc, append-nil, take-append-drop}
use Rattle.std.proofs.KnownBytes.{Appends-nil, Appends-trans}
use Rattle.std.specs.Io.KnownBytes.{Appends}
use Rattle.streams.specs.Streams.{AppendsFront, Grows}
use Rattle.std.proofs.lemmas.List.{take_rest}
use lib.Seq.{take-add}

-- where nothing is written
pub grows_none : (a : Option (List ℕ)) → Grows a a
grows_none a = record { added = []; writes = Appends-nil a }

pub grows_trans : (a b c : Option (List ℕ)) → Grows a b → Grows b c → Grows a c
grows_trans a b c p q = record { added = p.added ++ q.added; writes = Appends-trans a b c p.added q.added p.writes q.writes }

pub front_grows : (a b : Option (List ℕ)) (xs : List ℕ) → AppendsFront a b xs → Grows a b
front_grows a b xs p = record { added = p.front; writes = p.writes }

-- the whole is a front, and so is what n of them are
pub whole_front : (a b : Option (List ℕ)) (xs : List ℕ) → Appends a b xs → AppendsFront a b xs
whole_front a b xs p = record { front = xs; rest = []; split = sym (append-nil xs); writes = p }

pub taken_front : (a b : Option (List ℕ)) (n : ℕ) (xs : List ℕ) → Appends a b (take n xs) → AppendsFront a b xs
taken_front a b n xs p = record { front = take n xs; rest = drop n xs; split = sym (take-append-drop n xs); writes = p }

-- a front of the first is a front of both
pub front_first : (a b : Option (List ℕ)) (xs ys : List ℕ) → AppendsFront a b xs → AppendsFront a b (xs ++ ys)
front_first a b xs ys p =
    record { front = p.front; rest = p.rest ++ ys; split = ap (λ l. l ++ ys) p.split ∙ append_assoc p.front p.rest ys; writes = p.writes }

-- the whole of the first, and a front of the second
pub front_then : (a b c : Option (List ℕ)) (xs ys : List ℕ) → Appends a b xs → AppendsFront b c ys → AppendsFront a c (xs ++ ys)
front_then a b c xs ys p q =
    record {
      front = xs ++ q.front;
      rest = q.rest;
      split = ap (λ l. xs ++ l) q.split ∙ sym (append_assoc xs q.front q.rest);
      writes = Appends-trans a b c xs q.front p q.writes;
    }

-- the first done of the bytes, and n more of those that are left
pub more : (a b c : Option (List ℕ)) (done n : ℕ) (xs : List ℕ) → Appends a b (take done xs) → Appends b c (take n (take (length xs - done) (drop done xs))) → Appends a c (take (done + n) xs)
more a b c done n xs p q =
    subst (Appends a c) (ap (λ l. take done xs ++ take n l) (take_rest xs done) ∙ sym (take-add done n xs)) (Appends-trans a b c _ _ p q)
