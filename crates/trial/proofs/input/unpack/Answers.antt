-- `trial::input::unpack` meets its contract: a level more: that of the two bytes from i * 2 on.
use Rattle.std.proofs.Common.{◌≡◌, ℕ, suc, ◌+◌, ◌-◌, ◌*◌, ◌≤◌, ◌<◌, List, ◌++◌, ℤ, to_z, of_z, sym, ◌∙◌, append-nil, append_assoc, add-one, arith, length, get_or, set, take, drop}
use lib.Seq.{take_all, take-suc-set, drop-drop}
use mir.Syntax.{w16}
use mir.ValLaws.{to_z-of_z}
use Rattle.trial.proofs.Packing.{two_at}
use Rattle.trial.specs.Format.{value, levels_in}
use Rattle.trial.proofs.input.unpack.Goals as goal

-- a turn: the level of that part stands at i
turn : (bytes : List ℕ) (levels : List ℤ) (n i : ℕ) (x : ℤ) → i < n → i < length levels → i * 2 + 1 < length bytes
    → x ≡ to_z w16 (get_or bytes (i * 2) 0 + get_or bytes (i * 2 + 1) 0 * 256)
    → take (i + 1) (set levels i x) ++ levels_in (n - (i + 1)) (drop ((i + 1) * 2) bytes) ≡ take i levels ++ levels_in (n - i) (drop (i * 2) bytes)
unfolding levels_in
turn bytes levels n i x h l inside ex =
    let s : n - i ≡ suc (n - (i + 1)) = omega arith in
    let end : (i + 1) * 2 ≡ i * 2 + 2 = omega arith in
    rw (s, end, add-one, take-suc-set levels i x l, append_assoc, drop-drop 2 (i * 2) bytes, ex, two_at bytes (i * 2) inside)

done : (bytes : List ℕ) (levels : List ℤ) (n i : ℕ) → length levels ≤ i → n ≤ i → levels ≡ take i levels ++ levels_in (n - i) (drop (i * 2) bytes)
unfolding levels_in
done bytes levels n i l h =
    let s : n - i ≡ 0 = omega arith in
    rw (s, take_all i levels l) (sym (append-nil levels))

pub loop-i-preserved : goal.loop-i-preserved
loop-i-preserved c =
    let l = c.loop-i in
    let same = to_z-of_z w16 c.from_le_bytes.result (record { sfits = c.from_le_bytes.type_inv }) in
    turn c.args.bytes.now l.levels (length c.args.levels.now) l.i _ (omega arith) (omega arith) (omega arith) (same ∙ c.from_le_bytes.ensures) ∙ l.invariant

pub returns : goal.returns
returns c =
    let l = c.loop-i in
    done c.args.bytes.now l.levels _ l.i (omega arith) (omega arith) ∙ l.invariant
