-- Numbers, places and levels in bytes, as the trial program's format has them.
-- Assumes nothing.
use Rattle.std.specs.Prelude.{ℕ, zero, suc, ◌+◌, ◌*◌, ◌/◌, ◌%◌, List, [], ◌∷◌, ◌++◌, map, length, ℤ, take, drop}
use Rattle.std.specs.Int.{w16}
use Rattle.std.proofs.Common.{to_z, of_z}
use Rattle.answers.specs.declared.Told.{Told}

-- the k lowest bytes of n, the lowest first
unfoldable pub little_endian : ℕ → ℕ → List ℕ
little_endian zero n = []
little_endian (suc k) n = n % 256 ∷ little_endian k (n / 256)

-- the number that bytes stand for
unfoldable pub value : List ℕ → ℕ
value [] = 0
value (b ∷ bs) = value bs * 256 + b

-- numbers in two bytes each
unfoldable pub pairs : List ℕ → List ℕ
pairs [] = []
pairs (n ∷ ns) = little_endian 2 n ++ pairs ns

-- numbers in eight bytes each
unfoldable pub word_bytes : List ℕ → List ℕ
word_bytes [] = []
word_bytes (n ∷ ns) = little_endian 8 n ++ word_bytes ns

-- levels in two bytes each, in two's complement
abbrev pub level_bytes : List ℤ → List ℕ
level_bytes levels = pairs (map (of_z w16) levels)

-- the first n levels that bytes stand for
unfoldable pub levels_in : ℕ → List ℕ → List ℤ
levels_in zero bs = []
levels_in (suc n) bs = to_z w16 (value (take 2 bs)) ∷ levels_in n (drop 2 bs)

-- ---- what a response is made of

-- an answer's number in a byte, its place in eight
abbrev pub head_bytes : Told → List ℕ
head_bytes told = told.number ∷ little_endian 8 told.place

-- how the response to a step begins: the answer, and how many it mended in all and in the worst word
abbrev pub received_bytes : Told → List ℕ
received_bytes told = head_bytes told ++ little_endian 8 told.mended ++ little_endian 8 told.worst

-- a list of bytes: its count in four bytes, and its elements
abbrev pub list_bytes : List ℕ → List ℕ
list_bytes elements = little_endian 4 (length elements) ++ elements

-- a list of levels: its count in four bytes, and two bytes for each
abbrev pub level_list_bytes : List ℤ → List ℕ
level_list_bytes levels = little_endian 4 (length levels) ++ level_bytes levels
