-- What reading and writing do to the bytes that an input has left and an output holds, where they are known, whatever comes of them.
-- Assumes nothing.
use Rattle.std.specs.Prelude.{◌≡◌, ℕ, List, ◌++◌, Option}
use Rattle.std.specs.Io.KnownBytes.{Consumes, Appends}

-- some bytes are gone from the front, and what is left is the rest
pub record LeavesRest (old new : Option (List ℕ)) : Type 0 where
  pub gone : List ℕ
  pub reads : Consumes old new gone

-- what was held stays, and the front of these bytes follows it: all, some or none of them
pub record AppendsFront (old new : Option (List ℕ)) (bytes : List ℕ) : Type 0 where
  pub front : List ℕ
  pub rest : List ℕ
  pub split : bytes ≡ front ++ rest
  pub writes : Appends old new front

-- what was held stays, and some bytes follow it, or none
pub record Grows (old new : Option (List ℕ)) : Type 0 where
  pub added : List ℕ
  pub writes : Appends old new added
