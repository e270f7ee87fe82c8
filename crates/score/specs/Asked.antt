-- What functions that the entries call ask for. The entries ask for nothing.
use Rattle.std.specs.Prelude.{cond, List, ℕ, ◌*◌, ◌-◌, ◌≤◌, ltb}
use Rattle.matrix.specs.Limits.{sheet_side}
use Rattle.score.specs.Characters.{Known}

-- The number of a character, by which the table is read.
abbrev pub numbered : ℕ → ℕ
numbered b = cond (ltb b 58) (b - 48) (b - 55)

-- Two lists of n references that a sheet can take.
pub record Lists (n : ℕ) (firsts seconds : List ℕ) : Type 0 where
  pub few : n ≤ sheet_side
  pub rows : Known (12 * n) firsts
  pub columns : Known (12 * n) seconds
