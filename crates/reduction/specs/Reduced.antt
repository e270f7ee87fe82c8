-- The reduced costs of a row, as code holds them.
use Rattle.std.specs.Prelude.{ℕ, ℤ, ◌-ℤ◌, length}
use Rattle.assignment.specs.Pairings.{signed_at}
use Rattle.reduction.specs.declared.reduced.Reduced.{Reduced}

-- How many columns there are.
abbrev pub width : Reduced → ℕ
width r = length r.costs.now

-- The reduced cost of column j.
abbrev pub reduced_at : Reduced → ℕ → ℤ
reduced_at r j = signed_at r.costs.now j -ℤ signed_at r.prices.now j
