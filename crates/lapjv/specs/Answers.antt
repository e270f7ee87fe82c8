-- The solver's answer on a night, by one name: pairing, prices, total and counts.
use Rattle.std.specs.Prelude.{List, ℕ, ℤ}
use Rattle.rules.specs.Run.{Result, run}

-- The run of the written rules on n*n costs in row order.
abbrev pub answer : ℕ → List ℤ → Result
answer n costs = run n costs
