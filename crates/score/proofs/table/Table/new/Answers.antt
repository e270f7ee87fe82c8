-- `new`: the constant is the definition's table, by computation. Assumes nothing.
use mathlib.Core.Path.{refl}
use Rattle.lists.specs.Permutations.{table}
use Rattle.score.specs.Characters.{character_cost, place_cost, cost_table}
use Rattle.score.proofs.table.Table.new.Goals as goal

pub invariant_of-result : goal.invariant_of-result
unfolding cost_table table place_cost character_cost
invariant_of-result c = record { right = refl }
