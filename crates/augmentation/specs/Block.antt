-- The distances of listed columns.
use Rattle.std.specs.Prelude.{List, ℕ, ℤ}
use Rattle.lists.specs.Permutations.{at}
use Rattle.assignment.specs.Pairings.{signed_at}

-- The distance of the column at place k.
abbrev pub distance_at : List ℤ → List ℕ → ℕ → ℤ
distance_at d list k = signed_at d (at list k)
