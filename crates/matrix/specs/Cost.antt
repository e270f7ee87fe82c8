-- The crate's `cost`: a total over a list of columns.
use Rattle.std.specs.Prelude.{List, ℕ, ℤ, length}
use Rattle.lists.specs.Permutations.{at}
use Rattle.lists.specs.Sums.{sum}
use Rattle.assignment.specs.Pairings.{square}
use Rattle.matrix.specs.Limits.{side}
use Rattle.matrix.specs.Verdicts.{◌then◌}
use Rattle.matrix.specs.Answers.{totalled}
use Rattle.matrix.specs.Tests.{side_within, costs_fill, list_short, costs_within, columns_inside}
use Rattle.matrix.specs.Verdicts.{Verdict}
use Rattle.matrix.specs.Answers.{Answer}

-- What the first m rows cost, each at the column that the list has for it. At m = n it is `total (square n costs) cols`.
abbrev pub total_of : ℕ → List ℤ → ℕ → List ℕ → ℤ
total_of n costs m cols = sum m (λ i. (square n costs).cost i (at cols i))

-- "`cost`: 1, 2, 3, 5, 6; its list may have 0 to n entries, need not be a permutation, and 3 (place 1) means longer than n."
unfoldable pub cost_tests : ℕ → List ℤ → List ℕ → Verdict
cost_tests n costs listed =
    side_within side n
    then costs_fill n n costs
    then list_short n (length listed)
    then costs_within costs
    then columns_inside (length listed) n listed

-- The answer: the total of the rows listed, or the refusal.
unfoldable pub cost : ℕ → List ℤ → List ℕ → Answer
cost n costs listed = totalled (cost_tests n costs listed) (total_of n costs (length listed) listed)
