-- The plain engine: of all least pairings of a night the first, in dictionary order of columns.
-- A list of m columns out of n is a number below n ^ m in base n, the first row's column its highest digit: dictionary order is the order of numbers.
use Rattle.std.specs.Prelude.{Bool, true, false, cond, not, ◌||◌, List, [], ◌∷◌, ◌++◌, ℕ, zero, suc, ◌^◌, ◌/◌, ◌%◌, eqb, ℤ, length, drop, Option, Some, None, Ok, Err}
use Rattle.std.specs.Int.Signed.{lt_z}
use Rattle.lists.specs.Counts.{some}
use Rattle.lists.specs.Permutations.{at}
use Rattle.lists.specs.Runs.{first}
use Rattle.assignment.specs.Pairings.{Night, total, square}
use Rattle.matrix.specs.Tests.{side_within, costs_fill, list_long, costs_within}
use Rattle.matrix.specs.Verdicts.{◌then◌}
use Rattle.matrix.specs.Answers.{Answer}
use Rattle.matrix.specs.Verdicts.{Verdict}

-- The m lowest digits of k in base n, the lowest last.
unfoldable pub digits : ℕ → ℕ → ℕ → List ℕ
digits n zero k = []
digits n (suc m) k = digits n m (k / n) ++ (k % n ∷ [])

-- How many lists of columns a night has, and list k.
abbrev pub list_count : Night → ℕ
list_count night = night.column_count ^ night.row_count

abbrev pub list_of : Night → ℕ → List ℕ
list_of night k = digits night.column_count night.row_count k

-- Whether a row before row i has its column.
abbrev pub taken : List ℕ → ℕ → Bool
taken cols i = some i (λ h. eqb (at cols h) (at cols i))

-- Whether a list is a pairing: no row's place is barred, and no row has the column of one before it.
unfoldable pub is_pairing : Night → List ℕ → Bool
is_pairing night cols = not (some night.row_count (λ i. not (night.allowed i (at cols i)) || taken cols i))

-- What a list costs: none where it is no pairing.
unfoldable pub cost_of : Night → List ℕ → Option ℤ
cost_of night cols = cond (is_pairing night cols) (Some (total night cols)) None

-- Whether one costs less than the other: any total is less than none.
abbrev pub less : Option ℤ → Option ℤ → Bool
less None found = false
less (Some t) None = true
less (Some t) (Some least) = lt_z t least

-- Whether no list costs less than list k.
unfoldable pub is_least : Night → ℕ → Bool
is_least night k = not (some (list_count night) (λ j. less (cost_of night (list_of night j)) (cost_of night (list_of night k))))

-- "the first pairing, in dictionary order of columns, that reaches" the least total.
unfoldable pub chosen : Night → List ℕ
chosen night = list_of night (first (list_count night) (is_least night))

-- What then stands in the lent list: what was there, where none is found.
abbrev pub written : Option ℤ → List ℕ → List ℕ → List ℕ
written None cols lent = lent
written (Some t) cols lent = cols

-- The entry's tests: "1 (over 8), 2, 3 (list 1), 5".
unfoldable pub plain_tests : ℕ → List ℤ → List ℕ → Verdict
plain_tests n costs cols = side_within 8 n then costs_fill n n costs then list_long 1 n (length cols) then costs_within costs

-- "refused it writes nothing; accepted, the first n entries of cols".
unfoldable pub answered : Verdict → Night → List ℕ → Answer × List ℕ
answered (Err refusal) night cols = (Err refusal, cols)
answered (Ok _) night cols = (Ok (total night (chosen night)), chosen night ++ drop night.row_count cols)

abbrev pub plain : ℕ → List ℤ → List ℕ → Answer × List ℕ
plain n costs cols = answered (plain_tests n costs cols) (square n costs) cols
