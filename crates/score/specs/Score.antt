-- The score of two references: its tests, and the sum.
use Rattle.std.specs.Prelude.{not, List, ℕ, ◌+◌, ◌*◌, ◌/◌, ◌%◌, eqb, ℤ, pos, length}
use Rattle.lists.specs.Permutations.{at}
use Rattle.lists.specs.Sums.{sum}
use Rattle.matrix.specs.declared.refusals.Reason.TheVariants.{ReferenceLength, CharacterUnknown}
use Rattle.matrix.specs.Verdicts.{Verdict, ◌then◌, fails_if, fails_at}
use Rattle.matrix.specs.Answers.{Answer, totalled}
use Rattle.score.specs.Characters.{foreign, character_cost}

-- 18, "A wrong length is 18, place 1 or 2".
abbrev pub lengths_twelve : List ℕ → List ℕ → Verdict
lengths_twelve first second =
    fails_if ReferenceLength 1 (not (eqb (length first) 12)) then fails_if ReferenceLength 2 (not (eqb (length second) 12))

-- "its position, from 0, counted on over both references", "with 24 times the reference's number added": where position p of a list of references
-- stands, the first list's at 0 in each pair of 24, the second's at 12. In a single reference that is `start + p`.
abbrev pub pair_place : ℕ → ℕ → ℕ
pair_place start p = 24 * (p / 12) + (start + p % 12)

-- 19, "a wrong character", the first of a list of references.
abbrev pub characters_known : ℕ → List ℕ → Verdict
characters_known start list = fails_at CharacterUnknown (pair_place start) (length list) (λ p. foreign (at list p))

-- 18, "then" 19, the first reference before the second.
unfoldable pub score_tests : List ℕ → List ℕ → Verdict
score_tests first second = lengths_twelve first second then characters_known 0 first then characters_known 12 second

-- "the sum of 12 character costs".
unfoldable pub score_of : List ℕ → List ℕ → ℤ
score_of first second = sum 12 (λ k. pos (character_cost (at first k) (at second k)))

-- The answer: the sum, or the refusal.
unfoldable pub score : List ℕ → List ℕ → Answer
score first second = totalled (score_tests first second) (score_of first second)
