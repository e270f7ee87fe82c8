-- The promises of the entries determine what comes out: two outcomes that meet one are equal. Assumes nothing.
use mathlib.Core.Path.{◌≡◌, sym, ◌∙◌}
use mathlib.Core.List.{List}
use Prim.Native.Nat.{ℕ}
use Rattle.matrix.specs.Answers.{values_of}
use Rattle.matrix.specs.Answers.{Answer}
use Rattle.matrix.proofs.Determined.{values_determine}
use Rattle.score.specs.Score.{score}
use Rattle.score.specs.ScoreSheet.{Filled, score_sheet}

pub score_determined : (first second : List ℕ) (answer other : Answer) → values_of answer ≡ values_of (score first second) → values_of other ≡ values_of (score first second) → answer ≡ other
score_determined first second answer other e f = values_determine answer other (e ∙ sym f)

pub score_sheet_determined : (firsts seconds room : List ℕ) (one other : Filled) → one ≡ score_sheet firsts seconds room → other ≡ score_sheet firsts seconds room → one ≡ other
score_sheet_determined firsts seconds room one other e f = e ∙ sym f
