-- The values of an answer determine it, and so the promise of `cost` does: two answers that meet it are equal. Nothing is lent to be written.
-- Assumes nothing.
use mathlib.Core.Path.{◌≡◌, sym, ap, ap₂, ◌∙◌}
use mathlib.Core.Bool.{true≢false}
use mathlib.Core.List.{List}
use Prim.Native.Nat.{ℕ}
use lib.IntN.{ℤ}
use Rattle.matrix.specs.Refusals.{number_of, place_of, slack_of}
use Rattle.matrix.specs.Answers.{Values, values_of}
use Rattle.matrix.specs.Cost.{cost}
use Rattle.matrix.specs.declared.refusals.Reason.{Reason}
use Rattle.matrix.specs.declared.refusals.Refusal.{Refusal}
use Rattle.matrix.proofs.Reasons.{numbers_apart}
use Rattle.matrix.specs.Answers.{Answer}
use Rattle.std.specs.Prelude.{Ok, Err}

abbrev refusal_is : Reason → ℕ → ℤ → Refusal
refusal_is reason place slack = record { reason = reason; place = place; slack = slack }

pub refusal_determined : (q r : Refusal) → number_of q ≡ number_of r → place_of q ≡ place_of r → slack_of q ≡ slack_of r → q ≡ r
refusal_determined q r e f g = ap₂ (λ (reason : Reason) (place : ℕ). refusal_is reason place (slack_of q)) (numbers_apart q.reason r.reason e) f ∙ ap (refusal_is r.reason (place_of r)) g

pub values_determine : (a b : Answer) → values_of a ≡ values_of b → a ≡ b
values_determine (Ok s) (Ok t) e = ap Ok (ap (λ (v : Values). v.total) e)
values_determine (Ok s) (Err r) e = absurd (true≢false (ap (λ (v : Values). v.accepted) e))
values_determine (Err q) (Ok t) e = absurd (true≢false (sym (ap (λ (v : Values). v.accepted) e)))
values_determine (Err q) (Err r) e =
    ap Err (refusal_determined q r (ap (λ (v : Values). v.number) e) (ap (λ (v : Values). v.place) e) (ap (λ (v : Values). v.slack) e))

pub cost_determined : (n : ℕ) (costs : List ℤ) (listed : List ℕ) (answer other : Answer)
    → values_of answer ≡ values_of (cost n costs listed) → values_of other ≡ values_of (cost n costs listed) → answer ≡ other
cost_determined n costs listed answer other e f = values_determine answer other (e ∙ sym f)
