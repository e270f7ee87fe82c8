-- The values of an answer determine it, and so the promise of each entry determines the answer and every lent entry: two outcomes that meet it are
-- equal. Assumes nothing.
use mathlib.Core.Path.{◌≡◌, sym, ap, ap₂, ◌∙◌}
use mathlib.Core.Bool.{Bool, true≢false}
use lib.IntN.{ℤ}
use Rattle.matrix.proofs.Determined.{refusal_determined}
use Rattle.std.specs.Prelude.{Ok, Err}
use Rattle.swaps.specs.Entries.{Seconded, Outcome, outcome_of, SecondValues, second_values, Found, told_of}

pub second_values_determine : (a b : Seconded) → second_values a ≡ second_values b → a ≡ b
second_values_determine (Ok s) (Ok t) e =
    ap₂ (λ (z : ℤ) (b : Bool). Ok (record { total = z; another = b })) (ap (λ (v : SecondValues). v.total) e) (ap (λ (v : SecondValues). v.also) e)
second_values_determine (Ok s) (Err r) e = absurd (true≢false (ap (λ (v : SecondValues). v.accepted) e))
second_values_determine (Err q) (Ok t) e = absurd (true≢false (sym (ap (λ (v : SecondValues). v.accepted) e)))
second_values_determine (Err q) (Err r) e =
    ap Err (refusal_determined q r (ap (λ (v : SecondValues). v.number) e) (ap (λ (v : SecondValues). v.place) e) (ap (λ (v : SecondValues). v.slack) e))

pub found_determines : (outcome other : Outcome) → told_of outcome ≡ told_of other → outcome ≡ other
found_determines outcome other e =
    ap₂ outcome_of (second_values_determine outcome.answer other.answer (ap (λ (f : Found). f.values) e)) (ap (λ (f : Found). f.lent) e)

pub second_determined : (said outcome other : Outcome) → told_of outcome ≡ told_of said → told_of other ≡ told_of said → outcome ≡ other
second_determined said outcome other e f = found_determines outcome other (e ∙ sym f)
