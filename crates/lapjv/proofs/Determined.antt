-- The values of the solver's answer determine it, and so the promise determines the answer and every lent entry: two outcomes that meet it are
-- equal. Assumes nothing.
use mathlib.Core.Path.{◌≡◌, sym, ap, ap₂, ◌∙◌}
use mathlib.Core.Bool.{true≢false}
use mathlib.Core.List.{List}
use Prim.Native.Nat.{ℕ}
use lib.IntN.{ℤ}
use Rattle.matrix.proofs.Determined.{refusal_determined}
use Rattle.rules.specs.declared.Counts.{Counts}
use Rattle.std.specs.Prelude.{Ok, Err}
use Rattle.lapjv.specs.Solve.{Solved, Lent, Outcome, outcome_of, solve}
use Rattle.lapjv.specs.Values.{SolvedValues, solved_values, Told, told_of}

pub solved_values_determine : (a b : Solved) → solved_values a ≡ solved_values b → a ≡ b
solved_values_determine (Ok s) (Ok t) e =
    ap₂ (λ (z : ℤ) (c : Counts). Ok (record { total = z; counts = c })) (ap (λ (v : SolvedValues). v.total) e) (ap (λ (v : SolvedValues). v.counts) e)
solved_values_determine (Ok s) (Err r) e = absurd (true≢false (ap (λ (v : SolvedValues). v.accepted) e))
solved_values_determine (Err q) (Ok t) e = absurd (true≢false (sym (ap (λ (v : SolvedValues). v.accepted) e)))
solved_values_determine (Err q) (Err r) e =
    ap Err (refusal_determined q r (ap (λ (v : SolvedValues). v.number) e) (ap (λ (v : SolvedValues). v.place) e) (ap (λ (v : SolvedValues). v.slack) e))

pub told_determines : (outcome other : Outcome) → told_of outcome ≡ told_of other → outcome ≡ other
told_determines outcome other e =
    ap₂ outcome_of (solved_values_determine outcome.answer other.answer (ap (λ (t : Told). t.values) e)) (ap (λ (t : Told). t.lent) e)

pub solve_determined : (n : ℕ) (costs : List ℤ) (lent : Lent) (outcome other : Outcome)
    → told_of outcome ≡ told_of (solve n costs lent) → told_of other ≡ told_of (solve n costs lent) → outcome ≡ other
solve_determined n costs lent outcome other e f = told_determines outcome other (e ∙ sym f)
