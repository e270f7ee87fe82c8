-- The plain engine's total is the solver's, on every matrix that both accept: both are least. Assumes nothing.
use mathlib.Core.Path.{◌≡◌, sym, ap, ◌∙◌}
use mathlib.Core.List.{List}
use Prim.Native.Nat.{ℕ, ◌≤◌}
use lib.IntN.{ℤ}
use lib.ListN.{length}
use Rattle.matrix.specs.Answers.{Answer}
use Rattle.std.specs.Prelude.{Ok}
use Rattle.lapjv.specs.Answers.{answer}
use Rattle.lapjv.specs.Solve.{Lent, solve}
use Rattle.lapjv.specs.WithinLimits.{WithinLimits}
use Rattle.lapjv.proofs.Owed.{answer_owes}
use Rattle.plain.specs.Engine.{plain}
use Rattle.plain.proofs.Entry.{fit_plain, square-same}
use Rattle.theorems.proofs.Accepted.{solved_answer}

module _ (n : ℕ) (costs : List ℤ) (lent : Lent) (p : WithinLimits n costs lent) (cols : List ℕ) (small : n ≤ 8) (listed : n ≤ length cols) where
  pub plain-total : (plain n costs cols).0 ≡ Ok (answer n costs).total
  plain-total =
      let r = answer_owes n costs p.small p.costs_within in
      ap (λ (o : Answer × List ℕ). o.0) (fit_plain n costs cols (record { small = small; squared = p.squared; listed = listed; within = p.costs_within }))
      ∙ ap Ok (square-same n costs (answer n costs).cols r.least ∙ sym r.total_is)

  -- The solver's answer has the total that the plain engine gives.
  pub second_opinion : (total : ℤ) → (plain n costs cols).0 ≡ Ok total → (solve n costs lent).answer ≡ Ok (record { total = total; counts = (answer n costs).counts })
  second_opinion total e =
      let same : Ok total ≡ Ok (answer n costs).total = sym e ∙ plain-total in
      let t : (answer n costs).total ≡ total = sym (cc same) in
      solved_answer n costs lent p ∙ ap (λ (z : ℤ). Ok (record { total = z; counts = (answer n costs).counts })) t
