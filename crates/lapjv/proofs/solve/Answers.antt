-- `solve` leaves what its definition says: at side 0 there is nothing to pair. Assumes nothing.
use mathlib.Core.Path.{◌≡◌, sym, ap, ◌∙◌}
use mathlib.Core.List.{List}
use Prim.Native.Nat.{ℕ}
use lib.IntN.{ℤ, pos}
use Rattle.std.specs.Prelude.{Ok}
use Rattle.rules.specs.Run.{run}
use Rattle.rules.proofs.Run.{side_zero}
use Rattle.lapjv.specs.Solve.{Lent, outcome_of, paired, solve}
use Rattle.lapjv.specs.Values.{no_counts, told_of}
use Rattle.lapjv.specs.WithinLimits.{WithinLimits}
use Rattle.lapjv.proofs.Tests.{passes_paired}
use Rattle.lapjv.proofs.solve.Goals as goal

nothing : (n : ℕ) (costs : List ℤ) (lent : Lent) → WithinLimits n costs lent → n ≡ 0
    → outcome_of (Ok (record { total = pos 0; counts = no_counts })) lent ≡ solve n costs lent
nothing n costs lent p e =
    sym (ap (λ (m : ℕ). paired m lent (run m costs)) e ∙ ap (paired 0 lent) (side_zero costs)) ∙ sym (passes_paired n costs lent p)

pub returns-then-n-eq0 : goal.returns-then-n-eq0
returns-then-n-eq0 c = ap told_of (nothing c.args.n c.args.costs.now _ c.in_ok-tested.ensures.limits c.if-n-eq0.true)
