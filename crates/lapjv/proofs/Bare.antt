-- No refusal of the solver has a slack. Assumes nothing.
use mathlib.Core.Path.{◌≡◌}
use mathlib.Core.List.{List, [], ◌∷◌}
use Prim.Native.Nat.{ℕ}
use lib.IntN.{ℤ}
use lib.ListN.{length}
use Rattle.matrix.specs.Verdicts.{bare}
use Rattle.matrix.proofs.Verdicts.{bare_then, bare-at}
use Rattle.matrix.proofs.Bare.{shaped-bare, rooms_bare}
use Rattle.lapjv.specs.Solve.{Lent, tested}

pub tested-bare : (n : ℕ) (costs : List ℤ) (lent : Lent) → bare (tested n costs lent) ≡ tested n costs lent
unfolding tested
tested-bare n costs lent =
    bare_then _ _
    (bare_then _ _
    (shaped-bare n costs (length lent.cols ∷ length lent.rows ∷ length lent.prices_of_rows ∷ length lent.prices_of_columns ∷ []))
    (rooms_bare n (length lent.indices) (length lent.numbers)))
    (bare-at _ _ _ _ _)
