-- `list_rows` lists the row behind each column: so far those of the rows passed. Assumes nothing.
use Rattle.std.proofs.Common.{◌≡◌, ℕ, length}
use Rattle.lists.specs.Permutations.{at, Injective}
use Rattle.swaps.proofs.Listing.{Listed}
use Rattle.swaps.proofs.start.list_rows.Given as goal

abbrev pub invariant-loop-i : goal.invariant-loop-i
invariant-loop-i l = (n : ℕ) (inj : Injective l.m n (at l.cols)) → n ≡ length l.initial.rows → Listed l.m n l.cols inj l.i l.rows
