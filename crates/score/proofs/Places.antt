-- The references of a list. Assumes nothing.
use mathlib.Core.Path.{ap, ◌∙◌}
use mathlib.Core.List.{List}
use Prim.Native.Nat.{ℕ, ◌+◌, ◌*◌, ◌≤◌, ◌<◌}
use native.Mathlib.Omega.{arith}
use lib.ListN.{length}
use Rattle.lists.proofs.Parts.{part_length, part_at}
use Rattle.score.specs.Characters.{known, Known, Reference}
use Rattle.score.specs.ScoreSheet.{reference}

-- A reference of a list that passed its tests.
module _ (n : ℕ) (list : List ℕ) (l : Known (12 * n) list) (i : ℕ) (h : i < n) where
  reference_inside : 12 * i + 12 ≤ length list
  reference_inside = omega (arith, l.size)

  pub reference-known : Reference (reference i list)
  reference-known = record {
    size = part_length (12 * i) 12 list reference_inside;
    known = λ p m. ap known (part_at (12 * i) 12 list p 0 m) ∙ l.known (12 * i + p) (omega arith);
  }
