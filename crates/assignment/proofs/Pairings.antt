-- A pairing's columns are an injection; lists that name each other are a pairing, and a pairing has such a list. Assumes nothing.
use mathlib.Core.Path.{◌≡◌}
use mathlib.Core.Bool.{true}
use mathlib.Core.List.{List}
use Prim.Native.Nat.{ℕ, ◌<◌}
use lib.ListN.{length}
use Rattle.lists.specs.Permutations.{at, Injective}
use Rattle.lists.proofs.Permutations.{injective_back, inverse, inverse_back}
use Rattle.assignment.specs.Pairings.{Night, Pairing, Named}

module _ (night : Night) (cols : List ℕ) where
  pub pairing_injective : Pairing night cols → Injective night.row_count night.column_count (at cols)
  pairing_injective p = record { below = p.inside; once = p.apart }

  -- Two lists that name each other are a pairing, where the places are allowed.
  pub named_pairing : (rows : List ℕ) → length cols ≡ night.row_count → Named night cols rows
      → ((i : ℕ) → i < night.row_count → night.allowed i (at cols i) ≡ true) → Pairing night cols
  named_pairing rows size named permitted =
      record {
        size = size;
        inside = named.inside;
        apart = (injective_back (at cols) (at rows) named.inside named.back).once;
        permitted = permitted;
      }

  -- And each pairing is named back by a list, the inverse.
  pub pairing_named : Pairing night cols → Named night cols (inverse (at cols) night.row_count night.column_count)
  pairing_named p = record { inside = p.inside; back = inverse_back (pairing_injective p) }
