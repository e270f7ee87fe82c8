-- No two differing outcomes meet the promise of a call: neither number nor bytes, state or slip's room is left open. Assumes nothing.
use mathlib.Core.Path.{◌≡◌, sym, ◌∙◌}
use mathlib.Core.List.{List}
use Prim.Native.Nat.{ℕ}
use Rattle.pieces.specs.Kept.{Kept}
use Rattle.pieces.specs.Calls.{Taken, piece, Ending, end, reset}

module _ (k : Kept) where
  pub piece_determined : (sent : List ℕ) (one other : Taken) → one ≡ piece sent k → other ≡ piece sent k → one ≡ other
  piece_determined sent one other e f = e ∙ sym f

  pub end_determined : (slip : List ℕ) (one other : Ending) → one ≡ end slip k → other ≡ end slip k → one ≡ other
  end_determined slip one other e f = e ∙ sym f

  pub reset_determined : (one other : Taken) → one ≡ reset k → other ≡ reset k → one ≡ other
  reset_determined one other e f = e ∙ sym f
