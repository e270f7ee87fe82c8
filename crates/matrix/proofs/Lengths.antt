-- No list is found short exactly if each of the four has n entries. Assumes nothing.
use mathlib.Core.List.{[], ◌∷◌}
use Prim.Native.Nat.{ℕ}
use native.Mathlib.Omega.{arith}
use borrow.Author.Tests.{ltb-false, le-ltb}
use Rattle.matrix.specs.Tests.{short}
use Rattle.matrix.specs.Asked.{Long}
use Rattle.matrix.proofs.First.{Clear, clear_start, clear_more}

module _ (n a b c d : ℕ) where
  pub clear_long : Clear (short n (a ∷ b ∷ c ∷ d ∷ [])) 4 → Long n a b c d
  clear_long clear =
      record {
        first_long = ltb-false a n (clear 0 (omega arith));
        second_long = ltb-false b n (clear 1 (omega arith));
        third_long = ltb-false c n (clear 2 (omega arith));
        fourth_long = ltb-false d n (clear 3 (omega arith));
      }

  pub long_clear : Long n a b c d → Clear (short n (a ∷ b ∷ c ∷ d ∷ [])) 4
  long_clear l =
      let test = short n (a ∷ b ∷ c ∷ d ∷ []) in
      clear_more test 3
      (clear_more test 2
      (clear_more test 1
      (clear_more test 0 (clear_start test) (le-ltb a n l.first_long))
      (le-ltb b n l.second_long))
      (le-ltb c n l.third_long))
      (le-ltb d n l.fourth_long)
