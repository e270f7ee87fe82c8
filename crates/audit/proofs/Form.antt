-- A slip's form, test after test: what one that is unlike fails by. Assumes nothing.
use mathlib.Core.Path.{◌≡◌, sym, ap}
use mathlib.Core.Bool.{Bool, true, false, not, ◌&&◌, ◌||◌}
use mathlib.Core.List.{List}
use Prim.Native.Nat.{ℕ, ◌+◌}
use lib.Dec.{eqb}
use lib.ListN.{length}
use borrow.Author.Tests.{eq-eqb, ne_eqb}
use Rattle.layout.specs.Values.{value_of}
use Rattle.layout.specs.Trailers.{slip_mark, has_row_count, distance_of, side_of, edition_of, row_count_of, unmarked}
use Rattle.layout.specs.Slips.{slip_distance, slip_length}
use Rattle.audit.specs.Audit.{unlike}
use Rattle.audit.proofs.Slips.{or_here, or_next}

module _ (edition m n : ℕ) (slip : List ℕ) where
  pub unlike_long : (length slip ≡ slip_length edition m n → ⊥) → true ≡ unlike edition m n slip
  unfolding unlike
  unlike_long e = or_here _ _ (ap not (ne_eqb _ _ e))

  module _ (long : length slip ≡ slip_length edition m n) where
    pub unlike_mark : unmarked (value_of slip_mark) slip ≡ true → true ≡ unlike edition m n slip
    unfolding unlike
    unlike_mark e = or_next _ _ _ (ap not (eq-eqb _ _ long)) (or_here _ _ e)

    module _ (marked : unmarked (value_of slip_mark) slip ≡ false) where
      pub unlike_distance : (distance_of slip ≡ slip_distance edition m n → ⊥) → true ≡ unlike edition m n slip
      unfolding unlike
      unlike_distance e = or_next _ _ _ (ap not (eq-eqb _ _ long)) (or_next _ _ _ marked (or_here _ _ (ap not (ne_eqb _ _ e))))

      module _ (far : distance_of slip ≡ slip_distance edition m n) where
        pub unlike_side : (side_of slip ≡ n → ⊥) → true ≡ unlike edition m n slip
        unfolding unlike
        unlike_side e =
            or_next _ _ _ (ap not (eq-eqb _ _ long)) (or_next _ _ _ marked (or_next _ _ _ (ap not (eq-eqb _ _ far)) (or_here _ _ (ap not (ne_eqb _ _ e)))))

        module _ (wide : side_of slip ≡ n) where
          pub unlike_edition : (edition_of slip ≡ edition → ⊥) → true ≡ unlike edition m n slip
          unfolding unlike
          unlike_edition e =
              or_next _ _ _ (ap not (eq-eqb _ _ long)) (or_next _ _ _ marked (or_next _ _ _ (ap not (eq-eqb _ _ far)) (or_next _ _ _ (ap not (eq-eqb _ _ wide)) (or_here _ _ (ap not (ne_eqb _ _ e))))))

          pub unlike_rows : edition_of slip ≡ edition → (b : Bool) → b ≡ (has_row_count edition && not (eqb (row_count_of slip) m)) → b ≡ unlike edition m n slip
          unfolding unlike
          unlike_rows same b e =
              or_next _ _ _ (ap not (eq-eqb _ _ long)) (or_next _ _ _ marked (or_next _ _ _ (ap not (eq-eqb _ _ far)) (or_next _ _ _ (ap not (eq-eqb _ _ wide)) (or_next _ _ _ (ap not (eq-eqb _ _ same)) e))))
