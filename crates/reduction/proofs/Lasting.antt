-- What is kept of the rows is true before a pass and lasts over a look: of the row that is looked at what was told, of the others what was kept,
-- and prices only fall. Assumes nothing.
use mathlib.Core.Path.{◌≡◌, sym, ap, subst, ◌∙◌}
use mathlib.Core.Logic.{◌≢◌}
use mathlib.Core.Bool.{true≢false}
use mathlib.Core.List.{List, ◌++◌}
use Prim.Native.Nat.{ℕ, ◌+◌, ◌*◌, ◌<◌}
use native.Mathlib.Decide.{ℕ_discrete}
use native.Mathlib.Omega.{arith}
use lib.IntN.{ℤ, ◌-ℤ◌, pos}
use lib.ListN.{length, take, drop, length-append, length-drop}
use lib.Seq.{drop_at, take-length}
use lib.Signed.{lt_z, ◌≤ℤ◌, ≤ℤ_refl}
use Rattle.lists.specs.Parts.{part}
use Rattle.lists.specs.Permutations.{at, table}
use Rattle.lists.proofs.Tables.{get_d_table}
use Rattle.assignment.specs.Pairings.{square, signed_at}
use Rattle.rules.specs.declared.TwoLowest.{TwoLowest}
use Rattle.rules.specs.Lowest.{reduced, two_lowest}
use Rattle.rules.specs.Rows.{Passing, look}
use Rattle.reduction.specs.Candidates.{Candidates, seen, unseen, Keeps, Told, AllKept, Fell}
use Rattle.reduction.specs.Rows.{Keeping}
use Rattle.reduction.proofs.RowParts.{row_length, row_at, row_two_lowest}
use Rattle.reduction.proofs.Recalled.{candidates_rise}
use Rattle.reduction.proofs.Falling.{look_falls, candidates_last}

-- Marks only: nothing is kept.
pub kept_none : (n : ℕ) (cost : ℕ → ℕ → ℤ) (v : List ℤ) (kept : List ℕ) (limits : List ℤ) → limits ≡ table n (λ k. unseen) → AllKept n cost v kept limits
kept_none n cost v kept limits e = record {
  rows = λ i l h. absurd (true≢false (sym h ∙ ap (λ (w : ℤ). lt_z w seen) (ap (λ (t : List ℤ). signed_at t i) e ∙ get_d_table n (λ k. unseen) (pos 0) i l)));
}

-- Over a look.
kept-look : (n : ℕ) (cost : ℕ → ℕ → ℤ) (x y : Passing) (kept : List ℕ) (limits : List ℤ) → y ≡ look n cost x → AllKept n cost x.prices kept limits
    → AllKept n cost y.prices kept limits
kept-look n cost x y kept limits e all = record {
  rows = λ i l h. candidates_last cost i (all.rows i l h) (subst (λ (z : Passing). Fell x.prices z.prices) (sym e) (look_falls n cost x));
}

-- ---- a row as it was handed back

module _ (n i : ℕ) (costs row v : List ℤ) (inside : i < n) (size : length costs ≡ n * n) (is : row ≡ part (i * n) n costs) where
  abbrev cost : ℕ → ℕ → ℤ
  cost = (square n costs).cost

  abbrev here : ℕ → ℤ
  here j = signed_at row j -ℤ signed_at v j

  here_is : (k : ℕ) → k < n → here k ≡ reduced cost (signed_at v) i k
  here_is k h = ap (λ (x : ℤ). x -ℤ signed_at v k) (row_at n i costs row inside size is k h)

  long : length row ≡ n
  long = row_length n i costs row inside size is

  -- A room whose back was lent.
  module _ (room lent : List ℕ) (limits : List ℤ) (keeping : Keeping n costs v room limits) (back : lent ≡ drop n room) where
    lent-kept : AllKept n cost v lent limits
    lent-kept =
        let all : n + n + n ≡ length lent = omega (arith, ap length back, length-drop n room, keeping.room_size) in
        subst (λ (kept : List ℕ). AllKept n cost v kept limits) (ap (take (n + n + n)) (sym back) ∙ ap (λ (k : ℕ). take k lent) all ∙ take-length lent) keeping.kept

    module _ {kept : List ℕ} {limits' : List ℤ} {two : TwoLowest} (told : Told here (length row) i lent limits kept limits' two) where
      pub two_told : two ≡ two_lowest n (reduced cost (signed_at v) i)
      two_told = told.two_are ∙ row_two_lowest n i costs row inside size is v

      own_told : Keeps (reduced cost (signed_at v) i) n i kept limits'
      own_told h =
          candidates_rise
          (subst (λ (m : ℕ). Candidates here m (at kept (3 * i)) (at kept (3 * i + 1)) (at kept (3 * i + 2)) (signed_at limits' i)) long (told.own h))
          (λ k l. subst (λ (z : ℤ). here k ≤ℤ z) (here_is k l) (≤ℤ_refl (here k)))

      other_told : (k : ℕ) → k < n → k ≢ i → Keeps (reduced cost (signed_at v) k) n k kept limits'
      other_told k l d =
          subst (λ (m : ℕ). Keeps (reduced cost (signed_at v) k) m k kept limits') long
          (told.others (reduced cost (signed_at v) k) k d
          (subst (λ (m : ℕ). Keeps (reduced cost (signed_at v) k) m k lent limits) (sym long) (lent-kept.rows k l)))

      pub kept_told : AllKept n cost v kept limits'
      kept_told = record {
        rows = λ k l. elim (ℕ_discrete k i) [
          | yes e ↦ subst (λ (m : ℕ). Keeps (reduced cost (signed_at v) m) n m kept limits') (sym e) own_told
          | no d ↦ other_told k l d
        ];
      }

      -- After the look: the front came back as `frees`, the back as `kept`.
      pub keeping_look : (x y : Passing) → x.prices ≡ v → y ≡ look n cost x → (frees : List ℕ) → length frees ≡ n → length kept ≡ n + n + n → length limits' ≡ n
          → Keeping n costs y.prices (frees ++ kept) limits'
      keeping_look x y at-v e frees frees_size kept_size limits_size = record {
        room_size = omega (arith, length-append frees kept, frees_size, kept_size);
        limits_size = limits_size;
        kept = subst (λ (k : List ℕ). AllKept n cost y.prices k limits')
            (sym (ap (take (n + n + n)) (drop_at frees kept n frees_size) ∙ ap (λ (k : ℕ). take k kept) (sym kept_size) ∙ take-length kept))
            (kept-look n cost x y kept limits' e (subst (λ (u : List ℤ). AllKept n cost u kept limits') (sym at-v) kept_told));
      }
