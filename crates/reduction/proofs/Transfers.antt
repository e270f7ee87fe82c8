-- The transfer as code makes it: the three ways of a row, what every row keeps, and the room that holds free rows and marks. Assumes nothing.
use mathlib.Core.Path.{◌≡◌, sym, ap, ◌∙◌, subst}
use mathlib.Core.Bool.{cond}
use mathlib.Core.List.{List, []}
use Prim.Native.Nat.{ℕ, suc, ◌+◌, ◌≤◌, ◌<◌}
use native.Mathlib.Numerals.{add-one}
use native.Mathlib.Omega.{arith}
use lib.Dec.{eqb}
use lib.IntN.{ℤ}
use lib.ListN.{length, set, length-set}
use Rattle.lists.specs.Permutations.{at}
use Rattle.lists.proofs.Runs.{upward_none, upward-last, upward_keeps}
use Rattle.lists.proofs.Cases.{cond_cases}
use Rattle.assignment.specs.Pairings.{square}
use Rattle.rules.specs.Columns.{Claims, Transfer, lower_column, transfer}
use Rattle.reduction.specs.Ranges.{Near}
use Rattle.reduction.specs.Columns.{claims_of, transfer_of, transferring, Transferable}

module _ (n : ℕ) (cost : ℕ → ℕ → ℤ) (s : Claims) (i : ℕ) (x : Transfer) where
  -- Row i joins the free list.
  abbrev joins : Transfer
  joins = record { prices = x.prices; frees = set x.frees x.count i; count = x.count + 1 }

  -- Row i lowers its column's price.
  abbrev lowers : Transfer
  lowers = record { prices = lower_column n cost i (at s.cols i) x.prices; frees = x.frees; count = x.count }

-- ---- what every row keeps

-- Lists of n entries, and no more free rows than m.
pub record Sized (n m : ℕ) (x : Transfer) : Type 0 where
  pub prices_size : length x.prices ≡ n
  pub frees_size : length x.frees ≡ n
  pub count_most : x.count ≤ m

transfer_sized : (n : ℕ) (cost : ℕ → ℕ → ℤ) (s : Claims) (i m : ℕ) (x : Transfer) → Sized n m x → Sized n (suc m) (transfer n cost s i x)
transfer_sized n cost s i m x h =
    let same : Sized n (suc m) x = record { prices_size = h.prices_size; frees_size = h.frees_size; count_most = omega (arith, h.count_most) } in
    cond_cases (eqb (at s.marks i) 0) (Sized n (suc m)) (joins n cost s i x) (cond (eqb (at s.marks i) 1) (lowers n cost s i x) x)
    (λ t. record {
      prices_size = h.prices_size;
      frees_size = length-set x.frees x.count i ∙ h.frees_size;
      count_most = omega (arith, h.count_most);
    })
    (λ t. cond_cases (eqb (at s.marks i) 1) (Sized n (suc m)) (lowers n cost s i x) x
    (λ r. record {
      prices_size = length-set x.prices (at s.cols i) _ ∙ h.prices_size;
      frees_size = h.frees_size;
      count_most = omega (arith, h.count_most);
    })
    (λ r. same))

-- ---- the loop over rows, by what it is lent

module _ {n : ℕ} {costs : List ℤ} {cols marks : List ℕ} {v₀ : List ℤ} {frees₀ : List ℕ} (t : Transferable n costs cols marks v₀ frees₀) where
  abbrev run : ℕ → Transfer
  run = transferring n costs cols marks v₀ frees₀

  abbrev claimed : Claims
  claimed = claims_of cols [] marks

  pub run_sized : (m : ℕ) → Sized n m (run m)
  run_sized m =
      upward_keeps (Sized n) 0 m (transfer n (square n costs).cost claimed) (transfer_of v₀ frees₀ 0) (omega arith)
      (record { prices_size = t.prices_size; frees_size = t.frees_size; count_most = omega arith })
      (λ k x l h z. transfer_sized n (square n costs).cost claimed k k x z)

  pub run_none : transfer_of v₀ frees₀ 0 ≡ run 0
  run_none = sym (upward_none 0 0 (transfer n (square n costs).cost claimed) (transfer_of v₀ frees₀ 0) (omega arith))

  module _ (i : ℕ) {v : List ℤ} {frees : List ℕ} {count : ℕ} (h : transfer_of v frees count ≡ run i) where
    pub sized : Sized n i (transfer_of v frees count)
    sized = subst (Sized n i) (sym h) (run_sized i)

    pub prices_near_lem : i < n → Near n v
    prices_near_lem l = subst (λ (x : Transfer). Near n x.prices) (sym h) (t.near_prices i l)

    -- One row more.
    pub run_next : (y : Transfer) → y ≡ transfer n (square n costs).cost claimed i (transfer_of v frees count) → y ≡ run (i + 1)
    run_next y e =
        e ∙ ap (transfer n (square n costs).cost claimed i) h
        ∙ sym (ap run (add-one i) ∙ upward-last 0 i (transfer n (square n costs).cost claimed) (transfer_of v₀ frees₀ 0) (omega arith))
