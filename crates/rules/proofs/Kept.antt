-- What every stage keeps: pairs that agree, fair prices that never rise from the column minima, free columns untouched, and bounds; and the free
-- rows, listed once each. One step of rules 3 and 4 keeps it. Assumes nothing.
use mathlib.Core.Path.{◌≡◌, sym, ap, ◌∙◌, subst}
use mathlib.Core.Logic.{◌≢◌, ◌⊎◌, ⊎_elim}
use mathlib.Core.List.{List}
use Prim.Native.Nat.{ℕ, ◌*◌, ◌≤◌, ◌<◌}
use native.Mathlib.Omega.{arith}
use lib.IntN.{ℤ, pos, ◌-ℤ◌}
use lib.Signed.{◌≤ℤ◌}
use lib.ListN.{length, set, length-set}
use lib.Seq.{get_or-set_same, get_or-set_other}
use Rattle.ints.specs.Parts.{Within}
use Rattle.ints.proofs.Shapes.{zlin}
use Rattle.lists.specs.Permutations.{at}
use Rattle.assignment.specs.Pairings.{signed_at}
use Rattle.rules.specs.Lowest.{reduced}
use Rattle.rules.specs.Columns.{Pairs}
use Rattle.rules.specs.Asked.{Fair, Paired, Unpaired, Agree}
use Rattle.rules.proofs.Prices.{NotBelow, all_near}
use Rattle.rules.proofs.Sizes.{within_everywhere}
use Rattle.rules.proofs.Lowering.{Lowers, Put, Bounds, lowers_fair, never_rises, lowers_bounds, bounds_low}

-- The rows with no column stand in the list at the places In, each once.
pub record Listed (n : ℕ) (p : Pairs) (frees : List ℕ) (In : ℕ → Type 0) : Type 0 where
  pub row_below : (t : ℕ) → In t → at frees t < n
  pub unpaired : (t : ℕ) → In t → Unpaired n p (at frees t)
  pub once : (t u : ℕ) → In t → In u → at frees t ≡ at frees u → t ≡ u
  pub paired_or_listed : (i : ℕ) → i < n → Paired p i ⊎ ((t : ℕ) × In t × (at frees t ≡ i))

-- Costs in -K..K; `first` are the prices that free columns have, at -K or more.
module _ (n : ℕ) (cost : ℕ → ℕ → ℤ) (K : ℕ) (costs : (i j : ℕ) → Within K (cost i j)) (first : ℕ → ℤ) where
  pub record Kept (p : Pairs) (v : List ℤ) : Type 0 where
    pub agree : Agree n p
    pub prices_size : length v ≡ n
    pub fair : Fair n cost (signed_at v) (at p.rows)
    pub free_untouched : (k : ℕ) → k < n → n ≤ at p.rows k → signed_at v k ≡ first k
    pub not_risen : (k : ℕ) → k < n → signed_at v k ≤ℤ first k
    -- Side 1 has no other column to lower to.
    pub single : n ≡ 1 → (k : ℕ) → k < n → signed_at v k ≡ first k
    pub bounds : Bounds n cost K costs (signed_at v)

  module _ (base : (k : ℕ) → NotBelow K (first k)) (p : Pairs) (v : List ℤ) (h : Kept p v) where
    pub free-low : (k : ℕ) → k < n → n ≤ at p.rows k → NotBelow K (signed_at v k)
    free-low k l f = record { low = omega (zlin, h.free_untouched k l f, (base k).low) }

    -- No sum on the way leaves 64 bits. Past the end of the list the price is 0.
    pub within_five : ((k : ℕ) → Within K (first k)) → (k : ℕ) → Within (5 * K) (signed_at v k)
    within_five w = within_everywhere (5 * K) v (λ k b. let l : k < n = omega (arith, h.prices_size) in
        record { low = (bounds_low n cost K costs (signed_at v) h.bounds k l).low; high = omega (zlin, h.not_risen k l, (w k).high) })

    -- Where a column is at -K or more, all are at -3K or more.
    pub three : (f : ℕ) → f < n → NotBelow K (signed_at v f) → (k : ℕ) → k < n → NotBelow (3 * K) (signed_at v k)
    three f l g = all_near n cost K costs (signed_at v) (at p.rows) f l g h.fair free-low

    module _ (j : ℕ) (q : ℤ) (lj : j < n) where
      put : Put n cost (signed_at v) (signed_at (set v j q)) j q
      put = record { here = get_or-set_same v j q (pos 0) (omega (arith, h.prices_size)); elsewhere = λ k d. get_or-set_other v j k q (pos 0) d }

      -- Row i has column j, at price q from then on; before, some column f is at -K or more.
      pub step : (f : ℕ) → f < n → NotBelow K (signed_at v f) → (i : ℕ) → Lowers n cost (signed_at v) i j q → (p' : Pairs) → Agree n p'
          → at p'.rows j ≡ i → i < n → ((k : ℕ) → k ≢ j → at p'.rows k ≡ at p.rows k) → Kept p' (set v j q)
      step f lf g i w p' A e li keep = record {
        agree = A;
        prices_size = length-set v j q ∙ h.prices_size;
        fair = lowers_fair n cost (signed_at v) (signed_at (set v j q)) i j q w put (at p.rows) (at p'.rows) e keep h.fair;
        free_untouched = λ k l m.
            let d : k ≢ j = λ z. omega (arith, ap (at p'.rows) z) in
            put.elsewhere k d ∙ h.free_untouched k l (omega (arith, keep k d));
        not_risen = λ k l. omega (zlin, never_rises n cost (signed_at v) (signed_at (set v j q)) i j q w put k, h.not_risen k l);
        single = λ a k l.
            let z : k ≡ j = omega arith in
            ⊎_elim (λ y. subst (λ (x : ℕ). signed_at (set v j q) x ≡ first x) (sym z) (put.here ∙ y ∙ h.single a j lj))
            (λ (y : (k : ℕ) × (k < n) × (k ≢ j) × (cost i j -ℤ q ≡ reduced cost (signed_at v) i k)). absurd (y.2 (omega (arith, y.1)))) w.source;
        bounds = lowers_bounds n cost K costs (signed_at v) (signed_at (set v j q)) i j q (three f lf g) w put;
      }
