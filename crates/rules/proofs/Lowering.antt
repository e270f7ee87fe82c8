-- One step of rules 3 and 4: a row has a column whose price falls until another column is as low. Prices stay fair, never rise, and keep their
-- bounds. Assumes nothing.
use mathlib.Core.Path.{◌≡◌, sym, subst}
use mathlib.Core.Logic.{◌≢◌, ◌⊎◌, ⊎_elim}
use Prim.Native.Nat.{ℕ, ◌*◌, ◌<◌}
use native.Mathlib.Omega.{arith}
use lib.IntN.{ℤ, ◌-ℤ◌}
use lib.Signed.{◌≤ℤ◌}
use Rattle.ints.specs.Parts.{Within}
use Rattle.ints.proofs.Shapes.{zlin}
use Rattle.lists.proofs.Cases.{here_or_elsewhere}
use Rattle.rules.specs.Lowest.{reduced}
use Rattle.rules.specs.Asked.{AtMinimum, Fair}
use Rattle.rules.proofs.Prices.{NotBelow}

module _ (n : ℕ) (cost : ℕ → ℕ → ℤ) where
  -- At price p row i sits at its minimum on column j; p is the old price, or makes j as dear as another column.
  pub record Lowers (v : ℕ → ℤ) (i j : ℕ) (p : ℤ) : Type 0 where
    pub column_below : j < n
    pub not_raised : p ≤ℤ v j
    pub at_minimum : (k : ℕ) → k < n → k ≢ j → (cost i j -ℤ p) ≤ℤ reduced cost v i k
    pub source : (p ≡ v j) ⊎ ((k : ℕ) × (k < n) × (k ≢ j) × (cost i j -ℤ p ≡ reduced cost v i k))

  -- v' is v with p at j.
  pub record Put (v v' : ℕ → ℤ) (j : ℕ) (p : ℤ) : Type 0 where
    pub here : v' j ≡ p
    pub elsewhere : (k : ℕ) → k ≢ j → v' k ≡ v k

  module _ (v v' : ℕ → ℤ) (i j : ℕ) (p : ℤ) (w : Lowers v i j p) (q : Put v v' j p) where
    pub never_rises : (k : ℕ) → v' k ≤ℤ v k
    never_rises =
        here_or_elsewhere (λ k. v' k ≤ℤ v k) j (omega (zlin, q.here, w.not_raised)) (λ k d. omega (zlin, q.elsewhere k d))

    lowered_minimum : AtMinimum n cost v' i j
    lowered_minimum = record {
      no_less = here_or_elsewhere (λ k. k < n → reduced cost v' i j ≤ℤ reduced cost v' i k) j (λ l. omega zlin)
          (λ k d l. omega (zlin, w.at_minimum k l d, q.here, q.elsewhere k d));
    }

    -- Row i has column j, and the other columns keep their rows.
    pub lowers_fair : (row row' : ℕ → ℕ) → row' j ≡ i → ((k : ℕ) → k ≢ j → row' k ≡ row k) → Fair n cost v row → Fair n cost v' row'
    lowers_fair row row' e keep F = record {
      paired_at_minimum = here_or_elsewhere (λ k. k < n → row' k < n → AtMinimum n cost v' (row' k) k) j
          (λ l h. subst (λ (x : ℕ). AtMinimum n cost v' x j) (sym e) lowered_minimum)
          (λ k d l h. subst (λ (x : ℕ). AtMinimum n cost v' x k) (sym (keep k d)) (still k d l (omega (arith, keep k d))));
    }
      where
        still : (k : ℕ) → k ≢ j → k < n → row k < n → AtMinimum n cost v' (row k) k
        still k d l h = record {
          no_less = λ x m. omega (zlin, (F.paired_at_minimum k l h).no_less x m, never_rises x, q.elsewhere k d);
        }

  -- ---- bounds, for costs in -K..K

  module _ (K : ℕ) (costs : (i j : ℕ) → Within K (cost i j)) where
    -- All columns at -3K or more but one, and that one at -5K or more.
    pub record Bounds (v : ℕ → ℤ) : Type 0 where
      pub one : ℕ
      pub one_low : NotBelow (5 * K) (v one)
      pub others_low : (k : ℕ) → k < n → k ≢ one → NotBelow (3 * K) (v k)

    -- One step from prices at -3K or more.
    pub lowers_bounds : (v v' : ℕ → ℤ) (i j : ℕ) (p : ℤ) → ((k : ℕ) → k < n → NotBelow (3 * K) (v k)) → Lowers v i j p → Put v v' j p → Bounds v'
    lowers_bounds v v' i j p all w q = record {
      one = j;
      one_low = record {
        low = ⊎_elim (λ e. omega (zlin, q.here, (all j w.column_below).low))
            (λ (s : (k : ℕ) × (k < n) × (k ≢ j) × (cost i j -ℤ p ≡ reduced cost v i k)).
            let k = s.0 in omega (zlin, q.here, s.3, (all k s.1).low, costs i j, costs i k)) w.source;
      };
      others_low = λ k l d. record { low = omega (zlin, q.elsewhere k d, (all k l).low) };
    }

    pub bounds_low : (v : ℕ → ℤ) → Bounds v → (k : ℕ) → k < n → NotBelow (5 * K) (v k)
    bounds_low v b =
        here_or_elsewhere (λ k. k < n → NotBelow (5 * K) (v k)) b.one (λ l. b.one_low)
        (λ k d l. record { low = omega (arith, (b.others_low k l d).low) })
