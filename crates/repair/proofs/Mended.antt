-- One search repairs a pairing whose prices are fair but for one row: it ends in a pairing that its prices show to be least. Column prices never
-- rise, and fall to at most 2K below the price of the column that was given up, which keeps its own; row prices follow. Assumes nothing.
use mathlib.Core.Path.{◌≡◌, refl, sym, ap, ◌∙◌, subst}
use mathlib.Core.Logic.{◌≢◌}
use mathlib.Core.List.{List}
use Prim.Native.Nat.{ℕ, ◌+◌, ◌*◌, ◌≤◌, ◌<◌}
use native.Mathlib.Decide.{ℕ_discrete}
use native.Mathlib.Omega.{arith}
use lib.IntN.{ℤ, pos, ◌-ℤ◌}
use lib.Signed.{◌≤ℤ◌}
use lib.ListN.{length-set}
use lib.Seq.{get_or-set_same, get_or-set_other}
use Rattle.ints.specs.Parts.{Within}
use Rattle.ints.proofs.Sums.{dif}
use Rattle.ints.proofs.Shapes.{zlin}
use Rattle.lists.specs.Permutations.{at}
use Rattle.lists.proofs.Tables.{get_d_table}
use Rattle.assignment.specs.Pairings.{Named, square, signed_at}
use Rattle.assignment.specs.Prices.{priced, Feasible, Tight}
use Rattle.assignment.proofs.Square.{square_named_back}
use Rattle.rules.specs.Lowest.{reduced}
use Rattle.rules.specs.Columns.{free, Pairs}
use Rattle.rules.specs.Augmentation.{Progress, augment}
use Rattle.rules.specs.Run.{prices_of_rows}
use Rattle.rules.specs.Right.{Between}
use Rattle.rules.specs.Asked.{AtMinimum, Fair, Paired, Agree, Can}
use Rattle.rules.proofs.Prices.{NotBelow, fair_near, minimum_pays}
use Rattle.rules.proofs.Augment.{Gain, augment_gain}
use Rattle.rules.proofs.Run.{paired-minimum, all_named, all_feasible, all_tight}
use Rattle.repair.specs.Repair.{unpaired}
use Rattle.repair.specs.Asked.{FairBut}

module _ (n : ℕ) (costs : List ℤ) (s : ℕ) (p : Pairs) (us vs : List ℤ) (room : n ≤ free) (H : FairBut n costs s p us vs) where
  abbrev cost : ℕ → ℕ → ℤ
  cost = (square n costs).cost

  -- The column that row s gives up.
  abbrev pub given : ℕ
  given = at p.cols s

  abbrev x : Progress
  x = unpaired p vs s

  abbrev rows : ℕ → ℕ
  rows = at x.pairs.rows

  given_below : given < n
  given_below = H.named.inside s H.row_below

  back : Named (square n costs) p.rows p.cols
  back = square_named_back n costs p.cols p.rows H.named

  row_here : rows given ≡ free
  row_here = get_or-set_same p.rows given free 0 (omega (arith, given_below, H.rows_size))

  row_other : (k : ℕ) → k ≢ given → rows k ≡ at p.rows k
  row_other k d = get_or-set_other p.rows given k free 0 d

  -- The row of another column is another row.
  other_row : (k : ℕ) → k < n → k ≢ given → at p.rows k ≢ s
  other_row k l d e = d (sym (back.back k l) ∙ ap (at p.cols) e)

  -- Only that column is free.
  only-free : (k : ℕ) → k < n → n ≤ rows k → k ≡ given
  only-free k l h = elim (ℕ_discrete k given) [ yes e ↦ e | no d ↦ absurd (omega (arith, row_other k d, back.inside k l)) ]

  agree : Agree n x.pairs
  agree = record {
    cols_size = H.cols_size;
    rows_size = length-set p.rows given free ∙ H.rows_size;
    cols_below = H.named.inside;
    named_back = λ k l h. elim (ℕ_discrete k given) [
      | yes e ↦ absurd (omega (arith, ap rows e, row_here))
      | no d ↦ ap (at p.cols) (row_other k d) ∙ back.back k l
    ];
  }

  -- Row i, another row, sits at its minimum on its column k.
  minimum : (i k : ℕ) → i < n → i ≢ s → at p.cols i ≡ k → AtMinimum n cost (signed_at vs) i k
  minimum i k l d e =
      let met : priced us vs i k ≡ cost i k = subst (λ (j : ℕ). priced us vs i j ≡ cost i j) e (H.tight.met i l d) in
      record { no_less = λ z h. omega (zlin, met, H.feasible.under i z l d h refl) }

  fair : Fair n cost (signed_at vs) rows
  fair = record {
    paired_at_minimum = λ k l h. elim (ℕ_discrete k given) [
      | yes e ↦ absurd (omega (arith, ap rows e, row_here))
      | no d ↦ subst (λ (i : ℕ). AtMinimum n cost (signed_at vs) i k) (sym (row_other k d))
          (minimum (at p.rows k) k (back.inside k l) (other_row k l d) (back.back k l))
    ];
  }

  -- Row s can get a column again.
  pub mend_can : Can n cost x s
  mend_can = record {
    agree = agree;
    prices_size = H.prices_size;
    fair = fair;
    start_below = H.row_below;
    start_unpaired = λ k l e. elim (ℕ_discrete k given) [
      | yes f ↦ absurd (omega (arith, ap rows f, row_here, H.row_below))
      | no d ↦ other_row k l d (sym (row_other k d) ∙ e)
    ];
  }

  abbrev y : Progress
  y = augment n cost x s

  pub mend_gain : Gain n cost x s y
  mend_gain = augment_gain n cost x s mend_can

  -- Every row is paired.
  pub mend_paired : (i : ℕ) → i < n → Paired y.pairs i
  mend_paired i l = elim (ℕ_discrete i s) [
    | yes e ↦ subst (Paired y.pairs) (sym e) mend_gain.start_paired
    | no d ↦ mend_gain.still_paired i l
        (row_other (at p.cols i) (λ e. d (sym (H.named.back i l) ∙ ap (at p.rows) e ∙ H.named.back s H.row_below)) ∙ H.named.back i l)
  ]

  -- The search reaches the column that was given up, whose signed_at stays.
  pub given_price : signed_at y.prices given ≡ signed_at vs given
  given_price =
      let r = mend_gain.reached_free in
      subst (λ (j : ℕ). signed_at y.prices j ≡ signed_at vs j) (only-free r.0 r.1 r.2) r.3

  -- Each column has a row.
  pub mend_rows : (k : ℕ) → k < n → at y.pairs.rows k < n
  mend_rows =
      (square_named_back n costs y.pairs.cols y.pairs.rows
      (all_named n costs y.pairs y.prices mend_gain.agree mend_gain.fair mend_paired)).inside

  -- ---- what the checker asks

  abbrev pub new_row_prices : List ℤ
  new_row_prices = prices_of_rows n cost y.pairs.cols y.prices

  pub mend_feasible : Feasible (square n costs) new_row_prices y.prices
  mend_feasible = all_feasible n costs y.pairs y.prices mend_gain.agree mend_gain.fair mend_paired

  pub mend_tight : Tight (square n costs) new_row_prices y.prices y.pairs.cols
  mend_tight = all_tight n costs y.pairs y.prices mend_gain.agree mend_gain.fair mend_paired

  -- ---- bounds, for costs within K and column prices within B

  module _ (K B : ℕ) (small : (k : ℕ) → Within K (signed_at costs k)) (near : (k : ℕ) → k < n → Within B (signed_at vs k)) where
    cost_small : (i j : ℕ) → Within K (cost i j)
    cost_small i j = small (i * n + j)

    given_low : NotBelow B (signed_at y.prices given)
    given_low = record { low = omega (zlin, given_price, (near given given_below).low) }

    pub mend_column_between : (k : ℕ) → k < n → Between (B + 2 * K) B (signed_at y.prices k)
    mend_column_between k l = record {
      low = (fair_near n cost K cost_small (signed_at y.prices) (at y.pairs.rows) given B given_below given_low mend_gain.fair k l (mend_rows k l)).low;
      high = omega (zlin, mend_gain.not_risen k l, (near k l).high);
    }

    pub mend_row_within : (i : ℕ) → i < n → Within (K + B) (signed_at new_row_prices i)
    mend_row_within i l =
        let j = at y.pairs.cols i in
        let lj = mend_gain.agree.cols_below i l in
        let M = paired-minimum n costs y.pairs y.prices mend_gain.agree mend_gain.fair mend_paired i l in
        let pays = minimum_pays n cost K cost_small (signed_at y.prices) i j given B given_below given_low M in
        subst (Within (K + B)) (sym (get_d_table n (λ i. reduced cost (signed_at y.prices) i (at y.pairs.cols i)) (pos 0) i l))
        (within (cost i j) (signed_at y.prices j) (signed_at vs j) pays (cost_small i j) (near j lj) (mend_gain.not_risen j lj))
      where
        within : (c v w : ℤ) → (c -ℤ v) ≤ℤ pos (K + B) → Within K c → Within B w → v ≤ℤ w → Within (K + B) (c -ℤ v)
        within c v w h g f e = omega (zlin, dif c v, h)
