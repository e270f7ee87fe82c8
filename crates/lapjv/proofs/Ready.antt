-- What the laws of the rules give the code at side 1 or more: rule 3 can be run, and rule 4 from any stage that rule 3 or a pass ends in.
-- Assumes nothing.
use mathlib.Core.Path.{◌≡◌}
use mathlib.Core.List.{List}
use Prim.Native.Nat.{ℕ, ◌+◌, ◌*◌, ◌≤◌}
use native.Mathlib.Omega.{arith}
use lib.IntN.{ℤ}
use lib.ListN.{length}
use Rattle.ints.specs.Parts.{Within}
use Rattle.ints.proofs.Ranges.{within_mono}
use Rattle.lists.proofs.Runs.{upward_keeps}
use Rattle.assignment.specs.Pairings.{square}
use Rattle.matrix.specs.Limits.{side, K, near}
use Rattle.matrix.proofs.SmallLimits.{side_small, K_small}
use Rattle.rules.specs.Columns.{free, Stage, claims, transfer, untransferred, column_reduction}
use Rattle.rules.specs.Rows.{row_reduction, pass_end}
use Rattle.rules.proofs.Claims.{claimed_all}
use Rattle.rules.proofs.Transfers.{Good, Transferred, transferred_none, transferred_more, transferred_within, column_reduction_good}
use Rattle.rules.proofs.RowReduction.{PassOf, row_reduction_pass_of, look_ready}
use Rattle.reduction.specs.Ranges.{Square}
use Rattle.reduction.specs.Columns.{Reducible, transfers_to}
use Rattle.reduction.specs.Rows.{Passable}
use Rattle.lapjv.specs.Stages.{Pairable}

-- Every side within the limit lies below the free mark.
pub side-free : side ≤ free
unfolding free
side-free = omega (arith, side_small)

pub near_five : {z : ℤ} → Within (5 * K) z → Within near z
near_five = within_mono (omega (arith, K_small))

module _ (n : ℕ) (costs : List ℤ) (p : Pairable n costs) where
  abbrev pub cost : ℕ → ℕ → ℤ
  cost = (square n costs).cost

  abbrev pub costs_within_lem : (i j : ℕ) → Within K (cost i j)
  costs_within_lem i j = p.within (i * n + j)

  abbrev pub GoodStage : Stage → Type 0
  GoodStage = Good n cost p.some K costs_within_lem

  square-near : Square n costs
  square-near = record { small = p.small; size = p.squared; near_costs = λ i j l m. within_mono (omega (arith, K_small)) (costs_within_lem i j) }

  below_free : n ≤ free
  below_free = omega (arith, side-free, p.small)

  -- After m rows of the transfer.
  transferred : (m : ℕ) → m ≤ n
      → Transferred n cost p.some K costs_within_lem (claims n cost) (claimed_all n cost p.some below_free) m (transfers_to n cost m)
  transferred m l =
      upward_keeps (Transferred n cost p.some K costs_within_lem (claims n cost) (claimed_all n cost p.some below_free)) 0 m (transfer n cost (claims n cost))
      (untransferred n cost) (omega arith) (transferred_none n cost p.some K costs_within_lem (claims n cost) (claimed_all n cost p.some below_free))
      (λ k x a h T. transferred_more n cost p.some K costs_within_lem (claims n cost) (claimed_all n cost p.some below_free) k (omega arith) x T)

  pub rule_three : (cols rows : List ℕ) (v : List ℤ) (room : List ℕ) → length cols ≡ n → length rows ≡ n → length v ≡ n → length room ≡ n + n + n + n
      → Reducible n costs cols rows v room
  rule_three cols rows v room a b c d = record {
    some = p.some;
    squared = square-near;
    cols_size = a;
    rows_size = b;
    prices_size = c;
    room_size = d;
    near_prices = λ m l k h. near_five
        (transferred_within n cost p.some K costs_within_lem (claims n cost) (claimed_all n cost p.some below_free) m (transfers_to n cost m)
        (transferred m (omega arith)) k);
  }

  pub rule_three_good : GoodStage (column_reduction n cost)
  rule_three_good = column_reduction_good n cost p.some K costs_within_lem below_free

  -- A pass from a stage that is good.
  module _ (s : Stage) (G : GoodStage s) where
    abbrev after : PassOf n cost p.some K costs_within_lem s (row_reduction n cost s)
    after = row_reduction_pass_of n cost p.some K costs_within_lem s G

    pub rule_four : Passable n costs s.pairs.cols s.pairs.rows s.prices s.frees s.count
    unfolding row_reduction
    rule_four = record {
      squared = square-near;
      cols_size = G.kept.agree.cols_size;
      rows_size = G.kept.agree.rows_size;
      prices_size = G.kept.prices_size;
      frees_size = G.frees_size;
      count_most = G.count_few;
      ends = omega (arith, after.all_looked_at);
      row_below = λ m l h. (look_ready n cost p.some K costs_within_lem s G m h).row_below;
      near_prices = λ m l h j e. near_five ((look_ready n cost p.some K costs_within_lem s G m h).prices_within j);
    }

    pub rule_four_good : GoodStage (pass_end (row_reduction n cost s))
    rule_four_good = after.good
