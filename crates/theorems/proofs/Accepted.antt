-- The checker accepts the answer of the rules for every night within the limits, and so the solver's, with whatever stands behind it in longer
-- lists; so do the checkers of nights with bars and of oblong ones, of the squares made of them; and what the solver pairs is least. Assumes nothing.
use mathlib.Core.Path.{◌≡◌, sym, ap, ◌∙◌, subst}
use mathlib.Core.Logic.{◌↔◌}
use mathlib.Core.Bool.{false}
use mathlib.Core.List.{List, [], ◌++◌}
use Prim.Native.Nat.{ℕ, ◌*◌, ◌≤◌, ◌<◌}
use native.Mathlib.Nat.{le_trans}
use native.Mathlib.Omega.{arith}
use lib.IntN.{ℤ, pos}
use lib.ListN.{length, take, drop}
use lib.Seq.{take_at}
use Rattle.ints.specs.Parts.{Within}
use Rattle.ints.proofs.Ranges.{within_mono}
use Rattle.ints.proofs.Shapes.{zlin}
use Rattle.lists.specs.Permutations.{at}
use Rattle.assignment.specs.Padded.{padded}
use Rattle.assignment.specs.Pairings.{Least, Named, signed_at, square, total}
use Rattle.assignment.proofs.Longer.{total_first}
use Rattle.bars.specs.Barred.{night_of, first_barred, bits_above, filled_costs}
use Rattle.bars.proofs.FilledCosts.{filled_costs_length, filled_costs_within}
use Rattle.bars.specs.Tests.{barred_most}
use Rattle.bars.proofs.Barred.{barred-total}
use Rattle.bars.proofs.Passed.{barred_most_small}
use Rattle.matrix.specs.Limits.{side, sheet_side, K}
use Rattle.matrix.proofs.SmallLimits.{sheet_side_within}
use Rattle.std.specs.Prelude.{Ok}
use Rattle.rules.specs.Run.{Result}
use Rattle.rules.specs.Right.{Right}
use Rattle.rules.proofs.Run.{right_within_ten}
use Rattle.checker.specs.Check.{check, check_barred, check_oblong}
use Rattle.checker.specs.Proven.{Accepts, Proven}
use Rattle.checker.proofs.Accepted.{proven_accepted}
use Rattle.checker.proofs.Least.{accepted_least, accepted_iff_least}
use Rattle.checker.proofs.FromSquare.{filled_accepted, padded_proven_accepted}
use Rattle.lapjv.specs.Answers.{answer}
use Rattle.lapjv.specs.Solve.{Lent, Outcome, solve}
use Rattle.lapjv.specs.WithinLimits.{WithinLimits}
use Rattle.lapjv.proofs.Owed.{answer_owes}
use Rattle.lapjv.proofs.Tests.{passes_paired}
use Rattle.theorems.proofs.Front.{proven_front}

module _ (n : ℕ) (costs : List ℤ) (small : n ≤ side) (squared : length costs ≡ n * n) (within : (k : ℕ) → k < length costs → Within K (signed_at costs k)) where
  abbrev found : Result
  found = answer n costs

  owed : Right n costs K found
  owed = answer_owes n costs small within

  run_proven : Proven n costs found.cols found.rows found.prices_of_rows found.prices_of_columns
  run_proven =
      let r = owed in
      record {
        sizes = record { small = small; squared = squared; columns_listed = omega (arith, r.cols_size); rows_listed = omega (arith, r.rows_size) };
        within = within;
        named = r.named;
        row_prices = record { enough = omega (arith, r.row_prices_size); within = (right_within_ten n costs K found r).0 };
        column_prices = record { enough = omega (arith, r.column_prices_size); within = (right_within_ten n costs K found r).1 };
        feasible = r.feasible;
        tight = r.tight;
      }

  total_front : (c : List ℕ) → total (square n costs) (found.cols ++ c) ≡ found.total
  total_front c =
      let o = owed in
      sym (total_first (square n costs) (found.cols ++ c)) ∙ ap (total (square n costs)) (take_at found.cols c n o.cols_size) ∙ sym o.total_is

  -- The rules' columns and prices are proven under any rows that the columns name back.
  pub run_proven_by : (rows : List ℕ) → n ≤ length rows → Named (square n costs) found.cols rows → Proven n costs found.cols rows found.prices_of_rows found.prices_of_columns
  run_proven_by rows listed named =
      let f = run_proven in
      record {
        sizes = record { small = small; squared = squared; columns_listed = f.sizes.columns_listed; rows_listed = listed };
        within = within;
        named = named;
        row_prices = f.row_prices;
        column_prices = f.column_prices;
        feasible = f.feasible;
        tight = f.tight;
      }

  -- The checker accepts them, with their total.
  pub run_accepted : (rows : List ℕ) → n ≤ length rows → Named (square n costs) found.cols rows
      → check n costs found.cols rows found.prices_of_rows found.prices_of_columns ≡ Ok found.total
  run_accepted rows listed named =
      proven_accepted n costs found.cols rows found.prices_of_rows found.prices_of_columns (run_proven_by rows listed named)
      ∙ ap Ok (sym owed.total_is)

  -- The checker accepts the rules' answer, with its total; whatever stands behind it.
  pub checker_accepts_run : (c r : List ℕ) (u v : List ℤ)
      → check n costs (found.cols ++ c) (found.rows ++ r) (found.prices_of_rows ++ u) (found.prices_of_columns ++ v) ≡ Ok found.total
  checker_accepts_run c r u v =
      let o = owed in
      proven_accepted n costs (found.cols ++ c) (found.rows ++ r) (found.prices_of_rows ++ u) (found.prices_of_columns ++ v)
      (proven_front n costs found.cols found.rows found.prices_of_rows found.prices_of_columns o.cols_size o.rows_size o.row_prices_size
      o.column_prices_size run_proven c r u v)
      ∙ ap Ok (total_front c)

-- A night with bars: where no pair of the rules' answer on the costs with K on barred places is barred, the checker with bars accepts its columns and
-- prices on the night's own costs, with the total, under any rows that the columns name back.
module _ (n : ℕ) (costs : List ℤ) (bars : List ℕ) (small : n ≤ sheet_side) (squared : length costs ≡ n * n) (listed : n ≤ length bars)
    (within : (k : ℕ) → k < length costs → Within barred_most (signed_at costs k)) (clear : (i : ℕ) → i < n → bits_above n (at bars i) ≡ false) where
  abbrev filled : List ℤ
  filled = filled_costs n (pos K) costs bars

  abbrev answered : Result
  answered = answer n filled

  filled_small : n ≤ side
  filled_small = le_trans small sheet_side_within

  filled-near : (k : ℕ) → k < length filled → Within K (signed_at filled k)
  filled-near k l =
      filled_costs_within n (pos K) costs bars K (omega zlin) (λ i h. within_mono barred_most_small (within i (omega (arith, squared)))) k (omega (arith, filled_costs_length n (pos K) costs bars))

  pub run_barred_accepted : n ≤ first_barred n bars answered.cols → (rows : List ℕ) → n ≤ length rows → Named (square n filled) answered.cols rows
      → check_barred n costs answered.cols rows answered.prices_of_rows answered.prices_of_columns bars ≡ Ok answered.total
  run_barred_accepted free rows long named =
      let size = filled_costs_length n (pos K) costs bars in
      let o = answer_owes n filled filled_small filled-near in
      filled_accepted n (pos K) costs bars small squared listed within clear answered.cols rows answered.prices_of_rows answered.prices_of_columns
      (run_proven_by n filled filled_small size filled-near rows long named) free
      ∙ ap Ok (sym (o.total_is ∙ barred-total n (pos K) costs bars answered.cols o.pairing free))

-- An oblong night: the checker of such nights accepts the first m columns and row prices, and all column prices, of the rules' answer on a square of
-- costs that reads as the night with rows of zeros added below, with the total.
module _ (m n : ℕ) (costs padding : List ℤ) (small : n ≤ sheet_side) (fits : m ≤ n) (size : length costs ≡ m * n) (squared : length padding ≡ n * n)
    (within : (k : ℕ) → k < length costs → Within K (signed_at costs k)) (near : (k : ℕ) → k < length padding → Within K (signed_at padding k))
    (reads : (i j : ℕ) → i < n → j < n → (square n padding).cost i j ≡ (padded (night_of m n costs [])).cost i j) where
  abbrev padded-answer : Result
  padded-answer = answer n padding

  pub run_oblong_accepted : check_oblong m n costs padded-answer.cols padded-answer.prices_of_rows padded-answer.prices_of_columns ≡ Ok (total (night_of m n costs []) padded-answer.cols)
  run_oblong_accepted =
      let s = le_trans small sheet_side_within in
      let o = answer_owes n padding s near in
      let f = run_proven n padding s squared near in
      padded_proven_accepted m n costs small fits size within padded-answer.cols padded-answer.prices_of_rows padded-answer.prices_of_columns f.row_prices f.column_prices
      padded-answer.rows padding reads o.cols_size f

-- The solver: where it pairs a night, the checker accepts what it leaves in the outputs, with its total; and the pairing is least.
module _ (n : ℕ) (costs : List ℤ) (lent : Lent) (p : WithinLimits n costs lent) where
  abbrev after : Lent
  after = (solve n costs lent).lent

  -- The checker accepts what the solver leaves in the outputs.
  pub checker_accepts_solver : check n costs after.cols after.rows after.prices_of_rows after.prices_of_columns ≡ Ok (answer n costs).total
  checker_accepts_solver =
      subst (λ (o : Outcome). check n costs o.lent.cols o.lent.rows o.lent.prices_of_rows o.lent.prices_of_columns ≡ Ok (answer n costs).total)
      (sym (passes_paired n costs lent p))
      (checker_accepts_run n costs p.small p.squared p.costs_within (drop n lent.cols) (drop n lent.rows) (drop n lent.prices_of_rows)
      (drop n lent.prices_of_columns))

  pub solved_answer : (solve n costs lent).answer ≡ Ok (record { total = (answer n costs).total; counts = (answer n costs).counts })
  solved_answer = ap (λ (o : Outcome). o.answer) (passes_paired n costs lent p)

  pub solved_least : Least (square n costs) (take n after.cols)
  solved_least = accepted_least n costs after.cols after.rows after.prices_of_rows after.prices_of_columns checker_accepts_solver

  -- THE SOLVER'S PRICES HELD FIXED: a well-formed pairing is accepted under them exactly if it is least.
  pub solver_prices_held : (other back : List ℕ) → n ≤ length other → n ≤ length back → Named (square n costs) other back
      → Accepts (check n costs other back after.prices_of_rows after.prices_of_columns) ↔ Least (square n costs) (take n other)
  solver_prices_held = accepted_iff_least n costs after.cols after.rows after.prices_of_rows after.prices_of_columns checker_accepts_solver
