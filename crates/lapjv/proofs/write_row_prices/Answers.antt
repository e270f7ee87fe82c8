-- `write_row_prices` leaves the row prices, one for each row. Assumes nothing.
use mathlib.Core.Path.{ap, sym, ◌∙◌}
use Prim.Native.Nat.{ℕ}
use native.Mathlib.Omega.{arith}
use lib.IntN.{pos}
use mir.Syntax.{w64}
use Rattle.std.proofs.lemmas.Grind.{common_steps}
use Rattle.ints.proofs.Bits.{read_back}
use Rattle.lists.specs.Permutations.{table}
use Rattle.lists.proofs.Tables.{table_get_d, table_cong}
use Rattle.lapjv.proofs.write_row_prices.Invariants.{row_price}
use Rattle.lapjv.proofs.write_row_prices.Goals as goal

pub loop-i-preserved : goal.loop-i-preserved
loop-i-preserved c =
    let e = read_back w64 c.reduced_cost.result c.reduced_cost.type_inv in
    λ k l. grind (arith, common_steps, e, c.loop-i.invariant k)

pub returns : goal.returns
returns c =
    let u = c.args in
    let prices = row_price u.n u.costs.now u.cols.now u.v.now in
    sym (table_get_d c.loop-i.row_prices (pos 0))
    ∙ table_cong _ _ prices (λ k l. c.loop-i.invariant k (omega (arith, c.requires.us_size)))
    ∙ ap (λ (m : ℕ). table m prices) (omega (arith, c.requires.us_size))
