-- `under_costs` answers test 9: the row that is found, and in it the column, which is there. Assumes nothing.
use mathlib.Core.Path.{◌≡◌, sym, ap, ◌∙◌, subst}
use mathlib.Core.Bool.{true≢false}
use Prim.Native.Nat.{ℕ, ◌+◌, ◌*◌}
use mir.Syntax.{w64}
use mir.Val.{to_z, of_z}
use Rattle.std.specs.Prelude.{Option, Err, is_some}
use Rattle.ints.proofs.Bits.{read_back}
use Rattle.lists.specs.Runs.{Finds}
use Rattle.matrix.specs.declared.refusals.Reason.TheVariants.{PricesOverCost}
use Rattle.bars.specs.Barred.{night_of}
use Rattle.checker.specs.Tests.{slack, over, over_first, over_in, but}
use Rattle.checker.proofs.But.{but_holds}
use Rattle.checker.proofs.Found.{refused_by, passed_by, found_first, found_some}
use Rattle.checker.proofs.prices.under_costs.Goals as goal

pub returns-in-Some-column_over : goal.returns-in-Some-column_over
returns-in-Some-column_over c =
    let u = c.args in
    let i = c.in-Some.i in
    let night = night_of u.m u.n u.costs.now u.bars.now in
    let here = found_first u.n (over night u.us.now u.vs.now i) c.in-Some-column_over.j (subst (Finds u.n (over night u.us.now u.vs.now i)) c.in-Some-column_over.is c.column_over.ensures) in
    ap (λ (j : ℕ). Err (record { reason = PricesOverCost; place = i * u.n + j; slack = to_z w64 (of_z w64 c.slack_at.result) })) here
    ∙ refused_by PricesOverCost (λ k. k * u.n + over_first night u.us.now u.vs.now k) (λ k. slack night u.us.now u.vs.now k (over_first night u.us.now u.vs.now k)) u.m _ c.row_over.result c.row_over.ensures i c.in-Some.is _
    (read_back w64 c.slack_at.result c.slack_at.type_inv ∙ c.slack_at.ensures ∙ ap (slack night u.us.now u.vs.now i) here)

-- a row that is found has such a column
pub returns-in_default-column_over : goal.returns-in_default-column_over
returns-in_default-column_over c =
    let u = c.args in
    let i = c.in-Some.i in
    let night = night_of u.m u.n u.costs.now u.bars.now in
    let test = but u.skip (over_in night u.us.now u.vs.now) in
    let holds = but_holds u.skip (over_in night u.us.now u.vs.now) i (subst (Finds u.m test) c.in-Some.is c.row_over.ensures).1 in
    absurd (true≢false (sym holds ∙ sym (subst (λ (r : Option ℕ). is_some r ≡ over_in night u.us.now u.vs.now i) c.in_default-column_over.is (found_some u.n (over night u.us.now u.vs.now i) c.column_over.result c.column_over.ensures))))

pub returns-in_default : goal.returns-in_default
returns-in_default c =
    let u = c.args in
    let night = night_of u.m u.n u.costs.now u.bars.now in
    passed_by PricesOverCost (λ k. k * u.n + over_first night u.us.now u.vs.now k) (λ k. slack night u.us.now u.vs.now k (over_first night u.us.now u.vs.now k)) u.m _ c.row_over.result c.row_over.ensures c.in_default.is
