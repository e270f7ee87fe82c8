use Rattle.std.proofs.Common.{rules, w64, to_z, of_z, ◌≡◌, ℕ, ◌+◌, sym, ap, ap₂, ◌∙◌, Some, arith}
use Rattle.rules.specs.declared.TwoLowest.TheVariants.{One}
use Rattle.rules.specs.Lowest.{beside, two_lowest}
use Rattle.reduction.specs.Reduced.{width, reduced_at}
use Rattle.reduction.proofs.Turns.{NextTwo, two_lowest_one, two_lowest_two, two_lowest-count, next_two}
use Rattle.reduction.proofs.lowest.find_umins_plain.Goals as goal

pub returns-then-width-eq1 : goal.returns-then-width-eq1
returns-then-width-eq1 c =
    let f = reduced_at c.args.row in
    let e : 1 ≡ width c.args.row = omega arith in
    ap One c.low_at-first.ensures ∙ sym (two_lowest_one f) ∙ ap (λ (n : ℕ). two_lowest n f) e

pub loop-next-init : goal.loop-next-init
loop-next-init c =
    let f = reduced_at c.args.row in
    let bound : to_z w64 (of_z w64 c.beside.result.1.value) ≡ c.beside.result.1.value = search rules in
    next_two f (width c.args.row) c.beside.result.0 c.beside.result.1 2 (omega arith) (omega arith)
    (c.beside.ensures ∙ ap₂ beside c.low_at-first.ensures c.low_at.ensures ∙ sym (two_lowest_two f)) c.next_below-next.result (rw bound at c.next_below-next.ensures)

pub loop-next-preserved : goal.loop-next-preserved
loop-next-preserved c =
    let f = reduced_at c.args.row in
    let bound : to_z w64 (of_z w64 c.beside-in-Some.result.1.value) ≡ c.beside-in-Some.result.1.value = search rules in
    let l = c.loop-next in
    let j = c.in-Some.j in
    let h : NextTwo f (width c.args.row) l.lowest l.second (Some j) = rw c.in-Some.is at l.invariant in
    next_two f (width c.args.row) c.beside-in-Some.result.0 c.beside-in-Some.result.1 (j + 1) (omega arith) (omega arith)
    (c.beside-in-Some.ensures ∙ ap (beside l.lowest) c.low_at-in-Some.ensures ∙ two_lowest-count f l.lowest l.second j (omega arith) h.2 h.3)
    c.next_below-next-in-Some.result (rw bound at c.next_below-next-in-Some.ensures)
