use Rattle.std.proofs.Common.{rules, w64, to_z, of_z, ◌≡◌, ◌+◌, sym, ap, ◌∙◌, subst, Some, add-one, arith}
use lib.Signed.{lt_z}
use Rattle.reduction.specs.Reduced.{width, reduced_at}
use Rattle.reduction.specs.Candidates.{FoundThree, insert}
use Rattle.reduction.proofs.Turns.{nearer}
use Rattle.reduction.proofs.FirstThree.{NextThree, started, insert-found, next_three}
use Rattle.reduction.proofs.candidates.find_three.Goals as goal

pub loop-next-init : goal.loop-next-init
loop-next-init c =
    let f = reduced_at c.args.row in
    let t = c.start-three.result in
    let bound : to_z w64 (of_z w64 t.limit) ≡ t.limit = search rules in
    next_three f (width c.args.row) t 3 (omega arith) (omega arith)
    (started f t c.beside.result.0 c.beside.result.1 c.low_at.result c.low_at-2.result c.low_at-3.result c.low_at.ensures c.low_at-2.ensures c.low_at-3.ensures
    (search rules) (search rules) (search rules) c.beside.ensures c.start-three.ensures)
    c.next_below-next.result (rw bound at c.next_below-next.ensures)

pub loop-next-smaller : goal.loop-next-smaller
loop-next-smaller c =
    let h : NextThree (reduced_at c.args.row) (width c.args.row) c.loop-next.three (Some c.in-Some.j) = rw c.in-Some.is at c.loop-next.invariant in
    rw c.in-Some.is (nearer (width c.args.row) (λ k b. b ≡ lt_z (reduced_at c.args.row k) (to_z w64 (of_z w64 c.insert-three.result.limit))) c.in-Some.j h.1 c.next_below-next-in-Some.result c.next_below-next-in-Some.ensures)

pub loop-next-preserved : goal.loop-next-preserved
loop-next-preserved c =
    let f = reduced_at c.args.row in
    let l = c.loop-next in
    let j = c.in-Some.j in
    let bound : to_z w64 (of_z w64 c.insert-three.result.limit) ≡ c.insert-three.result.limit = search rules in
    let h : NextThree f (width c.args.row) l.three (Some j) = rw c.in-Some.is at l.invariant in
    next_three f (width c.args.row) c.insert-three.result (j + 1) (omega arith) (omega arith)
    (subst (FoundThree f (j + 1)) (sym (c.insert-three.ensures ∙ ap (insert l.three) c.low_at-in-Some.ensures)) (rw add-one (insert-found f j l.three h.2 h.3)))
    c.next_below-next-in-Some.result (rw bound at c.next_below-next-in-Some.ensures)
