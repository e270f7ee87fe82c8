use Rattle.std.proofs.Common.{rules, w64, to_z, of_z, ◌≡◌, ◌+◌, sym, ap₂, ◌∙◌, Some, arith}
use Rattle.rules.specs.Lowest.{least, least_but}
use Rattle.reduction.specs.Reduced.{width, reduced_at}
use Rattle.reduction.proofs.Turns.{NextBut, least_but_none, least_but-same, least_but_other, next_but}
use Rattle.reduction.proofs.columns.least_other.Goals.{then-k-j, else-k-j}
use Rattle.reduction.proofs.columns.least_other.Goals as goal

pub loop-next-init : goal.loop-next-init
loop-next-init c = next_but _ _ _ _ _ (omega arith) (sym (least_but_none (reduced_at c.args.row) c.args.j)) _ c.next_least-next.ensures

pub loop-next-preserved : goal.loop-next-preserved
loop-next-preserved c =
    let f = reduced_at c.args.row in
    let l = c.loop-next in
    let j = c.args.j in
    let k = c.in-Some.k in
    let h : NextBut f (width c.args.row) j l.found (Some k) = rw c.in-Some.is at l.invariant in
    let found : c.if-k-j.found ≡ least_but (k + 1) f j =
    elim c.if-k-j.branch [
      | then-k-j w ↦
          let value : to_z w64 (of_z w64 w.at.result) ≡ w.at.result = search rules in
          w.found-is ∙ w.least-found.ensures ∙ ap₂ least h.1 (value ∙ w.at.ensures) ∙ sym (least_but_other f j k w.if-k-j.true)
      | else-k-j w ↦ w.found-is ∙ h.1 ∙ sym (least_but-same f j k w.if-k-j.false)
    ] in
    next_but f (width c.args.row) j c.if-k-j.found (k + 1) (omega arith) found c.next_least-next-in-Some.result c.next_least-next-in-Some.ensures
