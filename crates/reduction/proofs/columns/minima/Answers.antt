use Rattle.std.proofs.Common.{rules, ℕ, sym, ap, ◌∙◌, length}
use Rattle.lists.specs.Permutations.{table}
use Rattle.lists.proofs.Tables.{table_constant}
use Rattle.reduction.proofs.Minima.{places_one, values_one, places_more, values_more}
use Rattle.reduction.proofs.columns.minima.Goals as goal

pub loop-i-init : goal.loop-i-init
loop-i-init c =
    let n = c.args.n in
    let costs = c.args.costs.now in
    let row = c.row in (
      c.fill.ensures.after (λ y e. search rules) ∙ sym (table_constant (length c.args.rows.now) 0) ∙ ap (λ (m : ℕ). table m (λ k. 0)) c.requires.1
          ∙ places_one n costs row.result.now c.requires.3 c.requires.0.size row.ensures,
      c.widen.ensures ∙ values_one n costs row.result.now c.requires.3 c.requires.0.size row.ensures,
    )

pub loop-i-preserved : goal.loop-i-preserved
loop-i-preserved c =
    let l = c.loop-i in
    let n = c.args.n in
    let costs = c.args.costs.now in
    let more = c.loop-i-test.true in (
      c.lower_minima.ensures.0 ∙ places_more n l.i costs c.row-in-loop-i.result.now more c.requires.0.size c.row-in-loop-i.ensures (search rules) l.rows l.v l.invariant.0 l.invariant.1,
      c.lower_minima.ensures.1 ∙ values_more n l.i costs c.row-in-loop-i.result.now more c.requires.0.size c.row-in-loop-i.ensures (search rules) l.rows l.v l.invariant.0 l.invariant.1,
    )
