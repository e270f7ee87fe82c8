-- `forget` leaves marks only. Assumes nothing.
use Rattle.std.proofs.Common.{rules, sym, ◌∙◌, length}
use Rattle.lists.proofs.Tables.{table_constant}
use Rattle.reduction.specs.Candidates.{unseen}
use Rattle.reduction.proofs.candidates.forget.Goals as goal

pub returns : goal.returns
returns c = c.fill.ensures.after (λ y e. search rules) ∙ sym (table_constant (length c.args.limits.now) unseen)
