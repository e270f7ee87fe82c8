use mathlib.Core.Path.{◌≡◌}
use native.Mathlib.Omega.{arith}
use borrow.Author.Rules.{rules}
use mir.Syntax.{w64}
use mir.Val.{to_z, of_z}
use Rattle.std.proofs.lemmas.Grind.{common_steps}
use Rattle.augmentation.specs.DirectHit.{reduced_in}
use Rattle.augmentation.proofs.Filled.{is_table}
use Rattle.augmentation.proofs.first_distances.Goals as goal

pub loop-j-preserved : goal.loop-j-preserved
loop-j-preserved c =
    let x : to_z w64 (of_z w64 c.reduced_cost.result) ≡ reduced_in c.args.row.now c.args.v.now c.loop-j.j = search rules in
    grind (arith, common_steps)

pub returns : goal.returns
returns c = is_table _ _ _ _ (omega arith) (λ k h. c.loop-j.invariant k (omega arith))
