-- `reduce` runs rule 3 and both passes of rule 4, each on what the one before it left. Assumes nothing.
use native.Mathlib.Omega.{arith}
use Rattle.lapjv.proofs.Ready.{rule_three}
use Rattle.lapjv.proofs.Reducing as reducing
use Rattle.lapjv.proofs.reduce.Goals as goal

pub ccrrt_dense-free_rows-requires : goal.ccrrt_dense-free_rows-requires
ccrrt_dense-free_rows-requires c =
    let z = c.requires.1 in
    rule_three c.args.n c.args.costs.now c.requires.0 _ _ _ _ z.cols_size z.rows_size z.prices_size z.room_size

pub carr_dense-one-requires : goal.carr_dense-one-requires
carr_dense-one-requires c =
    let a = c.ccrrt_dense-free_rows in (
      reducing.first_pass c.args.n c.args.costs.now c.requires.0 _ _ _ a.new.room a.result a.ensures.0 _ (λ h. omega arith),
      omega (arith, a.auto, c.requires.1.room_size),
      c.requires.2,
    )

pub carr_dense-two-requires : goal.carr_dense-two-requires
carr_dense-two-requires c =
    let a = c.ccrrt_dense-free_rows in
    let b = c.carr_dense-one in (
      reducing.second_pass c.args.n c.args.costs.now c.requires.0 _ _ _ a.new.room a.result a.ensures.0
          _ _ _ _ b.new.room b.result b.ensures _ (λ h. (omega arith, omega arith)),
      omega (arith, b.auto, a.auto, c.requires.1.room_size),
      omega (arith, b.auto, c.requires.2),
    )

-- the stage and the counts are those of the rules
pub returns : goal.returns
returns c =
    let a = c.ccrrt_dense-free_rows in
    let b = c.carr_dense-one in
    let d = c.carr_dense-two in
    reducing.reduced_by c.args.n c.args.costs.now c.requires.0 _ _ _ a.new.room a.result a.ensures.0
    _ _ _ _ b.new.room b.result b.ensures _ _ _ _ d.new.room d.result d.ensures (omega arith) (omega arith)
    (omega (arith, d.auto, b.auto, a.auto, c.requires.1.room_size))
