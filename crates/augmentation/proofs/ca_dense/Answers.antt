use mathlib.Core.Path.{◌≡◌, ◌∙◌, ap}
use native.Mathlib.Omega.{arith}
use lib.ListN.{length, drop}
use Rattle.std.proofs.lemmas.List.{length-take}
use Rattle.augmentation.proofs.Room.{frees_stay, marks_stay}
use Rattle.augmentation.proofs.Augmentation.{first_turn, augmented, can_augment_row, next_turn}
use Rattle.augmentation.proofs.ca_dense.Goals as goal

pub loop-start-init : goal.loop-start-init
loop-start-init c = first_turn c.requires (omega arith) (omega arith)

pub augment_row-scanned-requires : goal.augment_row-scanned-requires
augment_row-scanned-requires c =
    let size : length c.loop-start.rows ≡ c.args.n = omega arith in
    rw size (can_augment_row c.loop-start.invariant _ c.split_at_mut-frees.ensures.front c.loop-start-test.true)

pub loop-start-preserved : goal.loop-start-preserved
loop-start-preserved c =
    let size : length c.loop-start.rows ≡ c.args.n = omega arith in
    next_turn c.loop-start.invariant _ c.split_at_mut-frees.ensures.front c.loop-start-test.true (rw size at c.augment_row-scanned.ensures)
    (omega arith, omega arith, omega arith)

pub returns : goal.returns
returns c =
    let s = c.split_at_mut-frees.ensures in
    let t = c.split_at_mut-predecessors.ensures in
    let A = c.loop-start.invariant in
    let marks : c.split_at_mut-predecessors.result.1.now ≡ drop c.args.n (drop c.args.n (drop c.args.n c.args.room.now)) =
    t.back ∙ ap (drop c.args.n) (c.split_at_mut-list.ensures.back ∙ ap (drop c.args.n) s.back) in
    augmented A (omega (arith, length-take c.args.left c.split_at_mut-frees.result.0.now))
    (frees_stay _ _ _ _ _ _ s.front_len A.sizes.1 A.sizes.2 s.front) (marks_stay _ _ _ _ _ _ s.front_len A.sizes.1 A.sizes.2 marks)
