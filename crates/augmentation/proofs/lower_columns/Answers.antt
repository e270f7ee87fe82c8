use mathlib.Core.Path.{◌≡◌, sym, ap, ◌∙◌}
use mathlib.Core.List.{List}
use mathlib.Core.Bool.{false}
use Prim.Native.Nat.{ℕ, ◌<◌}
use native.Mathlib.Omega.{arith}
use borrow.Author.Tests.{lt-ltb, le-ltb, leb-true, leb-false}
use lib.IntN.{ℤ, ◌-ℤ◌}
use lib.ListN.{length, get_or}
use mir.Syntax.{w64}
use mir.Val.{to_z, of_z}
use mir.Facts.{to_z-of_z}
use Rattle.std.proofs.Common.{rules}
use Rattle.assignment.specs.Pairings.{signed_at}
use Rattle.std.specs.declared.ops.ControlFlow.{ControlFlow}
use Rattle.augmentation.specs.Scan.{ColumnsLowered}
use Rattle.augmentation.proofs.Block.{swapped}
use Rattle.augmentation.proofs.Lowering.{first_lowering, pass_by, lower, swap_in, hit, lowering_at, same_equal, same_other}
use Rattle.rules.specs.Search.{same}
use Rattle.augmentation.proofs.lower_columns.Goals.{then-x-d+then-x-minimum+else-is_free, then-x-d+else-x-minimum, else-x-d}
use Rattle.augmentation.proofs.lower_columns.Goals as goal

-- the answer, in the words of the contract: h and the minimum as they are, not their bits
told : {n i : ℕ} {row v : List ℤ} {rows : List ℕ} {h h' minimum minimum' : ℤ} {hi : ℕ} {d₀ : List ℤ} {list₀ predecessors₀ : List ℕ} {r : ControlFlow ℕ ℕ} {d : List ℤ}
    {list predecessors : List ℕ} → h ≡ h' → minimum ≡ minimum' → ColumnsLowered n i row v rows h minimum hi d₀ list₀ predecessors₀ r d list predecessors
    → ColumnsLowered n i row v rows h' minimum' hi d₀ list₀ predecessors₀ r d list predecessors
told e f L = rw (sym e, sym f) L

pub loop-k-init : goal.loop-k-init
loop-k-init c = first_lowering _ _ _ _ _ _ _ _ _ _ _ c.requires.2 c.requires.0.listed

pub returns-then-is_free : goal.returns-then-is_free
returns-then-is_free c =
    let j = get_or c.loop-k.list c.loop-k.k 0 in
    let old : to_z w64 (of_z w64 (signed_at c.loop-k.d j)) ≡ signed_at c.loop-k.d j = search rules in
    let x : to_z w64 (of_z w64 c.lowered-x.result) ≡ (signed_at c.args.row.now j -ℤ signed_at c.args.v.now j) -ℤ to_z w64 (of_z w64 c.args.h) = search rules in
    told (to_z-of_z c.ranges.h) (to_z-of_z c.ranges.minimum)
    (hit _ _ _ _ _ _ _ _ _ _ _ c.loop-k.invariant (omega arith) _ x (rw old at c.if-x-d.true) (same_equal _ _ (ap (to_z w64) c.if-x-minimum.true))
    (le-ltb _ _ (leb-true _ _ (sym c.is_free.ensures ∙ c.if-is_free.true))))

pub loop-k-preserved : goal.loop-k-preserved
loop-k-preserved c =
    let l = c.loop-k in
    let t : l.k < length c.args.rows.now = omega arith in
    let j = get_or l.list l.k 0 in
    let old : to_z w64 (of_z w64 (signed_at l.d j)) ≡ signed_at l.d j = search rules in
    let z = to_z w64 (of_z w64 c.lowered-x.result) in
    let x : z ≡ (signed_at c.args.row.now j -ℤ signed_at c.args.v.now j) -ℤ to_z w64 (of_z w64 c.args.h) = search rules in
    elim c.if-x-d.branch [
      | then-x-d+then-x-minimum+else-is_free w ↦
          let s = swapped l.list l.k l.hi (omega arith) (omega arith) in
          lowering_at
          (swap_in _ _ _ _ _ _ _ _ _ _ _ l.invariant t z x (rw old at w.if-x-d.true) (same_equal _ _ (ap (to_z w64) w.if-x-minimum.true)) (lt-ltb _ _ (leb-false _ _ (sym w.is_free.ensures ∙ w.if-is_free.false))))
          w.d-is (cc) w.predecessors-is w.hi-is
      | then-x-d+else-x-minimum w ↦
          let back : z ≡ c.lowered-x.result = search rules in
          let other : same z (to_z w64 (of_z w64 c.args.minimum)) ≡ false =
          same_other _ _ (λ e. w.if-x-minimum.false (ap (of_z w64) (sym back ∙ e ∙ to_z-of_z c.ranges.minimum))) in
          lowering_at (lower _ _ _ _ _ _ _ _ _ _ _ l.invariant t z x (rw old at w.if-x-d.true) other) w.d-is w.list-is w.predecessors-is w.hi-is
      | else-x-d w ↦ lowering_at (pass_by _ _ _ _ _ _ _ _ _ _ _ l.invariant t z x (rw old at w.if-x-d.false)) w.d-is w.list-is w.predecessors-is w.hi-is
    ]
