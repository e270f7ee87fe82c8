-- Column prices that may have been lowered: what they keep when a node joins the path and when it is done. Assumes nothing.
use mathlib.Core.Path.{◌≡◌, ap, ◌∙◌}
use mathlib.Core.Bool.{cond}
use mathlib.Core.Logic.{◌≢◌}
use mathlib.Core.List.{List}
use Prim.Native.Nat.{ℕ, ◌<◌}
use native.Mathlib.Decide.{ℕ_discrete, dec_lt}
use native.Mathlib.Omega.{arith}
use lib.Dec.{ltb}
use lib.IntN.{ℤ, pos}
use lib.ListN.{length, set, take, length-set}
use lib.Seq.{get_or-set_same, get_or-set_other, get_or-take, length-take-le}
use borrow.Author.Tests.{lt-ltb, le-ltb}
use Rattle.ints.specs.Parts.{Within}
use Rattle.ints.proofs.Shapes.{zlin}
use Rattle.lists.specs.Permutations.{at}
use Rattle.lists.proofs.Injections.{source_of}
use Rattle.assignment.specs.Pairings.{Night, Pairing, signed_at}
use Rattle.assignment.proofs.Pairings.{pairing_injective}
use Rattle.matrix.specs.Limits.{near}
use Rattle.matrix.proofs.SmallLimits.{K_small}
use Rattle.checker.specs.Proven.{Prices}
use Rattle.swaps.specs.Walks.{Walk, mark, enter, finish}
use Rattle.swaps.specs.Second.{behind}
use Rattle.swaps.specs.Rooms.{Lowered, lowest}

lowest-near : Within near lowest
lowest-near = omega zlin

module _ (night : Night) (vs : List ℤ) (cols : List ℕ) where
  abbrev own : ℕ → ℕ
  own j = behind night cols j

  pub lowered_start : (w : Walk) (ts : List ℤ) → ts ≡ take night.column_count vs → Prices night.column_count vs → Lowered night vs cols w ts
  lowered_start w ts e p = record {
    size = ap length e ∙ length-take-le night.column_count vs p.enough;
    bounded = λ j l. let s = p.within j l in rw (same j l) (omega (zlin, K_small));
    kept = λ j l q. same j l;
  }
    where
      same : (j : ℕ) → j < night.column_count → signed_at ts j ≡ signed_at vs j
      same j l = ap (λ (t : List ℤ). signed_at t j) e ∙ get_or-take night.column_count vs j (pos 0) l

  pub lowered_entered : (w : Walk) (ts : List ℤ) (x : ℕ) → mark w x ≡ 0 → Lowered night vs cols w ts → Lowered night vs cols (enter x w) ts
  lowered_entered w ts x new h = record {
    size = h.size;
    bounded = h.bounded;
    kept = λ j l q. h.kept j l (λ e. elim (ℕ_discrete (own j) x) [
      | yes s ↦ omega (arith, ap (mark w) s)
      | no d ↦ q (get_or-set_other w.marks x (own j) 1 0 d ∙ e)
    ]);
  }

  module _ (p : Pairing night cols) (w : Walk) (ts : List ℤ) (x : ℕ) (inside : x < length w.marks) (h : Lowered night vs cols w ts) where
    -- A column whose node is not done after x is another than x's.
    other : (j : ℕ) → mark (finish x w) (own j) ≢ 2 → (own j ≢ x) × (mark w (own j) ≢ 2)
    other j q =
        let d : own j ≢ x = λ e. q (ap (mark (finish x w)) e ∙ get_or-set_same w.marks x 2 0 inside) in
        (d, λ e. q (get_or-set_other w.marks x (own j) 2 0 d ∙ e))

    pub lowered_finished : Lowered night vs cols (finish x w) (cond (ltb x night.row_count) (set ts (at cols x) lowest) ts)
    lowered_finished = by (dec_lt x night.row_count)
      where
        by : Dec (x < night.row_count) → Lowered night vs cols (finish x w) (cond (ltb x night.row_count) (set ts (at cols x) lowest) ts)
        by (no l) = rw (le-ltb x night.row_count (omega arith)) (record { size = h.size; bounded = h.bounded; kept = λ j b q. h.kept j b (other j q).1 })
        by (yes l) = rw (lt-ltb x night.row_count l) (record {
          size = length-set ts (at cols x) lowest ∙ h.size;
          bounded = λ j b. elim (ℕ_discrete j (at cols x)) [
            | yes e ↦ rw (ap (signed_at (set ts (at cols x) lowest)) e ∙ get_or-set_same ts (at cols x) lowest (pos 0) (omega (arith, h.size))) lowest-near
            | no d ↦ rw (get_or-set_other ts (at cols x) j lowest (pos 0) d) (h.bounded j b)
          ];
          kept = λ j b q.
              let o = other j q in
              get_or-set_other ts (at cols x) j lowest (pos 0) (λ e. o.0 (ap own e ∙ source_of (pairing_injective night cols p) x l)) ∙ h.kept j b o.1;
        })
