-- What code asks of a place is what the walk asks of it: so the first choice that it finds is the walk's. Assumes nothing.
use mathlib.Core.Path.{◌≡◌, refl, sym, ap, ◌∙◌}
use mathlib.Core.Bool.{Bool, true, false, cond, not, ◌&&◌, ◌||◌, and-false, and_comm}
use mathlib.Core.List.{List, []}
use Rattle.std.proofs.Common.{Option}
use Prim.Native.Nat.{ℕ, ◌+◌, ◌*◌, ◌≤◌, ◌<◌}
use native.Mathlib.Decide.{ℕ_discrete, dec_lt}
use native.Mathlib.Nat.{mul-le-mul_right}
use native.Mathlib.Omega.{arith}
use lib.Dec.{ltb, eqb}
use lib.IntN.{ℤ, pos, ◌+ℤ◌}
use lib.ListN.{length}
use lib.Signed.{le_z}
use mir.Syntax.{w64}
use mir.Val.{SFits, to_z, of_z}
use mir.Facts.{to_z-of_z}
use borrow.Author.Tests.{lt-ltb, le-ltb, eq-eqb}
use Rattle.ints.specs.Parts.{Within}
use Rattle.ints.proofs.Shapes.{zlin}
use Rattle.lists.specs.Runs.{Finds, FindsFrom}
use Rattle.lists.specs.Permutations.{at}
use Rattle.lists.specs.Parts.{part}
use Rattle.lists.specs.Counts.{bit_of}
use Rattle.lists.proofs.Parts.{part_length, part_at}
use Rattle.lists.proofs.Tables.{length-table, get_d_table}
use Rattle.lists.proofs.Injections.{reached, injective_fewer, pigeonhole}
use Rattle.assignment.specs.Pairings.{Night, Pairing, signed_at}
use Rattle.assignment.specs.Prices.{priced}
use Rattle.assignment.proofs.Pairings.{pairing_injective}
use Rattle.matrix.specs.Limits.{K}
use Rattle.matrix.proofs.SmallLimits.{K_small}
use Rattle.swaps.specs.Walks.{Walk, mark, is_done, live}
use Rattle.swaps.specs.Second.{nodes, behind, dearest, fits}
use Rattle.swaps.specs.Places.{goes_over, comes_down}
use Rattle.swaps.specs.Rooms.{walk_of}
use Rattle.swaps.specs.Turning.{night, node_count, leads_on, CanChoose}
use Rattle.swaps.specs.declared.accepted.Accepted.{Accepted}
use Rattle.swaps.proofs.Ways.{rows_nodes, spare_node, behind_le, behind_spare}
use Rattle.swaps.proofs.Froms.{finds_all}

-- ---- flags

-- The five questions of a place, in the walk's order and in the code's.
in_order : (other permitted level low fresh : Bool)
    → ((other && (permitted && level && low)) && fresh) ≡ (level && (other && fresh && low && permitted))
in_order false b c d e = sym (and-false c)
in_order true false c d e = sym (ap (λ (t : Bool). c && t) (and-false (e && d)) ∙ and-false c)
in_order true true false d e = refl
in_order true true true true true = refl
in_order true true true true false = refl
in_order true true true false true = refl
in_order true true true false false = refl

-- Of a node that is done neither goes on.
neither : (level level' other low low' permitted : Bool)
    → (level && (other && false && low && permitted)) ≡ (level' && (other && false && low' && permitted))
neither a b true d e f = and-false a ∙ sym (and-false b)
neither a b false d e f = and-false a ∙ sym (and-false b)

-- What is picked is a node that is not done.
live_picked : (t : Bool) (y nodes : ℕ) (w : Walk) → y < nodes → live nodes w (cond t y nodes) ≡ (t && not (is_done w y))
live_picked true y nodes w l = rw (lt-ltb y nodes l)
live_picked false y nodes w l = rw (le-ltb nodes nodes (omega arith))

-- A row price as code holds it.
pub price_read : (u : ℤ) → Within (10 * K) u → to_z w64 (of_z w64 u) ≡ u
price_read u h = to_z-of_z fits_word
  where
    fits_word : SFits w64 u
    fits_word = omega (zlin, K_small)

-- ---- the nodes of a pairing

module _ (night : Night) (cols : List ℕ) (p : Pairing night cols) where
  pub rows_columns : night.row_count ≤ night.column_count
  rows_columns = pigeonhole (pairing_injective night cols p)

  pub nodes_columns : nodes night ≤ night.column_count
  nodes_columns = elim (dec_lt night.row_count night.column_count) [
    | yes l ↦ rw (lt-ltb night.row_count night.column_count l) (omega arith)
    | no l ↦ rw (le-ltb night.row_count night.column_count (omega arith)) (omega (arith, rows_columns))
  ]

  pub behind_node : (us vs : List ℤ) (j : ℕ) → j < night.column_count → behind night cols j < nodes night
  behind_node us vs j l = by (dec_lt night.row_count night.column_count) (dec_lt (behind night cols j) night.row_count)
    where
      by : Dec (night.row_count < night.column_count) → Dec (behind night cols j < night.row_count) → behind night cols j < nodes night
      by d (yes h) = omega (arith, rows_nodes night)
      by (yes d) (no h) = omega (arith, behind_le night us vs cols j, spare_node night d)
      by (no d) (no h) =
          let r = reached (injective_fewer {m = night.row_count} {n = night.column_count} {f = at cols} (omega arith) (pairing_injective night cols p)) j l in
          absurd (behind_spare night us vs cols j (omega arith) r.0 (omega (arith, r.1)) r.2)

module _ (a : Accepted) (marks : List ℕ) (ts : List ℤ) (x from : ℕ) (h : CanChoose a marks ts x from) where
  abbrev N : ℕ
  N = node_count a

  abbrev w : Walk
  w = walk_of 0 [] marks

  abbrev own : ℕ → ℕ
  own j = behind (night a) a.cols.now j

  pub fewer : (a.m ≤ a.n) × (N ≤ a.n) × (a.m ≤ N)
  fewer = (rows_columns (night a) a.cols.now a.fair.pairing, nodes_columns (night a) a.cols.now a.fair.pairing, rows_nodes (night a))

  pub rows_size : length a.rows.now ≡ a.n
  rows_size = ap length a.listed ∙ length-table a.n own

  pub own_at : (j : ℕ) → j < a.n → at a.rows.now j ≡ own j
  own_at j l = ap (λ (r : List ℕ). at r j) a.listed ∙ get_d_table a.n own 0 j l

  own_node : (j : ℕ) → j < a.n → own j < N
  own_node j l = behind_node (night a) a.cols.now a.fair.pairing a.us.now a.vs.now j l

  pub own_below : (j : ℕ) → j < a.n → at a.rows.now j < length marks
  own_below j l = omega (arith, own_at j l, own_node j l, h.marks_size)

  -- ---- from a row

  module _ (l : x < a.m) where
    abbrev row : List ℤ
    row = part (x * a.n) a.n a.costs.now

    pub row_fits : x * a.n + a.n ≤ length a.costs.now
    row_fits = omega (arith, a.fair.filled, mul-le-mul_right a.n l)

    pub row_length : length row ≡ a.n
    row_length = part_length (x * a.n) a.n a.costs.now row_fits

    over : (j : ℕ) → j < a.n → goes_over a.m a.top (at a.bars.now x) x row (signed_at a.us.now x) a.vs.now a.rows.now marks j ≡ leads_on a marks x j
    over j b =
        let q : signed_at row j ≡ signed_at a.costs.now (x * a.n + j) = part_at (x * a.n) a.n a.costs.now j (pos 0) b in
        rw (own_at j b, q, a.highest, lt-ltb x a.m l)
        (sym
        (live_picked (not (eqb (own j) x) && fits (night a) a.us.now a.vs.now a.cols.now x j) (own j) N w (own_node j b)
        ∙ in_order (not (eqb (own j) x)) (not (bit_of (at a.bars.now x) j)) (le_z ((night a).cost x j) (priced a.us.now a.vs.now x j))
        (ltb (own j) a.m || le_z (signed_at a.vs.now j) (dearest (night a) a.vs.now a.cols.now)) (not (is_done w (own j)))))

    -- The same with prices that may have been lowered.
    over_lowered : (j : ℕ) → j < a.n → goes_over a.m a.top (at a.bars.now x) x row (signed_at a.us.now x) ts a.rows.now marks j ≡ leads_on a marks x j
    over_lowered j b = by (ℕ_discrete (mark w (own j)) 2)
      where
        by : Dec (mark w (own j) ≡ 2) → goes_over a.m a.top (at a.bars.now x) x row (signed_at a.us.now x) ts a.rows.now marks j ≡ leads_on a marks x j
        by (no q) = rw (h.lowered.kept j b q) (over j b)
        by (yes q) =
            let t : eqb (at marks (at a.rows.now j)) 2 ≡ true = eq-eqb (at marks (at a.rows.now j)) 2 (ap (at marks) (own_at j b) ∙ q) in
            rw t
            (neither (le_z (signed_at row j) (signed_at a.us.now x +ℤ signed_at ts j)) (le_z (signed_at row j) (signed_at a.us.now x +ℤ signed_at a.vs.now j)) (not (eqb (at a.rows.now j) x))
            (ltb (at a.rows.now j) a.m || le_z (signed_at ts j) a.top) (ltb (at a.rows.now j) a.m || le_z (signed_at a.vs.now j) a.top) (not (bit_of (at a.bars.now x) j)))
            ∙ over j b

    pub row_chosen : (part_of : List ℤ) → part_of ≡ row → (bits : ℕ) → bits ≡ at a.bars.now x → (u : ℤ) → u ≡ signed_at a.us.now x → (r : Option ℕ)
        → FindsFrom from (length part_of) (λ j t. goes_over a.m a.top bits x part_of u ts a.rows.now marks j ≡ t) r → Finds a.n (λ c. leads_on a marks x c) r
    row_chosen part_of e bits b u c r =
        rw (e, b, c, row_length)
        (finds_all from a.n a.n (omega arith) (goes_over a.m a.top (at a.bars.now x) x row (signed_at a.us.now x) ts a.rows.now marks) (leads_on a marks x) over_lowered h.passed
        (λ k p q. absurd (omega arith)) r)

  -- ---- from the spare columns

  module _ (l : a.m ≤ x) where
    down : (i : ℕ) → i < a.m → comes_down a.top a.cols.now a.vs.now marks i ≡ leads_on a marks x i
    down i b =
        let k : i < N = omega (arith, rows_nodes (night a)) in
        rw (a.highest, lt-ltb i a.m b, le-ltb x a.m l)
        (sym (live_picked (le_z (dearest (night a) a.vs.now a.cols.now) (signed_at a.vs.now (at a.cols.now i))) i N w k ∙ and_comm (le_z (dearest (night a) a.vs.now a.cols.now) (signed_at a.vs.now (at a.cols.now i))) (not (is_done w i))))

    none_above : (i : ℕ) → a.m ≤ i → leads_on a marks x i ≡ false
    none_above i b = rw (le-ltb i a.m b, le-ltb x a.m l, le-ltb N N (omega arith))

    pub down-chosen : (r : Option ℕ) → FindsFrom from a.m (λ i t. comes_down a.top a.cols.now a.vs.now marks i ≡ t) r → Finds a.n (λ c. leads_on a marks x c) r
    down-chosen r = finds_all from a.m a.n fewer.0 (comes_down a.top a.cols.now a.vs.now marks) (leads_on a marks x) down h.passed (λ k p q. none_above k p) r
