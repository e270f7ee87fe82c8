-- Rule 3, first part: the column minima, and what the claims leave: each column that keeps its row is named back by it, and a row is marked
-- exactly if a column holds it. Assumes nothing.
use mathlib.Core.Path.{◌≡◌, sym, ap, ◌∙◌, subst}
use mathlib.Core.Logic.{◌≢◌}
use Prim.Native.Nat.{ℕ, suc, ◌≤◌, ◌<◌}
use native.Mathlib.Omega.{arith}
use borrow.Author.Tests.{eqb-true, eqb-false}
use lib.Dec.{eqb}
use lib.IntN.{ℤ}
use lib.Signed.{◌≤ℤ◌}
use lib.ListN.{length, set, length-set}
use lib.Seq.{get_or-set_same, get_or-set_other}
use Rattle.ints.specs.Parts.{Within}
use Rattle.ints.proofs.Shapes.{zlin}
use Rattle.lists.specs.Permutations.{at}
use Rattle.lists.proofs.Runs.{downward_keeps}
use Rattle.lists.proofs.Tables.{length-table, get_d_table}
use Rattle.lists.proofs.Cases.{cond_cases, here_or_elsewhere}
use Rattle.rules.specs.Columns.{free, Claims, claim, unclaimed, claims, minimum}
use Rattle.rules.proofs.Lowest.{IsLowest, lowest_is}
use Rattle.rules.proofs.Prices.{NotBelow}

module _ (n : ℕ) (cost : ℕ → ℕ → ℤ) (one : 1 ≤ n) where
  -- The row of a column's minimum, and the minimum.
  abbrev pub best : ℕ → ℕ
  best j = (minimum n cost j).place

  abbrev pub first : ℕ → ℤ
  first j = (minimum n cost j).value

  is : (j : ℕ) → IsLowest (λ i. cost i j) n (minimum n cost j)
  is j = lowest_is n (λ i. cost i j) one

  pub best_below : (j : ℕ) → best j < n
  best_below j = (is j).inside

  pub first-cost : (j : ℕ) → first j ≡ cost (best j) j
  first-cost j = (is j).value_is

  pub first-least : (i j : ℕ) → i < n → first j ≤ℤ cost i j
  first-least i j l = (is j).no_lower i l

  pub first_within : (K : ℕ) → ((i j : ℕ) → Within K (cost i j)) → (j : ℕ) → Within K (first j)
  first_within K costs j = let i = best j in omega (zlin, first-cost j, costs i j)

  pub first-low : (K : ℕ) → ((i j : ℕ) → Within K (cost i j)) → (j : ℕ) → NotBelow K (first j)
  first-low K costs j = record { low = (first_within K costs j).low }

  -- Column k holds a row.
  pub record Holds (s : Claims) (k : ℕ) : Type 0 where
    pub is_best : at s.rows k ≡ best k
    pub named_back : at s.cols (at s.rows k) ≡ k
    pub marked : 1 ≤ at s.marks (at s.rows k)

  -- The columns from d on have claimed.
  pub record Claimed (d : ℕ) (s : Claims) : Type 0 where
    pub cols_size : length s.cols ≡ n
    pub rows_size : length s.rows ≡ n
    pub marks_size : length s.marks ≡ n
    pub cols_below : (i : ℕ) → i < n → at s.cols i < n
    pub waiting : (k : ℕ) → k < d → at s.rows k ≡ best k
    pub holding : (k : ℕ) → d ≤ k → k < n → at s.rows k < n → Holds s k
    pub marked_held : (i : ℕ) → i < n → 1 ≤ at s.marks i → (d ≤ at s.cols i) × (at s.rows (at s.cols i) ≡ i)

  module _ (room : n ≤ free) (s : Claims) (j : ℕ) (l : j < n) (h : Claimed (suc j) s) where
    abbrev i : ℕ
    i = at s.rows j

    li : i < n
    li = omega (arith, h.waiting j (omega arith), best_below j)

    -- The row is unclaimed.
    wins : at s.marks i ≡ 0 → Claimed j (record { cols = set s.cols i j; rows = s.rows; marks = set s.marks i 1 })
    wins z =
        let q : Claims = record { cols = set s.cols i j; rows = s.rows; marks = set s.marks i 1 } in
        let tc : at q.cols i ≡ j = get_or-set_same s.cols i j 0 (omega (arith, li, h.cols_size)) in
        let tm : at q.marks i ≡ 1 = get_or-set_same s.marks i 1 0 (omega (arith, li, h.marks_size)) in
        let kc : (x : ℕ) → x ≢ i → at q.cols x ≡ at s.cols x = λ x d. get_or-set_other s.cols i x j 0 d in
        let km : (x : ℕ) → x ≢ i → at q.marks x ≡ at s.marks x = λ x d. get_or-set_other s.marks i x 1 0 d in
        record {
          cols_size = length-set s.cols i j ∙ h.cols_size;
          rows_size = h.rows_size;
          marks_size = length-set s.marks i 1 ∙ h.marks_size;
          cols_below = here_or_elsewhere (λ x. x < n → at q.cols x < n) i (λ m. omega (arith, tc)) (λ x d m. omega (arith, kc x d, h.cols_below x m));
          waiting = λ k m. h.waiting k (omega arith);
          holding = here_or_elsewhere (λ k. j ≤ k → k < n → at s.rows k < n → Holds q k) j
              (λ a b m. record { is_best = h.waiting j (omega arith); named_back = tc; marked = omega (arith, tm) })
              (λ k d a b m.
              let H = h.holding k (omega arith) b m in
              let e : at s.rows k ≢ i = λ y. omega (arith, H.marked, ap (at s.marks) y) in
              record {
                is_best = H.is_best;
                named_back = kc (at s.rows k) e ∙ H.named_back;
                marked = omega (arith, km (at s.rows k) e, H.marked);
              });
          marked_held = here_or_elsewhere (λ x. x < n → 1 ≤ at q.marks x → (j ≤ at q.cols x) × (at s.rows (at q.cols x) ≡ x)) i
              (λ a b. (omega (arith, tc), ap (at s.rows) tc))
              (λ x d a b. let C = h.marked_held x a (omega (arith, km x d)) in (omega (arith, kc x d, C.0), ap (at s.rows) (kc x d) ∙ C.1));
        }

    -- The row is claimed already.
    loses : 1 ≤ at s.marks i → Claimed j (record { cols = s.cols; rows = set s.rows j free; marks = set s.marks i 2 })
    loses z =
        let q : Claims = record { cols = s.cols; rows = set s.rows j free; marks = set s.marks i 2 } in
        let tr : at q.rows j ≡ free = get_or-set_same s.rows j free 0 (omega (arith, h.rows_size)) in
        let tm : at q.marks i ≡ 2 = get_or-set_same s.marks i 2 0 (omega (arith, li, h.marks_size)) in
        let kr : (x : ℕ) → x ≢ j → at q.rows x ≡ at s.rows x = λ x d. get_or-set_other s.rows j x free 0 d in
        let km : (x : ℕ) → x ≢ i → at q.marks x ≡ at s.marks x = λ x d. get_or-set_other s.marks i x 2 0 d in
        let still : (x : ℕ) → 1 ≤ at s.marks x → 1 ≤ at q.marks x =
        here_or_elsewhere (λ x. 1 ≤ at s.marks x → 1 ≤ at q.marks x) i (λ a. omega (arith, tm)) (λ x d a. omega (arith, km x d)) in
        let before : (x : ℕ) → 1 ≤ at q.marks x → 1 ≤ at s.marks x =
        here_or_elsewhere (λ x. 1 ≤ at q.marks x → 1 ≤ at s.marks x) i (λ a. z) (λ x d a. omega (arith, km x d)) in
        record {
          cols_size = h.cols_size;
          rows_size = length-set s.rows j free ∙ h.rows_size;
          marks_size = length-set s.marks i 2 ∙ h.marks_size;
          cols_below = h.cols_below;
          waiting = λ k m. kr k (λ e. omega arith) ∙ h.waiting k (omega arith);
          holding = λ k a b m.
              let d : k ≢ j = λ e. omega (arith, tr, ap (at q.rows) e) in
              let H = h.holding k (omega arith) b (omega (arith, kr k d)) in
              record {
                is_best = kr k d ∙ H.is_best;
                named_back = ap (at s.cols) (kr k d) ∙ H.named_back;
                marked = still (at q.rows k) (subst (λ (x : ℕ). 1 ≤ at s.marks x) (sym (kr k d)) H.marked);
              };
          marked_held = λ x a b.
              let C = h.marked_held x a (before x b) in (omega (arith, C.0), kr (at s.cols x) (λ e. omega (arith, C.0)) ∙ C.1);
        }

    pub claimed_more : Claimed j (claim j s)
    claimed_more =
        cond_cases (eqb (at s.marks i) 0) (Claimed j)
        (record { cols = set s.cols i j; rows = s.rows; marks = set s.marks i 1 })
        (record { cols = s.cols; rows = set s.rows j free; marks = set s.marks i 2 })
        (λ t. wins (eqb-true (at s.marks i) 0 t)) (λ t. loses (omega (arith, eqb-false (at s.marks i) 0 t)))

  pub claimed_none : Claimed n (unclaimed n cost)
  claimed_none = record {
    cols_size = length-table {A = ℕ} n (λ i. 0);
    rows_size = length-table n best;
    marks_size = length-table {A = ℕ} n (λ i. 0);
    cols_below = λ i h. omega (arith, get_d_table {A = ℕ} n (λ i. 0) 0 i h);
    waiting = λ k h. get_d_table n best 0 k h;
    holding = λ k a b m. absurd (omega arith);
    marked_held = λ i h m. absurd (omega (arith, get_d_table {A = ℕ} n (λ i. 0) 0 i h));
  }

  pub claimed_all : n ≤ free → Claimed 0 (claims n cost)
  unfolding claims
  claimed_all room = downward_keeps Claimed n claim (unclaimed n cost) claimed_none (λ k s l h. claimed_more room s k l h)
