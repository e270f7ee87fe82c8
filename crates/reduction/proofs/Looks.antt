-- A look as code makes it, and a pass: what every look keeps, where a pass stands after so many looks, and where it ends. Assumes nothing.
use mathlib.Core.Path.{◌≡◌, refl, sym, ap, ◌∙◌, subst}
use mathlib.Core.Bool.{Bool, cond}
use mathlib.Core.List.{List}
use Prim.Native.Nat.{ℕ, suc, ◌+◌, ◌*◌, ◌-◌, ◌^◌, ◌≤◌, ◌<◌}
use native.Mathlib.Decide.{dec_lt}
use native.Mathlib.Nat.{mul-le-mul, zero-mul}
use native.Mathlib.Numerals.{add-one}
use native.Mathlib.Omega.{arith}
use lib.Dec.{ltb}
use lib.IntN.{ℤ}
use lib.ListN.{length, set, length-set}
use Rattle.lists.specs.Permutations.{at}
use Rattle.lists.proofs.Runs.{upward_keeps}
use Rattle.lists.proofs.Cases.{cond_cases}
use Rattle.assignment.specs.Pairings.{square, signed_at}
use Rattle.rules.specs.declared.Choice.{Choice}
use Rattle.rules.specs.declared.Pass.{Pass}
use Rattle.rules.specs.Lowest.{reduced, two_lowest}
use Rattle.rules.specs.Columns.{Stage}
use Rattle.rules.specs.Rows.{Passing, Placed, choose, pass_at, displace, settle, is_early, look, looks, pass_start, row_reduction}
use Rattle.rules.proofs.Passes.{looks_none, looks_more, looks_rest}
use Rattle.matrix.proofs.SmallLimits.{side_small}
use Rattle.reduction.specs.Ranges.{Near, Square}
use Rattle.reduction.specs.Columns.{stage_at}
use Rattle.reduction.specs.Rows.{placed_at, passing_at, Ready, Passable}

module _ (n : ℕ) (cost : ℕ → ℕ → ℤ) (x : Passing) where
  -- What the free row at `current` chooses.
  abbrev pub choice_of : Choice
  choice_of =
      choose n (is_early n x.pass) x.prices x.pairs.rows (two_lowest n (reduced cost (signed_at x.prices) (at x.frees x.pass.current)))

  pub look_is : (i : ℕ) → i ≡ at x.frees x.pass.current → (w : Choice) → w ≡ choice_of → (f : List ℕ) (q : Pass)
      → placed_at f q ≡ displace n x.frees x.pass w.back (at x.pairs.rows w.column)
      → passing_at (set x.pairs.cols i w.column) (set x.pairs.rows w.column i) (set x.prices w.column w.price) f q ≡ look n cost x
  look_is i r w e f q p =
      ap (λ (y : Placed). passing_at (set x.pairs.cols i w.column) (set x.pairs.rows w.column i) (set x.prices w.column w.price) y.frees y.pass) p
      ∙ ap (λ (k : ℕ). settle n x k w) r ∙ ap (settle n x (at x.frees x.pass.current)) e

-- ---- what every look keeps

-- Lists of n entries, and a next list that ends at `current` at most.
pub record Sized (n : ℕ) (x : Passing) : Type 0 where
  pub cols_size : length x.pairs.cols ≡ n
  pub rows_size : length x.pairs.rows ≡ n
  pub prices_size : length x.prices ≡ n
  pub frees_size : length x.frees ≡ n
  pub left_most : x.pass.left ≤ x.pass.current

-- A free list of n entries, and a pass that has made one look more.
record Moved (n looks : ℕ) (y : Placed) : Type 0 where
  frees_size : length y.frees ≡ n
  left_most : y.pass.left ≤ y.pass.current
  one_more : y.pass.looks ≡ looks + 1

displace_moved : (n m : ℕ) (frees : List ℕ) (p : Pass) (back : Bool) (h : ℕ) → length frees ≡ m → p.left ≤ p.current → Moved m p.looks (displace n frees p back h)
displace_moved n m frees p back h size most =
    let again = placed_at (set frees p.current h) (pass_at p.current p.left (p.looks + 1)) in
    let next = placed_at (set frees p.left h) (pass_at (p.current + 1) (p.left + 1) (p.looks + 1)) in
    let none = placed_at frees (pass_at (p.current + 1) p.left (p.looks + 1)) in
    cond_cases (ltb h n) (Moved m p.looks) (cond back again next) none
    (λ t. cond_cases back (Moved m p.looks) again next
    (λ r. record { frees_size = length-set frees p.current h ∙ size; left_most = most; one_more = refl })
    (λ r. record { frees_size = length-set frees p.left h ∙ size; left_most = omega arith; one_more = refl }))
    (λ t. record { frees_size = size; left_most = omega arith; one_more = refl })

module _ (n : ℕ) (cost : ℕ → ℕ → ℤ) (x : Passing) (s : Sized n x) where
  look_moved : Moved n x.pass.looks (placed_at (look n cost x).frees (look n cost x).pass)
  look_moved =
      let w = choice_of n cost x in
      displace_moved n n x.frees x.pass w.back (at x.pairs.rows w.column) s.frees_size s.left_most

  look_sized : Sized n (look n cost x)
  look_sized =
      let i = at x.frees x.pass.current in
      let w = choice_of n cost x in
      record {
        cols_size = length-set x.pairs.cols i w.column ∙ s.cols_size;
        rows_size = length-set x.pairs.rows w.column i ∙ s.rows_size;
        prices_size = length-set x.prices w.column w.price ∙ s.prices_size;
        frees_size = look_moved.frees_size;
        left_most = look_moved.left_most;
      }

  look_counts : (look n cost x).pass.looks ≡ x.pass.looks + 1
  look_counts = look_moved.one_more

looks_sized : (n : ℕ) (cost : ℕ → ℕ → ℤ) (count : ℕ) (x : Passing) → Sized n x → (m : ℕ) → Sized n (looks n cost count m x)
unfolding looks
looks_sized n cost count x s m =
    upward_keeps (λ k. Sized n) 0 m (λ k y. cond (ltb y.pass.current count) (look n cost y) y) x (omega arith) s
    (λ k y l h z. cond_cases (ltb y.pass.current count) (Sized n) (look n cost y) y (λ t. look_sized n cost y z) (λ t. z))

-- A pass keeps the sizes, over any of its rows.
pub pass_sized : (n : ℕ) (cost : ℕ → ℕ → ℤ) (s : Stage) → Sized n (pass_start s) → Sized n (row_reduction n cost s)
unfolding row_reduction
pass_sized n cost s z = looks_sized n cost s.count (pass_start s) z (s.count * n)

-- A pass over no rows asks for nothing but sizes.
pub passable_none : (n : ℕ) (costs : List ℤ) (s : Stage) → Square n costs → Sized n (pass_start s)
    → Passable n costs s.pairs.cols s.pairs.rows s.prices s.frees 0
passable_none n costs s squared z = record {
  squared = squared;
  cols_size = z.cols_size;
  rows_size = z.rows_size;
  prices_size = z.prices_size;
  frees_size = z.frees_size;
  count_most = omega arith;
  ends = omega arith;
  row_below = λ m l. absurd (omega (arith, zero-mul n));
  near_prices = λ m l. absurd (omega (arith, zero-mul n));
}

-- ---- the loop of a pass, at its head: it stands where its counter says

pub record Head (n : ℕ) (cost : ℕ → ℕ → ℤ) (count : ℕ) (x y : Passing) : Type 0 where
  pub stands : y ≡ looks n cost count y.pass.looks x
  pub most : y.pass.looks ≤ count * n

module _ {n : ℕ} {costs : List ℤ} {cols rows : List ℕ} {v : List ℤ} {frees : List ℕ} {count : ℕ} (p : Passable n costs cols rows v frees count) where
  abbrev cost : ℕ → ℕ → ℤ
  cost = (square n costs).cost

  abbrev begin : Passing
  begin = pass_start (stage_at cols rows v frees count)

  pub head_start : Head n cost count begin begin
  head_start = record { stands = sym (looks_none n cost count begin); most = omega arith }

  -- Where the pass stands after m turns.
  abbrev after : ℕ → Passing
  after m = looks n cost count m begin

  module _ (y : Passing) (h : Head n cost count begin y) where
    pub sized : Sized n y
    sized =
        subst (Sized n) (sym h.stands)
        (looks_sized n cost count begin
        (record { cols_size = p.cols_size; rows_size = p.rows_size; prices_size = p.prices_size; frees_size = p.frees_size; left_most = omega arith })
        y.pass.looks)

    -- A row is left: the counter is below count * n.
    module _ (more : y.pass.current < count) where
      here : (looks n cost count y.pass.looks begin).pass.current < count
      here = subst (λ (z : Passing). z.pass.current < count) h.stands more

      pub below : y.pass.looks < count * n
      unfolding row_reduction
      below = by (dec_lt y.pass.looks (count * n))
        where
          by : Dec (y.pass.looks < count * n) → y.pass.looks < count * n
          by (yes l) = l
          by (no l) =
              let m = y.pass.looks in
              let e : count * n + (m - count * n) ≡ m = omega arith in
              let q : after m ≡ after (count * n) = ap after (sym e) ∙ looks_rest n cost count begin (count * n) p.ends (m - count * n) in
              absurd (omega (arith, here, p.ends, ap (λ (z : Passing). z.pass.current) q))

      pub ready : Ready n costs y
      ready =
          let side-fits : n ≤ 2 ^ 16 = omega (arith, side_small, p.squared.small) in
          let count_fits : count ≤ 2 ^ 16 = omega (arith, p.count_most) in
          record {
            squared = p.squared;
            cols_size = sized.cols_size;
            rows_size = sized.rows_size;
            prices_size = sized.prices_size;
            frees_size = sized.frees_size;
            current_below = omega (arith, p.count_most);
            left_most = sized.left_most;
            looks_fit = omega (arith, below, mul-le-mul count_fits side-fits);
            row_below = subst (λ (z : Passing). at z.frees z.pass.current < n) (sym h.stands) (p.row_below y.pass.looks below here);
            near_prices = subst (λ (z : Passing). Near n z.prices) (sym h.stands) (p.near_prices y.pass.looks below here);
          }

      counted : (z : Passing) → z ≡ look n cost y → z.pass.looks ≡ suc y.pass.looks
      counted z e = ap (λ (q : Passing). q.pass.looks) e ∙ look_counts n cost y sized ∙ add-one y.pass.looks

      pub head_next : (z : Passing) → z ≡ look n cost y → Head n cost count begin z
      head_next z e = record {
        stands = e ∙ ap (look n cost) h.stands ∙ sym (looks_more n cost count begin y.pass.looks here) ∙ ap after (sym (counted z e));
        most = omega (arith, counted z e, below);
      }

      pub nearer : (z : Passing) → z ≡ look n cost y → count * n - z.pass.looks < count * n - y.pass.looks
      nearer z e = omega (arith, counted z e, below)

    pub head_ends : count ≤ y.pass.current → y ≡ row_reduction n cost (stage_at cols rows v frees count)
    unfolding row_reduction
    head_ends l =
        let m = y.pass.looks in
        let e : m + (count * n - m) ≡ count * n = omega (arith, h.most) in
        h.stands ∙ sym (looks_rest n cost count begin m (subst (λ (z : Passing). count ≤ z.pass.current) h.stands l) (count * n - m)) ∙ ap after e
