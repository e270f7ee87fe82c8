-- Rules 3 to 6 on costs with an amount on each column go in step with the same rules on the costs: at every stage pairs, free rows and counts are the same, and
-- each column's price is higher by its amount. No limits are needed, on costs, amounts or prices. Assumes nothing.
use mathlib.Core.Path.{◌≡◌, refl, ap, ◌∙◌}
use mathlib.Core.Bool.{Bool, cond}
use mathlib.Core.List.{List}
use Prim.Native.Nat.{ℕ, ◌+◌, ◌*◌, ◌≤◌, ◌<◌}
use native.Mathlib.Omega.{arith}
use borrow.Author.Tests.{ltb-true}
use lib.Dec.{ltb, eqb}
use lib.IntN.{ℤ, ◌+ℤ◌, ◌-ℤ◌}
use lib.Signed.{lt_z}
use lib.ListN.{length, set, length-set}
use Rattle.std.specs.Prelude.{Option, Some, None}
use Rattle.ints.proofs.Sums.{sum, dif}
use Rattle.ints.proofs.Shapes.{zlin}
use Rattle.lists.specs.Runs.{upward, downward}
use Rattle.lists.specs.Permutations.{at, table}
use Rattle.lists.proofs.Runs.{upward_keeps}
use Rattle.lists.proofs.InStep.{upward_both, upward_picture}
use Rattle.lists.proofs.Tables.{length-table, get_d_constant, table_cong}
use Rattle.lists.proofs.Cases.{cond_cases, cond_both, set_below}
use Rattle.assignment.specs.Pairings.{signed_at}
use Rattle.assignment.specs.Amounts.{risen}
use Rattle.assignment.proofs.Amounts.{price_risen}
use Rattle.rules.specs.declared.Low.{Low}
use Rattle.rules.specs.declared.TwoLowest.{TwoLowest}
use Rattle.rules.specs.declared.TwoLowest.TheVariants.{One, Two}
use Rattle.rules.specs.declared.Choice.{Choice}
use Rattle.rules.specs.Lowest.{reduced, two_lowest, least_but}
use Rattle.rules.specs.Columns.{Stage, minimum, Claims, claim, claims, Transfer, less_least, lower_column, transfer, untransferred, transfers, stage_of, column_reduction}
use Rattle.rules.specs.Rows.{Passing, Placed, keep_price, lower_price, choose, pass_at, settle, is_early, look, looks, pass_start, pass_end, row_reduction}
use Rattle.rules.specs.Search.{Found, search, add_distance, new_prices}
use Rattle.rules.specs.Augmentation.{Progress, augment_by, augment, augments, augmentation}
use Rattle.rules.specs.Run.{Stages, stages}
use Rattle.rules.proofs.Lowest.{two_lowest_cong, least_but_cong}
use Rattle.rules.proofs.Risen.{set-risen, table-risen, Added, reduced-same, low_plus, lowest_plus}
use Rattle.rules.proofs.SameSearch.{search_same}

-- ---- what a run holds, with the amounts added to its prices

module _ (amount : ℕ → ℤ) where
  abbrev pub risen_transfer : Transfer → Transfer
  risen_transfer x = record { prices = risen amount x.prices; frees = x.frees; count = x.count }

  abbrev pub risen_stage : Stage → Stage
  risen_stage s = record { pairs = s.pairs; prices = risen amount s.prices; frees = s.frees; count = s.count }

  abbrev pub risen_passing : Passing → Passing
  risen_passing x = record { pairs = x.pairs; prices = risen amount x.prices; frees = x.frees; pass = x.pass }

  abbrev pub risen_state : Progress → Progress
  risen_state x = record { pairs = x.pairs; prices = risen amount x.prices; scanned = x.scanned }

  abbrev pub risen_stages : Stages → Stages
  risen_stages r = record {
    columns = risen_stage r.columns;
    pass_one = risen_passing r.pass_one;
    pass_two = risen_passing r.pass_two;
    last = risen_state r.last;
  }

-- What the steps ask for: n prices, and rows below n in the free list.
pub record InRange (n : ℕ) (v : List ℤ) (frees : List ℕ) : Type 0 where
  pub prices_size : length v ≡ n
  pub rows_below : (t : ℕ) → at frees t < n

-- ---- rules 3 to 6 in step, at side 1 or more

module _ (n : ℕ) (one : 1 ≤ n) (amount : ℕ → ℤ) (cost cost' : ℕ → ℕ → ℤ) (added : Added n amount cost cost') where
  -- ---- rule 3

  minimum_plus : (j : ℕ) → j < n → minimum n cost' j ≡ low_plus (amount j) (minimum n cost j)
  minimum_plus j l = lowest_plus n (λ i. cost i j) (λ i. cost' i j) (amount j) one (λ i m. added i j m l)

  -- The claims do not see the amounts.
  claims-same : claims n cost' ≡ claims n cost
  unfolding claims
  claims-same =
      ap (λ (l : List ℕ). downward n claim (record { cols = table n (λ i. 0); rows = l; marks = table n (λ i. 0) }))
      (table_cong n (λ j. (minimum n cost' j).place) (λ j. (minimum n cost j).place) (λ j l. ap (λ (a : Low). a.place) (minimum_plus j l)))

  untransferred-risen : untransferred n cost' ≡ risen_transfer amount (untransferred n cost)
  untransferred-risen =
      ap (λ (v : List ℤ). record { prices = v; frees = table n (λ i. 0); count = 0 })
      (table-risen amount n (λ j. (minimum n cost j).value) (λ j. (minimum n cost' j).value) (λ j l. ap (λ (a : Low). a.value) (minimum_plus j l)))

  less_least_plus : (x y d : ℤ) (h : Option ℤ) → y ≡ x +ℤ d → less_least y h ≡ less_least x h +ℤ d
  less_least_plus x y d None e = e
  less_least_plus x y d (Some h) e = omega (zlin, dif x h)

  lower_column-risen : (i j : ℕ) (v : List ℤ) → i < n → length v ≡ n → lower_column n cost' i j (risen amount v) ≡ risen amount (lower_column n cost i j v)
  lower_column-risen i j v l size =
      ap (λ (h : Option ℤ). set (risen amount v) j (less_least (signed_at (risen amount v) j) h))
      (least_but_cong n (reduced cost' (signed_at (risen amount v)) i) (reduced cost (signed_at v) i) j (λ k m. reduced-same n amount cost cost' added v size i k l m))
      ∙ set-risen amount v j (less_least (signed_at v j) (least_but n (reduced cost (signed_at v) i) j))
      (less_least (signed_at (risen amount v) j) (least_but n (reduced cost (signed_at v) i) j))
      (λ m. less_least_plus (signed_at v j) (signed_at (risen amount v) j) (amount j) (least_but n (reduced cost (signed_at v) i) j) (price_risen amount v j m))

  -- A row of the transfer, in step.
  abbrev StepTransfer : Transfer → Transfer → Type 0
  StepTransfer x y = InRange n x.prices x.frees × (y ≡ risen_transfer amount x)

  transfer_step : (s : Claims) (i : ℕ) (x : Transfer) → i < n → InRange n x.prices x.frees
      → StepTransfer (transfer n cost s i x) (transfer n cost' s i (risen_transfer amount x))
  transfer_step s i x l R =
      cond_both (eqb (at s.marks i) 0) StepTransfer
      (record { prices_size = R.prices_size; rows_below = set_below n x.frees x.count i R.rows_below l }, refl)
      (cond_both (eqb (at s.marks i) 1) StepTransfer (
        record { prices_size = length-set x.prices (at s.cols i) _ ∙ R.prices_size; rows_below = R.rows_below },
        ap (λ (v : List ℤ). record { prices = v; frees = x.frees; count = x.count }) (lower_column-risen i (at s.cols i) x.prices l R.prices_size),
      )
      (R, refl))

  start_range : InRange n (untransferred n cost).prices (untransferred n cost).frees
  start_range = record { prices_size = length-table n (λ j. (minimum n cost j).value); rows_below = λ t. omega (arith, get_d_constant {A = ℕ} n 0 t) }

  transfers_step : (s : Claims) → StepTransfer (transfers n cost s) (transfers n cost' s)
  unfolding transfers
  transfers_step s =
      let r = upward_picture (λ k x. InRange n x.prices x.frees) (risen_transfer amount) 0 n (transfer n cost s) (transfer n cost' s) (untransferred n cost)
      (omega arith) start_range (λ k x a l R. transfer_step s k x l R) in
      (r.0, ap (upward 0 n (transfer n cost' s)) untransferred-risen ∙ r.1)

  abbrev StepStage : Stage → Stage → Type 0
  StepStage x y = InRange n x.prices x.frees × (y ≡ risen_stage amount x)

  pub column_reduction_step : StepStage (column_reduction n cost) (column_reduction n cost')
  unfolding column_reduction
  column_reduction_step =
      let r = transfers_step (claims n cost) in
      (r.0, ap (λ (s : Claims). stage_of s (transfers n cost' s)) claims-same ∙ ap (stage_of (claims n cost)) r.1)

  -- ---- rule 4

  abbrev with_prices : Passing → List ℤ → Passing
  with_prices x v = record { pairs = x.pairs; prices = v; frees = x.frees; pass = x.pass }

  module _ (x : Passing) (i : ℕ) where
    abbrev v : List ℤ
    v = x.prices

    -- Row i takes what was chosen, in step.
    abbrev Settles : Choice → Choice → Type 0
    Settles w w' = settle n (risen_passing amount x) i w' ≡ risen_passing amount (settle n x i w)

    keeps : (j : ℕ) → Settles (keep_price v j) (keep_price (risen amount v) j)
    keeps j = ap (with_prices (settle n x i (keep_price v j))) (set-risen amount v j (signed_at v j) (signed_at (risen amount v) j) (price_risen amount v j))

    lowers : (j : ℕ) (a b : ℤ) → Settles (lower_price v j a b) (lower_price (risen amount v) j a b)
    lowers j a b =
        ap (with_prices (settle n x i (lower_price v j a b)))
        (set-risen amount v j (signed_at v j -ℤ (b -ℤ a)) (signed_at (risen amount v) j -ℤ (b -ℤ a)) (λ l. omega (zlin, price_risen amount v j l, dif (signed_at v j) (b -ℤ a))))

    choose_settles : (early : Bool) (rows : List ℕ) (t : TwoLowest) → Settles (choose n early v rows t) (choose n early (risen amount v) rows t)
    choose_settles early rows (One a) = keeps a.place
    choose_settles early rows (Two a b) =
        cond_both early Settles
        (cond_both (lt_z a.value b.value) Settles (lowers a.place a.value b.value) (keeps (cond (ltb (at rows a.place) n) b.place a.place)))
        (keeps a.place)

    settle_range : (w : Choice) → InRange n v x.frees → InRange n (settle n x i w).prices (settle n x i w).frees
    settle_range w R = record {
      prices_size = length-set v w.column w.price ∙ R.prices_size;
      rows_below =
          let h = at x.pairs.rows w.column in
          let p = x.pass in
          let back : Placed = record { frees = set x.frees p.current h; pass = pass_at p.current p.left (p.looks + 1) } in
          let next : Placed = record { frees = set x.frees p.left h; pass = pass_at (p.current + 1) (p.left + 1) (p.looks + 1) } in
          let none : Placed = record { frees = x.frees; pass = pass_at (p.current + 1) p.left (p.looks + 1) } in
          cond_cases (ltb h n) Below (cond w.back back next) none
          (λ e. cond_cases w.back Below back next
          (λ d. set_below n x.frees p.current h R.rows_below (ltb-true h n e))
          (λ d. set_below n x.frees p.left h R.rows_below (ltb-true h n e)))
          (λ e. R.rows_below);
    }
      where
        Below : Placed → Type 0
        Below z = (t : ℕ) → at z.frees t < n

  abbrev StepPassing : Passing → Passing → Type 0
  StepPassing x y = InRange n x.prices x.frees × (y ≡ risen_passing amount x)

  look_step : (x : Passing) → InRange n x.prices x.frees → StepPassing (look n cost x) (look n cost' (risen_passing amount x))
  look_step x R =
      let i = at x.frees x.pass.current in
      let v = x.prices in
      let early = is_early n x.pass in
      let rows = x.pairs.rows in (
        settle_range x i (choose n early v rows (two_lowest n (reduced cost (signed_at v) i))) R,
        ap (λ (t : TwoLowest). settle n (risen_passing amount x) i (choose n early (risen amount v) rows t))
            (two_lowest_cong n (reduced cost' (signed_at (risen amount v)) i) (reduced cost (signed_at v) i) one
            (λ j l. reduced-same n amount cost cost' added v R.prices_size i j (R.rows_below x.pass.current) l))
            ∙ choose_settles x i early rows (two_lowest n (reduced cost (signed_at v) i)),
      )

  looks_step : (count m : ℕ) (x : Passing) → InRange n x.prices x.frees
      → StepPassing (looks n cost count m x) (looks n cost' count m (risen_passing amount x))
  unfolding looks
  looks_step count m x R =
      upward_picture (λ k y. InRange n y.prices y.frees) (risen_passing amount) 0 m (λ k y. cond (ltb y.pass.current count) (look n cost y) y)
      (λ k y. cond (ltb y.pass.current count) (look n cost' y) y) x (omega arith) R
      (λ k y a l S. cond_both (ltb y.pass.current count) StepPassing (look_step y S) (S, refl))

  pub row_reduction_step : (s : Stage) → InRange n s.prices s.frees → StepPassing (row_reduction n cost s) (row_reduction n cost' (risen_stage amount s))
  unfolding row_reduction
  row_reduction_step s R = looks_step s.count (s.count * n) (pass_start s) R

  -- ---- rules 5 and 6

  add_distance-risen : (d : List ℤ) (minimum : ℤ) (j : ℕ) (v : List ℤ) → add_distance d minimum j (risen amount v) ≡ risen amount (add_distance d minimum j v)
  add_distance-risen d minimum j v =
      let z = signed_at d j -ℤ minimum in
      set-risen amount v j (signed_at v j +ℤ z) (signed_at (risen amount v) j +ℤ z) (λ l. omega (zlin, price_risen amount v j l, sum (signed_at v j) z, sum (signed_at v j) (amount j)))

  new_prices-risen : (f : Found) (v : List ℤ) → new_prices f (risen amount v) ≡ risen amount (new_prices f v)
  unfolding new_prices
  new_prices-risen f v =
      let w = f.work in
      let m = signed_at w.distances (at w.list f.cursor.lo) in
      upward_both (λ k x y. y ≡ risen amount x) 0 f.ready (λ k. add_distance w.distances m (at w.list k)) (λ k. add_distance w.distances m (at w.list k)) v (risen amount v)
      (omega arith) refl
      (λ k x y a l e. ap (add_distance w.distances m (at w.list k)) e ∙ add_distance-risen w.distances m (at w.list k) x)

  new_prices-length : (f : Found) (v : List ℤ) → length (new_prices f v) ≡ length v
  unfolding new_prices
  new_prices-length f v =
      let w = f.work in
      let m = signed_at w.distances (at w.list f.cursor.lo) in
      upward_keeps (λ k x. length x ≡ length v) 0 f.ready (λ k. add_distance w.distances m (at w.list k)) v (omega arith) refl
      (λ k x a l e. simp length-set e)

  abbrev StepState : Progress → Progress → Type 0
  StepState x y = (length x.prices ≡ n) × (y ≡ risen_state amount x)

  augment_step : (x : Progress) (s : ℕ) → s < n → length x.prices ≡ n → StepState (augment n cost x s) (augment n cost' (risen_state amount x) s)
  augment_step x s l size =
      let v = x.prices in
      let row = at x.pairs.rows in
      let f = search n cost (signed_at v) row s in (
        new_prices-length f v ∙ size,
        ap (augment_by n (risen_state amount x) s)
            (search_same n cost' cost (signed_at (risen amount v)) (signed_at v) row (λ i j h m. reduced-same n amount cost cost' added v size i j h m) s l)
            ∙ ap (λ (z : List ℤ). record { pairs = (augment_by n x s f).pairs; prices = z; scanned = x.scanned + f.work.scanned }) (new_prices-risen f v),
      )

  pub augmentation_step : (s : Stage) → InRange n s.prices s.frees → StepState (augmentation n cost s) (augmentation n cost' (risen_stage amount s))
  unfolding augmentation augments
  augmentation_step s R =
      upward_picture (λ k x. length x.prices ≡ n) (risen_state amount) 0 s.count (λ k y. augment n cost y (at s.frees k)) (λ k y. augment n cost' y (at s.frees k))
      (record { pairs = s.pairs; prices = s.prices; scanned = 0 }) (omega arith) R.prices_size
      (λ k x a l e. augment_step x (at s.frees k) (R.rows_below k) e)

  -- ---- the run

  pub stages_in_step : stages n cost' ≡ risen_stages amount (stages n cost)
  unfolding stages
  stages_in_step =
      let columns = column_reduction n cost in
      let one = row_reduction n cost columns in
      let two = row_reduction n cost (pass_end one) in
      let c = column_reduction_step in
      let a = row_reduction_step columns c.0 in
      let b = row_reduction_step (pass_end one) a.0 in
      let d = augmentation_step (pass_end two) b.0 in
      let columns' = column_reduction n cost' in
      let one' = row_reduction n cost' columns' in
      let two' = row_reduction n cost' (pass_end one') in
      let e₁ : columns' ≡ risen_stage amount columns = c.1 in
      let e₂ : one' ≡ risen_passing amount one = ap (row_reduction n cost') e₁ ∙ a.1 in
      let e₃ : two' ≡ risen_passing amount two = ap (λ (x : Passing). row_reduction n cost' (pass_end x)) e₂ ∙ b.1 in
      let e₄ : augmentation n cost' (pass_end two') ≡ risen_state amount (augmentation n cost (pass_end two)) = ap (λ (x : Passing). augmentation n cost' (pass_end x)) e₃ ∙ d.1 in
      cc
