-- What the engine answers: a least pairing, the first in dictionary order, and one wherever there is one. Assumes nothing.
use mathlib.Core.Path.{◌≡◌, refl, sym, ap, ◌∙◌, subst}
use mathlib.Core.Bool.{Bool, true, false, cond, not, true≢false}
use mathlib.Core.List.{List, []}
use Prim.Native.Nat.{ℕ, zero, suc, ◌^◌, ◌≤◌, ◌<◌}
use native.Mathlib.Nat.{pow-zero, one-le-pow}
use native.Mathlib.Omega.{arith}
use lib.IntN.{ℤ}
use lib.Signed.{◌≤ℤ◌}
use borrow.Author.Tests.{not-true}
use Rattle.ints.proofs.Ranges.{zarith}
use Rattle.ints.proofs.Tests.{lt_lt_z, le_lt_z, not_true_false}
use Rattle.lists.specs.Counts.{some}
use Rattle.lists.specs.Runs.{upward, first}
use Rattle.lists.proofs.Cases.{below_suc}
use Rattle.lists.proofs.Runs.{upward_keeps, first_holds, first_before, first-at}
use Rattle.assignment.specs.Pairings.{Night, Pairing, total, Least}
use Rattle.plain.specs.Engine.{list_count, list_of, is_pairing, cost_of, less, is_least, chosen, written}
use Rattle.std.specs.Prelude.{Option, Some, None}
use Rattle.plain.proofs.Numbers.{number, length_digits, digits-below, digits_number, number_below, number_digits, Before, before_lower}
use Rattle.plain.proofs.Pairings.{clear_none, none_clear, passes_pairing, pairing_passes}

-- ---- what costs less

-- a < f, and b is not below f: a < b
less-over : (a b f : Option ℤ) → less a f ≡ true → less b f ≡ false → less a b ≡ true
less-over None b f e g = absurd (true≢false (sym e))
less-over (Some t) None f e g = refl
less-over (Some t) (Some s) None e g = absurd (true≢false g)
less-over (Some t) (Some s) (Some l) e g = lt_lt_z t s (omega zarith)

less_not : (a b : Option ℤ) → less a b ≡ true → less b a ≡ false
less_not None b e = absurd (true≢false (sym e))
less_not (Some t) None e = refl
less_not (Some t) (Some s) e = le_lt_z s t (omega zarith)

less_self : (a : Option ℤ) → less a a ≡ false
less_self None = refl
less_self (Some t) = le_lt_z t t (omega zarith)

nothing_never : (a : Option ℤ) → less None a ≡ false
nothing_never a = refl

totals_not_less : (s t : ℤ) → t ≤ℤ s → less (Some s) (Some t) ≡ false
totals_not_less s t h = le_lt_z s t h

nothing_less : (a : Option ℤ) → less None a ≡ true → ⊥
nothing_less a e = true≢false (sym e)

less_nothing : (a : Option ℤ) → less a None ≡ false → a ≡ None
less_nothing None e = refl
less_nothing (Some t) e = absurd (true≢false e)

not_less_totals : (s t : ℤ) → less (Some s) (Some t) ≡ false → t ≤ℤ s
not_less_totals s t e = omega zarith

pub same-costs : (s t : ℤ) → Some s ≡ Some t → s ≡ t
same-costs s t e = cc e

pub costs_nothing : (t : ℤ) → Some t ≡ None → ⊥
costs_nothing t e = let z : ◌≡◌ {A = ℕ} 0 1 = cc e in omega arith

-- There is a list of columns where rows are not more than columns.
positive : (n m : ℕ) → m ≤ n → 0 < n ^ m
positive zero zero h = omega (arith, pow-zero 0)
positive zero (suc m) h = absurd (omega arith)
positive (suc n) m h = one-le-pow m (suc n) (omega arith)

module _ (night : Night) (cols : List ℕ) where
  pub cost_passed : is_pairing night cols ≡ true → cost_of night cols ≡ Some (total night cols)
  unfolding cost_of
  cost_passed p = rw p refl

  pub cost_failed : is_pairing night cols ≡ false → cost_of night cols ≡ None
  unfolding cost_of
  cost_failed p = rw p refl

module _ (night : Night) where
  abbrev pub cost_at : ℕ → Option ℤ
  cost_at k = cost_of night (list_of night k)

  -- ---- what is held after the lists below k

  -- A cost and columns: those of the first list, of those below k, that costs least.
  pub record Best (k : ℕ) (found : Option ℤ) (cols : List ℕ) : Type 0 where
    pub place : ℕ
    pub reach : place < k
    pub costs : found ≡ cost_at place
    pub columns : cols ≡ list_of night place
    pub least : (j : ℕ) → j < k → less (cost_at j) found ≡ false
    pub first : (j : ℕ) → j < place → less found (cost_at j) ≡ true

  abbrev pub Kept : ℕ → List ℕ → Option ℤ → List ℕ → Type 0
  Kept k lent None cols = ((j : ℕ) → j < k → less (cost_at j) None ≡ false) × (cols ≡ lent)
  Kept k lent (Some t) cols = Best k (Some t) cols

  pub kept_none : (lent : List ℕ) → Kept 0 lent None lent
  kept_none lent = (λ j l. absurd (omega arith), refl)

  no_less : (k : ℕ) (lent : List ℕ) (found : Option ℤ) (cols : List ℕ) → Kept k lent found cols → (j : ℕ) → j < k → less (cost_at j) found ≡ false
  no_less k lent None cols h = h.0
  no_less k lent (Some t) cols h = h.least

  -- A list that costs less is the best so far,
  better : (k : ℕ) (lent : List ℕ) (found : Option ℤ) (cols : List ℕ) → Kept k lent found cols → (cost : Option ℤ) → cost ≡ cost_at k → less cost found ≡ true
      → Kept (suc k) lent cost (list_of night k)
  better k lent found cols h None e l = absurd (nothing_less found l)
  better k lent found cols h (Some t) e l = record {
    place = k;
    reach = omega arith;
    costs = e;
    columns = refl;
    least = below_suc (λ j. less (cost_at j) (Some t) ≡ false) (λ j m. less_not (Some t) (cost_at j) (over j m)) (rw (sym e) (less_self (Some t)));
    first = over;
  }
    where
      over : (j : ℕ) → j < k → less (Some t) (cost_at j) ≡ true
      over j m = less-over (Some t) (cost_at j) found l (no_less k lent found cols h j m)

  -- and any other leaves it.
  worse : (k : ℕ) (lent : List ℕ) (found : Option ℤ) (cols : List ℕ) → Kept k lent found cols → less (cost_at k) found ≡ false → Kept (suc k) lent found cols
  worse k lent None cols h l = (below_suc (λ j. less (cost_at j) None ≡ false) h.0 l, h.1)
  worse k lent (Some t) cols h l = record {
    place = h.place;
    reach = omega (arith, h.reach);
    costs = h.costs;
    columns = h.columns;
    least = below_suc (λ j. less (cost_at j) (Some t) ≡ false) h.least l;
    first = h.first;
  }

  -- One list more.
  abbrev pub kept_cost : Option ℤ → Option ℤ → Option ℤ
  kept_cost cost found = cond (less cost found) cost found

  abbrev pub kept_list : Option ℤ → Option ℤ → List ℕ → List ℕ → List ℕ
  kept_list cost found list cols = cond (less cost found) list cols

  pub kept_more : (k : ℕ) (lent : List ℕ) (found : Option ℤ) (cols : List ℕ) → Kept k lent found cols
      → Kept (suc k) lent (kept_cost (cost_at k) found) (kept_list (cost_at k) found (list_of night k) cols)
  kept_more k lent found cols h = by (less (cost_at k) found) refl
    where
      by : (b : Bool) → less (cost_at k) found ≡ b → Kept (suc k) lent (kept_cost (cost_at k) found) (kept_list (cost_at k) found (list_of night k) cols)
      by true e = rw e (better k lent found cols h (cost_at k) refl e)
      by false e = rw e (worse k lent found cols h e)

  -- ---- the first least list

  abbrev pub first_least : ℕ
  first_least = first (list_count night) (is_least night)

  -- Whether no list costs less than list k, as a property.
  abbrev LeastList : ℕ → Type 0
  LeastList k = (j : ℕ) → j < list_count night → less (cost_at j) (cost_at k) ≡ false

  least_list : (k : ℕ) → is_least night k ≡ true → LeastList k
  unfolding is_least
  least_list k e = none_clear (list_count night) (λ j. less (cost_at j) (cost_at k)) (not-true _ e)

  list_least : (k : ℕ) → LeastList k → is_least night k ≡ true
  unfolding is_least
  list_least k h = ap not (clear_none (list_count night) (λ j. less (cost_at j) (cost_at k)) h)

  best_first : (t : ℤ) (cols : List ℕ) (b : Best (list_count night) (Some t) cols) → first_least ≡ b.place
  best_first t cols b =
      first-at (is_least night) (list_count night) b.place b.reach
      (list_least b.place (λ j l. subst (λ (f : Option ℤ). less (cost_at j) f ≡ false) b.costs (b.least j l)))
      (λ j l. not_true_false (λ e. true≢false (sym (over j l) ∙ least_list j e b.place b.reach)))
    where
      over : (j : ℕ) → j < b.place → less (cost_at b.place) (cost_at j) ≡ true
      over j l = subst (λ (f : Option ℤ). less f (cost_at j) ≡ true) b.costs (b.first j l)

  none_first : 0 < list_count night → ((j : ℕ) → j < list_count night → less (cost_at j) None ≡ false) → first_least ≡ 0
  none_first some none =
      first-at (is_least night) (list_count night) 0 some
      (list_least 0 (λ j l. subst (λ (f : Option ℤ). less (cost_at j) f ≡ false) (sym (less_nothing (cost_at 0) (none 0 some))) (none j l)))
      (λ j l. absurd (omega arith))

  -- After all lists the engine's answer is held.
  pub kept-found : 0 < list_count night → (lent : List ℕ) (found : Option ℤ) (cols : List ℕ) → Kept (list_count night) lent found cols
      → (found ≡ cost_of night (chosen night)) × (cols ≡ written found (chosen night) lent)
  unfolding chosen
  kept-found some lent None cols h =
      let e = none_first some h.0 in
      (sym (ap cost_at e ∙ less_nothing (cost_at 0) (h.0 0 some)), h.1)
  kept-found some lent (Some t) cols h =
      let e = best_first t cols h in
      (h.costs ∙ ap cost_at (sym e), h.columns ∙ ap (list_of night) (sym e))

  -- ---- what is answered

  -- The number of a list of columns.
  abbrev pub number_of : List ℕ → ℕ
  number_of cols = number night.column_count night.row_count cols

  -- Every pairing has its number: it is below the count, and its list is the pairing.
  pub pairing_number : (cols : List ℕ) → Pairing night cols → number_of cols < list_count night
  pairing_number cols p = number_below night.column_count night.row_count cols p.inside

  pub number_list : (cols : List ℕ) → Pairing night cols → list_of night (number_of cols) ≡ cols
  number_list cols p = digits_number night.column_count night.row_count cols p.size p.inside

  pairing_cost : (cols : List ℕ) → Pairing night cols → cost_of night cols ≡ Some (total night cols)
  pairing_cost cols p = cost_passed night cols (pairing_passes night cols p)

  number_cost : (cols : List ℕ) → Pairing night cols → cost_at (number_of cols) ≡ Some (total night cols)
  number_cost cols p = ap (cost_of night) (number_list cols p) ∙ pairing_cost cols p

  module _ (enough : night.row_count ≤ night.column_count) where
    pub some_list : 0 < list_count night
    some_list = positive night.column_count night.row_count enough

    -- A list that costs something is a pairing, and that is its total.
    cost_pairing : (k : ℕ) (t : ℤ) → cost_at k ≡ Some t → Pairing night (list_of night k) × (t ≡ total night (list_of night k))
    cost_pairing k t e = by (is_pairing night (list_of night k)) refl
      where
        by : (b : Bool) → is_pairing night (list_of night k) ≡ b → Pairing night (list_of night k) × (t ≡ total night (list_of night k))
        by true p = (
          passes_pairing night (list_of night k) (length_digits night.column_count night.row_count k)
              (λ i l. digits-below night.column_count night.row_count k (omega arith) i l) p,
          same-costs t (total night (list_of night k)) (sym e ∙ cost_passed night (list_of night k) p),
        )
        by false p = absurd (costs_nothing t (sym e ∙ cost_failed night (list_of night k) p))

    -- There is a first least list: the run over all lists ends with it.
    first_there : first_least < list_count night
    first_there = by run.0 run.1 ran
      where
        turn : ℕ → Option ℤ × List ℕ → Option ℤ × List ℕ
        turn k s = (kept_cost (cost_at k) s.0, kept_list (cost_at k) s.0 (list_of night k) s.1)

        run : Option ℤ × List ℕ
        run = upward 0 (list_count night) turn (None, [])

        ran : Kept (list_count night) [] run.0 run.1
        ran =
            upward_keeps (λ k s. Kept k [] s.0 s.1) 0 (list_count night) turn (None, []) (omega arith) (kept_none [])
            (λ k s l m h. kept_more k [] s.0 s.1 h)

        by : (found : Option ℤ) (cols : List ℕ) → Kept (list_count night) [] found cols → first_least < list_count night
        by None cols h = let e = none_first some_list h.0 in omega (arith, some_list)
        by (Some t) cols h = let e = best_first t cols h in omega (arith, h.reach)

    chosen_list : LeastList first_least
    chosen_list = least_list first_least (first_holds (is_least night) (list_count night) first_there)

    -- Where nothing is found there is no pairing;
    pub nothing_none : cost_of night (chosen night) ≡ None → (cols : List ℕ) → Pairing night cols → ⊥
    unfolding chosen
    nothing_none e cols p =
        let l = chosen_list (number_of cols) (pairing_number cols p) in
        let m : less (Some (total night cols)) None ≡ false = rw (number_cost cols p, e) at l in
        true≢false m

    -- what costs something is a least pairing, and that is its total;
    pub found-least : (t : ℤ) → cost_of night (chosen night) ≡ Some t → Least night (chosen night) × (t ≡ total night (chosen night))
    unfolding chosen
    found-least t e =
        let c = cost_pairing first_least t e in
        let same = c.1 in (
          record {
            pairing = c.0;
            least = λ other p.
                let l = chosen_list (number_of other) (pairing_number other p) in
                let m = not_less_totals (total night other) t (rw (number_cost other p, e) at l) in
                omega zarith;
          },
          same,
        )

    -- and where there is a pairing, one is found.
    pub pairing_found : (cols : List ℕ) → Pairing night cols → cost_of night (chosen night) ≡ Some (total night (chosen night))
    pairing_found cols p = by (cost_of night (chosen night)) refl
      where
        by : (found : Option ℤ) → cost_of night (chosen night) ≡ found → cost_of night (chosen night) ≡ Some (total night (chosen night))
        by None e = absurd (nothing_none e cols p)
        by (Some t) e = e ∙ ap Some (found-least t e).1

    pub chosen-least : (cols : List ℕ) → Pairing night cols → Least night (chosen night)
    chosen-least cols p = (found-least (total night (chosen night)) (pairing_found cols p)).0

    module _ (other : List ℕ) (o : Least night other) where
      -- Its total is that of any least pairing,
      pub chosen-same : total night (chosen night) ≡ total night other
      chosen-same =
          let a = (chosen-least other o.pairing).least other o.pairing in
          let b = o.least (chosen night) (chosen-least other o.pairing).pairing in
          omega zarith

      -- and none of them comes before it in dictionary order.
      pub chosen-first : Before night.row_count other (chosen night) → ⊥
      unfolding chosen
      chosen-first b =
          let p = o.pairing in
          let l : number_of other < number_of (list_of night first_least) =
          before_lower night.column_count night.row_count other (list_of night first_least) p.inside b in
          let n : number_of (list_of night first_least) ≡ first_least = number_digits night.column_count night.row_count first_least first_there in
          true≢false (sym (list_least (number_of other) none) ∙ first_before (is_least night) (list_count night) (number_of other) (omega arith))
        where
          none : LeastList (number_of other)
          none j l = by (cost_at j) refl
            where
              by : (found : Option ℤ) → cost_at j ≡ found → less (cost_at j) (cost_at (number_of other)) ≡ false
              by None e = rw e (nothing_never (cost_at (number_of other)))
              by (Some t) e =
                  let c = cost_pairing j t e in
                  let m : total night other ≤ℤ t = rw (sym c.1) at (o.least (list_of night j) c.0) in
                  rw (e, number_cost other o.pairing) (totals_not_less t (total night other) m)
