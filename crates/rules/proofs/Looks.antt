-- Rule 4, one look: what is chosen lowers a price as a step may, and the free rows stay listed when a row takes a column. Assumes nothing.
use mathlib.Core.Path.{◌≡◌, refl, sym, ap, ◌∙◌}
use mathlib.Core.Logic.{◌≢◌, ◌⊎◌, inl, inr, ⊎_elim}
use mathlib.Core.Bool.{Bool, true, false, cond, true≢false}
use mathlib.Core.List.{List}
use Prim.Native.Nat.{ℕ, ◌≤◌, ◌<◌}
use native.Mathlib.Decide.{ℕ_discrete}
use native.Mathlib.Omega.{arith}
use lib.Dec.{ltb}
use lib.IntN.{ℤ, ◌-ℤ◌}
use lib.Signed.{lt_z, ≤ℤ_refl}
use lib.ListN.{length, set}
use lib.Seq.{get_or-set_same, get_or-set_other}
use Rattle.ints.proofs.Sums.{dif}
use Rattle.ints.proofs.Shapes.{zlin}
use Rattle.lists.specs.Permutations.{at}
use Rattle.lists.proofs.Cases.{cond_cases, here_or_elsewhere}
use Rattle.assignment.specs.Pairings.{signed_at}
use Rattle.rules.specs.declared.Low.{Low}
use Rattle.rules.specs.declared.TwoLowest.{TwoLowest}
use Rattle.rules.specs.declared.TwoLowest.TheVariants.{One, Two}
use Rattle.rules.specs.declared.Choice.{Choice}
use Rattle.rules.specs.Lowest.{reduced}
use Rattle.rules.specs.Columns.{Pairs}
use Rattle.rules.specs.Rows.{keep_price, lower_price, choose, take_column}
use Rattle.rules.specs.Asked.{Paired, Unpaired, Agree}
use Rattle.rules.proofs.Lowest.{AreLowest, RightTwo}
use Rattle.rules.proofs.Pairs.{kept_col, took_row, kept_row, taken-paired}
use Rattle.rules.proofs.Lowering.{Lowers}
use Rattle.rules.proofs.Kept.{Listed}

-- ---- the choice

module _ (n : ℕ) (cost : ℕ → ℕ → ℤ) (one : 1 ≤ n) (v : List ℤ) (rows : List ℕ) (i : ℕ) where
  -- What is chosen lowers a price as a step may; and only an early look sends a row back.
  pub record Fits (early : Bool) (w : Choice) : Type 0 where
    pub lowers : Lowers n cost (signed_at v) i w.column w.price
    pub back_early : w.back ≡ true → early ≡ true

  not_back : {A : Type 0} → false ≡ true → A
  not_back e = absurd (true≢false (sym e))

  module _ (a b : Low) (r : AreLowest (reduced cost (signed_at v) i) n a b) where
    lowered : Lowers n cost (signed_at v) i a.place (signed_at v a.place -ℤ (b.value -ℤ a.value))
    lowered =
        let j = a.place in
        let x = signed_at v j in
        record {
          column_below = r.first_inside;
          not_raised = omega (zlin, r.order, dif b.value a.value);
          at_minimum = λ k l d. omega (zlin, r.no_lower_but k l d, r.first_is, dif b.value a.value, dif x (b.value -ℤ a.value));
          source = inr (
            b.place,
            r.second_inside,
            (λ e. r.apart (sym e)),
            omega (zlin, r.second_is, r.first_is, dif b.value a.value, dif x (b.value -ℤ a.value)),
          );
        }

    lowest-kept : Lowers n cost (signed_at v) i a.place (signed_at v a.place)
    lowest-kept = record {
      column_below = r.first_inside;
      not_raised = ≤ℤ_refl (signed_at v a.place);
      at_minimum = λ k l d. omega (zlin, r.no_lower k l, r.first_is);
      source = inl refl;
    }

    second_kept : lt_z a.value b.value ≡ false → Lowers n cost (signed_at v) i b.place (signed_at v b.place)
    second_kept t = record {
      column_below = r.second_inside;
      not_raised = ≤ℤ_refl (signed_at v b.place);
      at_minimum = λ k l d. omega (zlin, r.no_lower k l, r.second_is);
      source = inl refl;
    }

  pub choose_fits : (early : Bool) (t : TwoLowest) → RightTwo (reduced cost (signed_at v) i) n t → Fits early (choose n early v rows t)
  choose_fits early (One a) r =
      let z : a.place ≡ 0 = ap (λ (x : Low). x.place) r.1 in
      record {
        lowers = record {
          column_below = omega arith;
          not_raised = ≤ℤ_refl (signed_at v a.place);
          at_minimum = λ k l d. absurd (d (omega (arith, r.0)));
          source = inl refl;
        };
        back_early = not_back;
      }
  choose_fits early (Two a b) r =
      let j = cond (ltb (at rows a.place) n) b.place a.place in
      cond_cases early (Fits early) (cond (lt_z a.value b.value) (lower_price v a.place a.value b.value) (keep_price v j)) (keep_price v a.place)
      (λ e. cond_cases (lt_z a.value b.value) (Fits early) (lower_price v a.place a.value b.value) (keep_price v j)
      (λ t. record { lowers = lowered a b r; back_early = λ z. e })
      (λ t. cond_cases (ltb (at rows a.place) n) (λ k. Fits early (keep_price v k)) b.place a.place
      (λ u. record { lowers = second_kept a b r t; back_early = not_back })
      (λ u. record { lowers = lowest-kept a b r; back_early = not_back })))
      (λ e. record { lowers = lowest-kept a b r; back_early = not_back })

-- ---- the row at place s of the list takes column j

module _ (n : ℕ) (p : Pairs) (A : Agree n p) (frees : List ℕ) (In : ℕ → Type 0) (L : Listed n p frees In) (s : ℕ) (is : In s) (j : ℕ) (lj : j < n) where
  abbrev i : ℕ
  i = at frees s

  abbrev q : Pairs
  q = take_column p i j

  li : i < n
  li = L.row_below s is

  kc : (x : ℕ) → x ≢ i → at q.cols x ≡ at p.cols x
  kc = kept_col n p A.cols_size A.rows_size i j li lj

  tr : at q.rows j ≡ i
  tr = took_row n p A.cols_size A.rows_size i j li lj

  kr : (k : ℕ) → k ≢ j → at q.rows k ≡ at p.rows k
  kr = kept_row n p A.cols_size A.rows_size i j li lj

  taker : Paired q i
  taker = taken-paired n p A.cols_size A.rows_size i j li lj

  -- A row that had a column has it still, or had j.
  others : (x : ℕ) → x ≢ i → Paired p x → Paired q x ⊎ (x ≡ at p.rows j)
  others x d m = elim (ℕ_discrete (at p.cols x) j) [
    | yes e ↦ inr (sym m ∙ ap (at p.rows) e)
    | no f ↦ inl (ap (at q.rows) (kc x d) ∙ kr (at p.cols x) f ∙ m)
  ]

  -- The rows at the other places have no column still.
  still_unpaired : (t : ℕ) → In t → t ≢ s → Unpaired n q (at frees t)
  still_unpaired t it d = here_or_elsewhere (λ k. k < n → at q.rows k ≢ at frees t) j
      (λ l e. d (sym (L.once s t is it (sym tr ∙ e))))
      (λ k f l e. L.unpaired t it k l (sym (kr k f) ∙ e))

  -- Column j was free: the place s leaves the list.
  pub listed_free : n ≤ at p.rows j → (In' : ℕ → Type 0) → ((t : ℕ) → In' t → In t × (t ≢ s)) → ((t : ℕ) → In t → t ≢ s → In' t) → Listed n q frees In'
  listed_free h In' out into = record {
    row_below = λ t a. L.row_below t (out t a).0;
    unpaired = λ t a. still_unpaired t (out t a).0 (out t a).1;
    once = λ t u a b e. L.once t u (out t a).0 (out u b).0 e;
    paired_or_listed = here_or_elsewhere (λ x. x < n → Paired q x ⊎ ((t : ℕ) × In' t × (at frees t ≡ x))) i (λ l. inl taker)
        (λ x d l. ⊎_elim (λ m. ⊎_elim (λ y. inl y) (λ y. absurd (omega arith)) (others x d m))
        (λ (y : (t : ℕ) × In t × (at frees t ≡ x)). inr (y.0, into y.0 y.1 (λ e. d (sym y.2 ∙ ap (at frees) e)), y.2)) (L.paired_or_listed x l));
  }

  -- A row held column j: it is listed at place r.
  pub listed_displaced : at p.rows j < n → (r : ℕ) → r < length frees → (In' : ℕ → Type 0) → In' r → ((t : ℕ) → In' t → t ≢ r → In t × (t ≢ s))
      → ((t : ℕ) → In t → t ≢ s → In' t × (t ≢ r)) → Listed n q (set frees r (at p.rows j)) In'
  listed_displaced lh r lr In' ir out into = record {
    row_below = here_or_elsewhere (λ t. In' t → at new t < n) r (λ a. omega (arith, here)) (λ t d a. omega (arith, there t d, L.row_below t (out t a d).0));
    unpaired = here_or_elsewhere (λ t. In' t → Unpaired n q (at new t)) r
        (λ a. here_or_elsewhere (λ k. k < n → at q.rows k ≢ at new r) j
        (λ l e. L.unpaired s is j lj (sym here ∙ sym e ∙ tr))
        (λ k d l e.
        let z : at p.rows k ≡ at p.rows j = sym (kr k d) ∙ e ∙ here in
        d (sym (A.named_back k l (omega arith)) ∙ ap (at p.cols) z ∙ A.named_back j lj lh)))
        (λ t d a k l e. still_unpaired t (out t a d).0 (out t a d).1 k l (e ∙ there t d));
    once = λ t u a b e. elim (ℕ_discrete t r) [
      | yes y ↦ elim (ℕ_discrete u r) [
        | yes y' ↦ omega arith
        | no d ↦ absurd (L.unpaired u (out u b d).0 j lj (sym here ∙ ap (at new) (sym y) ∙ e ∙ there u d))
      ]
      | no d ↦ elim (ℕ_discrete u r) [
        | yes y ↦ absurd (L.unpaired t (out t a d).0 j lj (sym here ∙ ap (at new) (sym y) ∙ sym e ∙ there t d))
        | no d' ↦ L.once t u (out t a d).0 (out u b d').0 (sym (there t d) ∙ e ∙ there u d')
      ]
    ];
    paired_or_listed = here_or_elsewhere (λ x. x < n → Paired q x ⊎ ((t : ℕ) × In' t × (at new t ≡ x))) i (λ l. inl taker)
        (λ x d l. ⊎_elim (λ m. ⊎_elim (λ y. inl y) (λ y. inr (r, ir, here ∙ sym y)) (others x d m))
        (λ (y : (t : ℕ) × In t × (at frees t ≡ x)).
        let z = into y.0 y.1 (λ e. d (sym y.2 ∙ ap (at frees) e)) in inr (y.0, z.0, there y.0 z.1 ∙ y.2)) (L.paired_or_listed x l));
  }
    where
      new : List ℕ
      new = set frees r (at p.rows j)

      here : at (set frees r (at p.rows j)) r ≡ at p.rows j
      here = get_or-set_same frees r (at p.rows j) 0 lr

      there : (t : ℕ) → t ≢ r → at (set frees r (at p.rows j)) t ≡ at frees t
      there t d = get_or-set_other frees r t (at p.rows j) 0 d
