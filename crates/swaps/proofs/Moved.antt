-- Where the walk is closed, the pairing in which its rows have moved is another least one. Assumes nothing.
use mathlib.Core.Path.{◌≡◌, refl, sym, ap, ◌∙◌, subst}
use mathlib.Core.Bool.{Bool, true, false, cond, true≢false}
use mathlib.Core.Logic.{◌⊎◌, inl, inr, ⊎_elim}
use mathlib.Core.List.{List}
use Prim.Native.Nat.{ℕ, ◌<◌}
use native.Mathlib.Decide.{dec_lt}
use native.Mathlib.Omega.{arith}
use lib.IntN.{ℤ}
use lib.Signed.{◌≤ℤ◌}
use Rattle.ints.proofs.Ranges.{zarith}
use Rattle.lists.specs.Permutations.{at}
use Rattle.lists.proofs.Tables.{length-table, get_d_table}
use Rattle.lists.proofs.Injections.{source_of}
use Rattle.assignment.specs.Pairings.{Night, Pairing, Spare, signed_at}
use Rattle.assignment.specs.Prices.{priced, Feasible, Tight, SparesNotBelow}
use Rattle.assignment.proofs.Pairings.{pairing_injective}
use Rattle.assignment.proofs.Duality.{prices_least}
use Rattle.swaps.specs.Walks.{Closed, place, on_closed, choice}
use Rattle.swaps.specs.Second.{Another, nodes, behind, dearest, way, moved}
use Rattle.swaps.proofs.Walks.{IsClosed}
use Rattle.swaps.proofs.Closed.{In, in_next, in_before, in_first, in_below, in_apart, closed_true, closed_make}
use Rattle.swaps.proofs.Ways.{rows_nodes, dearest_ok, behind_row, behind_spare, RowWay, row_read, spare_read}

module _ (night : Night) (us vs : List ℤ) (fair : Feasible night us vs) (cols : List ℕ) (p : Pairing night cols) (tight : Tight night us vs cols)
    (spares : SparesNotBelow night vs cols) where
  abbrev m : ℕ
  m = night.row_count

  abbrev n : ℕ
  n = night.column_count

  abbrev N : ℕ
  N = nodes night

  abbrev go : ℕ → ℕ → ℕ
  go = way night us vs cols

  abbrev own : ℕ → ℕ
  own j = behind night cols j

  abbrev top : ℤ
  top = dearest night vs cols

  behind-used : (i : ℕ) → i < m → own (at cols i) ≡ i
  behind-used i l = source_of (pairing_injective night cols p) i l

  -- No used column's price is above the highest, and no spare one's below it.
  pub used_top : (i : ℕ) → i < m → signed_at vs (at cols i) ≤ℤ top
  used_top i l = (dearest_ok night us vs cols (omega arith)).0 i l

  pub spare_top : 0 < m → (j : ℕ) → j < n → Spare night cols j → top ≤ℤ signed_at vs j
  spare_top h j l s = let d = (dearest_ok night us vs cols h).1 in omega (zarith, d.2, spares.not_below d.0 j d.1 l s)

  module _ (z : Closed) (c : IsClosed N n go z) where
    abbrev chosen : ℕ → ℕ
    chosen i = choice N n go z.walk i

    abbrev after : List ℕ
    after = moved night us vs cols z

    abbrev Inside : ℕ → Type 0
    Inside x = In N n go z c x

    -- A row of the walk moves, another stays.
    abbrev Cases : ℕ → Type 0
    Cases i = (Inside i × (at after i ≡ chosen i)) ⊎ ((Inside i → ⊥) × (at after i ≡ at cols i))

    cases : (i : ℕ) → i < m → Cases i
    cases i l = by (on_closed z i) refl (get_d_table m (λ k. cond (on_closed z k) (chosen k) (at cols k)) 0 i l)
      where
        by : (t : Bool) → on_closed z i ≡ t → at after i ≡ cond t (chosen i) (at cols i) → Cases i
        by true e q = inl (closed_true N n go z c i e, q)
        by false e q = inr (λ k. true≢false (sym (closed_make N n go z c i k) ∙ e), q)

    -- What is known of a row of the walk.
    record Step (i : ℕ) : Type 0 where
      below : chosen i < n
      row_way : RowWay night us vs cols i (chosen i)
      next_inside : Inside (own (chosen i))

    step : (i : ℕ) → i < m → Inside i → Step i
    step i l k =
        let g = in_next N n go z c i k in
        let r = row_read night us vs cols i (chosen i) l (in_below N n go z c (go i (chosen i)) g.1) in
        record { below = g.0.below; row_way = r; next_inside = subst Inside r.leads g.1 }

    -- ---- a pairing

    -- A row that moves takes no column of a row that stays.
    clash : (i k : ℕ) → i < m → k < m → Inside i → (Inside k → ⊥) → chosen i ≡ at cols k → ⊥
    clash i k li lk a b e = b (subst Inside (ap own e ∙ behind-used k lk) (step i li a).next_inside)

    apart : (i k : ℕ) → i < m → k < m → at after i ≡ at after k → i ≡ k
    apart i k li lk e =
        elim (cases i li) [
          | inl a ↦
              elim (cases k lk) [
                | inl b ↦
                    let q : chosen i ≡ chosen k = sym a.1 ∙ e ∙ b.1 in
                    in_apart N n go z c i k a.0 b.0 ((step i li a.0).row_way.leads ∙ ap own q ∙ sym (step k lk b.0).row_way.leads)
                | inr b ↦ absurd (clash i k li lk a.0 b.0 (sym a.1 ∙ e ∙ b.1))
              ]
          | inr a ↦
              elim (cases k lk) [
                | inl b ↦ absurd (clash k i lk li b.0 a.0 (sym b.1 ∙ sym e ∙ a.1))
                | inr b ↦ p.apart i k li lk (sym a.1 ∙ e ∙ b.1)
              ]
        ]

    moved_pairing : Pairing night after
    moved_pairing = record {
      size = length-table m (λ i. cond (on_closed z i) (chosen i) (at cols i));
      inside = λ i l. ⊎_elim (λ a. omega (arith, (step i l a.0).below)) (λ a. omega (arith, p.inside i l)) (cases i l);
      apart = apart;
      permitted = λ i l. ⊎_elim (λ a. ap (night.allowed i) a.1 ∙ (step i l a.0).row_way.permitted)
          (λ a. ap (night.allowed i) a.1 ∙ p.permitted i l) (cases i l);
    }

    -- ---- the prices show that it is least

    moved_tight : Tight night us vs after
    moved_tight = record {
      met = λ i l. elim (cases i l) [
        | inl a ↦
            let s = step i l a.0 in
            let e : priced us vs i (chosen i) ≡ night.cost i (chosen i) =
            omega (zarith, s.row_way.level, fair.under i (chosen i) l s.below s.row_way.permitted) in
            rw a.1 e
        | inr a ↦ rw a.1 (tight.met i l)
      ];
    }

    moved_top : (i : ℕ) → i < m → signed_at vs (at after i) ≤ℤ top
    moved_top i l =
        elim (cases i l) [
          | inl a ↦ rw a.1
              (⊎_elim (λ h. rw (behind_row night us vs cols (chosen i) h) at (used_top (own (chosen i)) h)) (λ h. h) (step i l a.0).row_way.not_above)
          | inr a ↦ rw a.1 (used_top i l)
        ]

    -- A column that is spare after the moves and was used before was left for a spare one: its price is the highest.
    moved_spare : 0 < m → (j : ℕ) → j < n → Spare night after j → top ≤ℤ signed_at vs j
    moved_spare h j l s = by (dec_lt (own j) m)
      where
        taken : own j < m → (x : ℕ) × Inside x × (go x (chosen x) ≡ own j) → top ≤ℤ signed_at vs j
        taken d (x, k, e) =
            elim (dec_lt x m) [
              | yes hx ↦
                  let r = (step x hx k).row_way in
                  let q : own (chosen x) ≡ own j = sym r.leads ∙ e in
                  let t : chosen x ≡ j =
                  sym (behind_row night us vs cols (chosen x) (omega arith)) ∙ ap (at cols) q ∙ behind_row night us vs cols j d in
                  absurd (⊎_elim (λ b. s x hx (b.1 ∙ t)) (λ b. b.0 k) (cases x hx))
              | no hx ↦
                  let r = spare_read night us vs cols x (chosen x) (omega arith) (omega (arith, e, rows_nodes night)) in
                  let q : at cols (chosen x) ≡ j = ap (at cols) (sym r.0 ∙ e) ∙ behind_row night us vs cols j d in
                  rw q at r.2
            ]

        by : Dec (own j < m) → top ≤ℤ signed_at vs j
        by (no d) = spare_top h j l (behind_spare night us vs cols j (omega arith))
        by (yes d) =
            ⊎_elim (λ a. taken d (in_before N n go z c (own j) a.0)) (λ a. absurd (s (own j) d (a.1 ∙ behind_row night us vs cols j d))) (cases (own j) d)

    moved_spares : SparesNotBelow night vs after
    moved_spares = record { not_below = λ i j hi hj s. omega (zarith, moved_top i hi, moved_spare (omega arith) j hj s) }

    -- ---- and it is another

    a_row : (i : ℕ) × (i < m) × Inside i
    a_row = by (dec_lt x m)
      where
        x : ℕ
        x = place z.walk z.from

        by : Dec (x < m) → (i : ℕ) × (i < m) × Inside i
        by (yes h) = (x, h, in_first N n go z c)
        by (no h) =
            let g = in_next N n go z c x (in_first N n go z c) in
            let r = spare_read night us vs cols x (chosen x) (omega arith) (in_below N n go z c (go x (chosen x)) g.1) in
            (chosen x, r.1, subst Inside r.0 g.1)

    off : (i : ℕ) → i < m → Inside i → at after i ≡ at cols i → ⊥
    off i l k e =
        ⊎_elim (λ a. (step i l k).row_way.other (ap own (sym a.1 ∙ e) ∙ behind-used i l)) (λ a. a.0 k) (cases i l)

    pub moved_another : Another night cols after
    moved_another = record {
      pairing = moved_pairing;
      same = omega (
        zarith,
        (prices_least night us vs fair cols p tight spares).least after moved_pairing,
        (prices_least night us vs fair after moved_pairing moved_tight moved_spares).least cols p,
      );
      differs = λ e. let a = a_row in off a.0 a.1 a.2 (ap (λ (l : List ℕ). at l a.0) e);
    }
