-- The price change at the end of a search: prices stay fair and never rise, free columns keep theirs, and each row that leads back sits at its
-- minimum on the column that it leads to. Assumes nothing.
use mathlib.Core.Path.{◌≡◌, refl, sym, ap, ◌∙◌, subst}
use mathlib.Core.Logic.{◌≢◌, inl, inr, ⊎_elim}
use mathlib.Core.Bool.{cond}
use mathlib.Core.List.{List}
use Prim.Native.Nat.{ℕ, suc, ◌≤◌, ◌<◌}
use native.Mathlib.Omega.{arith}
use lib.IntN.{ℤ, pos, ◌+ℤ◌, ◌-ℤ◌}
use lib.Signed.{◌≤ℤ◌, le_z, ≤ℤ_refl}
use lib.ListN.{length, length-set}
use lib.Seq.{get_or-set_same, get_or-set_other}
use Rattle.ints.proofs.Sums.{sum, dif}
use Rattle.ints.proofs.Ranges.{zarith}
use Rattle.lists.specs.Runs.{upward}
use Rattle.lists.specs.Permutations.{at, Permutation}
use Rattle.lists.proofs.Runs.{upward_keeps}
use Rattle.lists.proofs.Injections.{reached}
use Rattle.lists.proofs.Cases.{cond_cases, lt_or_le, below_suc}
use Rattle.assignment.specs.Pairings.{signed_at}
use Rattle.rules.specs.Lowest.{reduced}
use Rattle.rules.specs.Search.{Work, Found, add_distance, new_prices}
use Rattle.rules.specs.Asked.{AtMinimum, Fair}
use Rattle.rules.proofs.Potentials.{Settled, lowered, still_fair, start_minimum, step_minimum}
use Rattle.rules.proofs.Scan.{place, far, FromColumn}
use Rattle.rules.proofs.Search.{Ended}

-- ---- the lesser of two

lesser : ℤ → ℤ → ℤ
lesser a b = cond (le_z a b) a b

lesser-first : (a b : ℤ) → a ≤ℤ b → lesser a b ≡ a
unfolding lesser
lesser-first a b h = cond_cases (le_z a b) (λ z. z ≡ a) a b (λ e. refl) (λ e. omega zarith)

lesser_second : (a b : ℤ) → b ≤ℤ a → lesser a b ≡ b
unfolding lesser
lesser_second a b h = cond_cases (le_z a b) (λ z. z ≡ b) a b (λ e. omega zarith) (λ e. refl)

lesser_both : (a b : ℤ) → (lesser a b ≤ℤ a) × (lesser a b ≤ℤ b)
unfolding lesser
lesser_both a b = cond_cases (le_z a b) (λ z. (z ≤ℤ a) × (z ≤ℤ b)) a b (λ e. (≤ℤ_refl a, omega zarith)) (λ e. (omega zarith, ≤ℤ_refl b))

-- ---- the list of prices

module _ (n : ℕ) (d : List ℤ) (list : List ℕ) (P : Permutation n list) (μ : ℤ) (v : List ℤ) (size : length v ≡ n) where
  -- The first m columns of the list have had their distance less μ added.
  pub record Changed (m : ℕ) (x : List ℤ) : Type 0 where
    pub prices_size : length x ≡ n
    pub changed : (t : ℕ) → t < m → signed_at x (at list t) ≡ signed_at v (at list t) +ℤ (signed_at d (at list t) -ℤ μ)
    pub unchanged : (t : ℕ) → m ≤ t → t < n → signed_at x (at list t) ≡ signed_at v (at list t)

  pub changed_more : (m : ℕ) (x : List ℤ) → m < n → Changed m x → Changed (suc m) (add_distance d μ (at list m) x)
  changed_more m x l C =
      let j = at list m in
      let y = signed_at x j +ℤ (signed_at d j -ℤ μ) in
      let here : signed_at (add_distance d μ j x) j ≡ y = get_or-set_same x j y (pos 0) (omega (arith, C.prices_size, P.injective.below m l)) in
      let there : (t : ℕ) → t < n → t ≢ m → signed_at (add_distance d μ j x) (at list t) ≡ signed_at x (at list t) =
      λ t k f. get_or-set_other x j (at list t) y (pos 0) (λ e. f (P.injective.once t m k l e)) in
      record {
        prices_size = length-set x j y ∙ C.prices_size;
        changed = below_suc (λ t. signed_at (add_distance d μ j x) (at list t) ≡ signed_at v (at list t) +ℤ (signed_at d (at list t) -ℤ μ))
            (λ t k. there t (omega arith) (λ e. omega arith) ∙ C.changed t k)
            (here ∙ ap (λ z. z +ℤ (signed_at d j -ℤ μ)) (C.unchanged m (omega arith) l));
        unchanged = λ t a k. there t k (λ e. omega arith) ∙ C.unchanged t (omega arith) k;
      }

  pub changed_start : Changed 0 v
  changed_start = record { prices_size = size; changed = λ t k. absurd (omega arith); unchanged = λ t a k. refl }

  changed_after : (m : ℕ) → m ≤ n → Changed m (upward 0 m (λ k. add_distance d μ (at list k)) v)
  changed_after m h = upward_keeps Changed 0 m (λ k. add_distance d μ (at list k)) v (omega arith) changed_start (λ k x a l C. changed_more k x (omega arith) C)

-- ---- after a search

module _ (n : ℕ) (cost : ℕ → ℕ → ℤ) (v : List ℤ) (row : ℕ → ℕ) (s : ℕ) (floor : ℤ) (size : length v ≡ n) (F : Fair n cost (signed_at v) row)
    (f : Found) (μ : ℤ) (E : Ended n cost (signed_at v) row s floor f μ) where
  abbrev w : Work
  w = f.work

  abbrev v' : List ℤ
  v' = new_prices f v

  -- A column's distance, cut at μ.
  abbrev e : ℕ → ℤ
  e k = lesser (far w k) μ

  -- A column's place.
  where_is : (k : ℕ) → k < n → (t : ℕ) × (t < n) × (place w t ≡ k)
  where_is k l = reached E.sound.permutation.injective k l

  changed_ready : Changed n w.distances w.list E.sound.permutation μ v size f.ready v'
  unfolding new_prices
  changed_ready =
      let z : signed_at w.distances (at w.list f.cursor.lo) ≡ μ = ap (λ (t : ℕ). far w (place w t)) E.cursor_kept ∙ E.is_minimum in
      subst (λ (x : ℤ). Changed n w.distances w.list E.sound.permutation μ v size f.ready (upward 0 f.ready (λ k. add_distance w.distances x (at w.list k)) v)) (sym z)
      (changed_after n w.distances w.list E.sound.permutation μ v size f.ready (omega (arith, E.ready_below)))

  settled : Settled n cost (signed_at v) row s e μ
  settled = record {
    from_start = λ k l. omega (zarith, (lesser_both (far w k) μ).0, E.sound.from_start k l);
    relaxed = λ j k lj lk h. let P = where_is j lj in
        subst (λ (x : ℕ). row x < n → (e k +ℤ reduced cost (signed_at v) (row x) x) ≤ℤ (e x +ℤ reduced cost (signed_at v) (row x) k)) P.2
        (elim (lt_or_le P.0 f.ready) [ inl a ↦ λ g. near P.0 k a lk | inr a ↦ beyond P.0 k a P.1 lk ]) h;
  }
    where
      near : (t k : ℕ) → t < f.ready → k < n
          → (e k +ℤ reduced cost (signed_at v) (row (place w t)) (place w t)) ≤ℤ (e (place w t) +ℤ reduced cost (signed_at v) (row (place w t)) k)
      near t k a l =
          let A = reduced cost (signed_at v) (row (place w t)) (place w t) in
          let B = reduced cost (signed_at v) (row (place w t)) k in
          omega (
            zarith,
            (lesser_both (far w k) μ).0,
            lesser-first (far w (place w t)) μ (E.low t a),
            E.relaxed t a k l,
            sum (e k) A,
            sum (far w k) A,
            sum (e (place w t)) B,
            sum (far w (place w t)) B,
          )

      beyond : (t k : ℕ) → f.ready ≤ t → t < n → k < n → row (place w t) < n
          → (e k +ℤ reduced cost (signed_at v) (row (place w t)) (place w t)) ≤ℤ (e (place w t) +ℤ reduced cost (signed_at v) (row (place w t)) k)
      beyond t k a m l h =
          let A = reduced cost (signed_at v) (row (place w t)) (place w t) in
          let B = reduced cost (signed_at v) (row (place w t)) k in
          let no_less : A ≤ℤ B = (F.paired_at_minimum (place w t) (E.sound.permutation.injective.below t m) h).no_less k l in
          omega (zarith, (lesser_both (far w k) μ).1, lesser_second (far w (place w t)) μ (E.high t a m), sum (e k) A, sum (e (place w t)) B)

  -- The list has the lowered prices.
  new_price : (k : ℕ) → k < n → signed_at v' k ≡ lowered n cost (signed_at v) e μ k
  new_price k l = let P = where_is k l in subst (λ (x : ℕ). signed_at v' x ≡ lowered n cost (signed_at v) e μ x) P.2 (elim (lt_or_le P.0 f.ready) [
    | inl a ↦ changed_ready.changed P.0 a
        ∙ ap (λ z. signed_at v (place w P.0) +ℤ (z -ℤ μ)) (sym (lesser-first (far w (place w P.0)) μ (E.low P.0 a)))
    | inr a ↦ let x = place w P.0 in
        changed_ready.unchanged P.0 a P.1
        ∙ omega (zarith, lesser_second (far w x) μ (E.high P.0 a P.1), dif (e x) μ, sum (signed_at v x) (e x -ℤ μ))
  ])

  -- At the minimum with the lowered prices, so with the list's.
  to_list : (i k : ℕ) → k < n → AtMinimum n cost (lowered n cost (signed_at v) e μ) i k → AtMinimum n cost (signed_at v') i k
  to_list i k l M = record {
    no_less = λ x m. subst (λ z. (cost i k -ℤ z) ≤ℤ (cost i x -ℤ signed_at v' x)) (sym (new_price k l))
        (subst (λ z. (cost i k -ℤ lowered n cost (signed_at v) e μ k) ≤ℤ (cost i x -ℤ z)) (sym (new_price x m)) (M.no_less x m));
  }

  pub new_size : length v' ≡ n
  new_size = changed_ready.prices_size

  pub new_fair : Fair n cost (signed_at v') row
  new_fair = record { paired_at_minimum = λ j l h. to_list (row j) j l ((still_fair n cost (signed_at v) row s e μ settled).paired_at_minimum j l h) }

  pub new_falls : (k : ℕ) → k < n → signed_at v' k ≤ℤ signed_at v k
  new_falls k l = omega (zarith, new_price k l, (lesser_both (far w k) μ).1, dif (e k) μ, sum (signed_at v k) (e k -ℤ μ))

  -- Columns at μ or farther keep their price, and a free column lies there.
  new_same : (k : ℕ) → k < n → μ ≤ℤ far w k → signed_at v' k ≡ signed_at v k
  new_same k l h = omega (zarith, new_price k l, lesser_second (far w k) μ h, dif (e k) μ, sum (signed_at v k) (e k -ℤ μ))

  pub free-same : (k : ℕ) → k < n → n ≤ row k → signed_at v' k ≡ signed_at v k
  free-same k l h = let P = where_is k l in elim (lt_or_le P.0 f.ready) [
    | inl a ↦ absurd (omega (arith, E.paired P.0 a, ap row P.2))
    | inr a ↦ new_same k l (subst (λ (x : ℕ). μ ≤ℤ far w x) P.2 (E.high P.0 a P.1))
  ]

  -- A column that lies at μ or nearer: the row that leads to it sits at its minimum there.
  pub leads_minimum : (k : ℕ) → k < n → far w k ≤ℤ μ → AtMinimum n cost (signed_at v') (at w.predecessors k) k
  leads_minimum k l h = let P = where_is k l in
      to_list (at w.predecessors k) k l
      (subst (λ (x : ℕ). far w x ≤ℤ μ → AtMinimum n cost (lowered n cost (signed_at v) e μ) (at w.predecessors x) x) P.2 (go P.0 P.1) h)
    where
      go : (t : ℕ) → t < n → far w (place w t) ≤ℤ μ → AtMinimum n cost (lowered n cost (signed_at v) e μ) (at w.predecessors (place w t)) (place w t)
      go t m h = ⊎_elim
          (λ a. subst (λ (i : ℕ). AtMinimum n cost (lowered n cost (signed_at v) e μ) i (place w t)) (sym a.leads)
          (start_minimum n cost (signed_at v) row s e μ settled (place w t) (E.sound.permutation.injective.below t m) (lesser-first (far w (place w t)) μ h ∙ a.exact)))
          (λ (a : (u : ℕ) × (u < t) × ((row (place w u) < n) × (far w (place w u) ≤ℤ μ)) × FromColumn n cost (signed_at v) row s floor w (place w u) (place w t)).
          let x = place w a.0 in
          let lx : x < n = E.sound.permutation.injective.below a.0 (omega (arith, a.1)) in
          subst (λ (i : ℕ). AtMinimum n cost (lowered n cost (signed_at v) e μ) i (place w t)) (sym a.3.leads)
          (step_minimum n cost (signed_at v) row s e μ settled x (place w t) lx (E.sound.permutation.injective.below t m) a.2.0
          (ap (λ z. z +ℤ reduced cost (signed_at v) (row x) x) (lesser-first (far w (place w t)) μ h) ∙ a.3.exact
          ∙ ap (λ z. z +ℤ reduced cost (signed_at v) (row x) (place w t)) (sym (lesser-first (far w x) μ a.2.1)))))
          (E.root t m)
