-- The second pairing: where one is given it is another pairing with the same total, and "only one" is given exactly if there is no other. For any
-- night. Assumes nothing.
use mathlib.Core.Path.{◌≡◌, refl, sym, ap, ◌∙◌, subst}
use mathlib.Core.Bool.{Bool, not, true≢false}
use mathlib.Core.Logic.{◌≢◌, ◌↔◌, inl, inr, ⊎_elim}
use mathlib.Core.List.{List}
use Prim.Native.Nat.{ℕ, ◌≤◌, ◌<◌}
use native.Mathlib.Decide.{ℕ_discrete, dec_lt}
use native.Mathlib.Omega.{arith}
use lib.Dec.{ltb, eqb}
use lib.IntN.{ℤ}
use lib.Signed.{◌≤ℤ◌}
use lib.Seq.{ext_get_or}
use borrow.Author.Tests.{ltb-true, eqb-true, not-true, not-false, lt-ltb}
use Rattle.ints.proofs.Ranges.{zarith}
use Rattle.lists.specs.Runs.{Turn, on, left, first}
use Rattle.lists.specs.Permutations.{at, Injective}
use Rattle.lists.proofs.Runs.{first_le, first_holds, first_before}
use Rattle.lists.proofs.Leaving.{Either, goes_on, is_left_lem}
use Rattle.lists.proofs.Injections.{source, source_of, Reached, reached, reached_or_not, injective_fewer, pigeonhole}
use Rattle.assignment.specs.Pairings.{Night, Pairing, total, Least, Spare, signed_at}
use Rattle.assignment.specs.Prices.{Feasible, Tight, SparesNotBelow}
use Rattle.assignment.proofs.Pairings.{pairing_injective}
use Rattle.assignment.proofs.Duality.{prices_least, least_tight, least_spares}
use Rattle.swaps.specs.Walks.{Walk, Closed, walk}
use Rattle.swaps.specs.Second.{Answer, only, also, Another, Right, nodes, behind, way, answer, second}
use Rattle.swaps.proofs.Walks.{IsClosed}
use Rattle.swaps.proofs.Turns.{walk_ok}
use Rattle.swaps.proofs.Ways.{rows_nodes, spare_node, behind_le, behind_row, behind_spare, row_make, spare_make}
use Rattle.swaps.proofs.Moved.{used_top, spare_top, moved_another}

-- Of two injections, where g reaches something that f does not, f reaches something that g does not.
unreached : {m n : ℕ} {f g : ℕ → ℕ} → Injective m n f → Injective m n g → (x : ℕ) → x < m → ((i : ℕ) → i < m → f i ≢ g x)
    → (y : ℕ) × (y < m) × ((i : ℕ) → i < m → g i ≢ f y)
unreached {m} {n} {f} {g} p q x hx none = by (dec_lt lost m)
  where
    -- from where g reaches what f sends y to
    h : ℕ → ℕ
    h y = source g m (f y)

    test : ℕ → Bool
    test y = not (ltb (h y) m)

    lost : ℕ
    lost = first m test

    out : lost < m → Reached g m (f lost) → ⊥
    out l (i, a, e) =
        let s : h lost ≡ i = ap (source g m) (sym e) ∙ source_of q i a in
        true≢false (sym (lt-ltb (h lost) m (omega arith)) ∙ not-true (ltb (h lost) m) (first_holds test m l))

    below : (lost < m → ⊥) → (y : ℕ) → y < m → h y < m
    below l y a = ltb-true (h y) m (not-false (ltb (h y) m) (first_before test m y (omega (arith, first_le test m))))

    at_h : (lost < m → ⊥) → (y : ℕ) → y < m → g (h y) ≡ f y
    at_h l y a = eqb-true (g (h y)) (f y) (first_holds (λ i. eqb (g i) (f y)) m (below l y a))

    by : Dec (lost < m) → (y : ℕ) × (y < m) × ((i : ℕ) → i < m → g i ≢ f y)
    by (yes l) = (lost, l, ⊎_elim (λ r. absurd (out l r)) (λ u. u) (reached_or_not g m (f lost)))
    by (no l) =
        let i : Injective m m h = record { below = below l; once = λ y b ly lb e. p.once y b ly lb (sym (at_h l y ly) ∙ ap g e ∙ at_h l b lb) } in
        let r = reached i x hx in
        absurd (none r.0 r.1 (sym (at_h l r.0 r.1) ∙ ap g r.2))

module _ (night : Night) (us vs : List ℤ) (fair : Feasible night us vs) (cols : List ℕ) (p : Pairing night cols) (tight : Tight night us vs cols)
    (spares : SparesNotBelow night vs cols) where
  abbrev m : ℕ
  m = night.row_count

  abbrev n : ℕ
  n = night.column_count

  abbrev N : ℕ
  N = nodes night

  abbrev go : ℕ → ℕ → ℕ
  go = way night us vs cols

  abbrev own : ℕ → ℕ
  own j = behind night cols j

  -- ---- another pairing with the same total, where all nodes are done

  module _ (other : List ℕ) (q : Pairing night other) (same : total night other ≡ total night cols) where
    least_other : Least night other
    least_other = record { pairing = q; least = λ o r. omega (zarith, (prices_least night us vs fair cols p tight spares).least o r) }

    tight_other : Tight night us vs other
    tight_other = least_tight night us vs fair cols p tight spares other least_other

    spares_other : SparesNotBelow night vs other
    spares_other = least_spares night us vs fair cols p tight spares other least_other

    -- Where the other uses a spare column, it leaves a used one, whose price is not lower.
    lost : (x : ℕ) → x < m → m ≤ own (at other x)
        → (y : ℕ) × (y < m) × Spare night other (at cols y) × (signed_at vs (at other x) ≤ℤ signed_at vs (at cols y))
    lost x h s =
        let u = unreached (pairing_injective night cols p) (pairing_injective night other q) x h (behind_spare night us vs cols (at other x) s) in
        (u.0, u.1, u.2, spares_other.not_below x (at cols u.0) h (p.inside u.0 u.1) u.2)

    -- A row has its column; the spare columns are spare.
    abbrev Kept : ℕ → Type 0
    Kept x = (x < m → at other x ≡ at cols x) × (m ≤ x → (i : ℕ) → i < m → own (at other i) < m)

    module _ (x : ℕ) (all : (j : ℕ) → j < n → go x j < N → Kept (go x j)) where
      -- The other's column of row x is another, and used: then the row that uses it has moved too.
      not_used : (h : x < m) → at other x ≢ at cols x → own (at other x) < m → ⊥
      not_used h d l =
          let j = at other x in
          let b = behind_row night us vs cols j l in
          let e = row_make night us vs cols x j h (λ o. d (sym b ∙ ap (at cols) o)) (q.permitted x h) (omega (zarith, tight_other.met x h)) (inl l) in
          let k : Kept (own j) = rw e at (all j (q.inside x h) (omega (arith, e, rows_nodes night))) in
          d (sym b ∙ ap (at cols) (q.apart (own j) x l h (k.0 l ∙ b)))

      -- It is spare: then the spare columns are not.
      not_spare : (h : x < m) → m ≤ own (at other x) → ⊥
      not_spare h l =
          let j = at other x in
          let g = lost x h l in
          let w : own j ≡ m = omega (arith, behind_le night us vs cols j) in
          let e = row_make night us vs cols x j h (λ o. omega arith) (q.permitted x h) (omega (zarith, tight_other.met x h))
          (inr (omega (zarith, g.3, used_top night us vs fair cols p tight spares g.0 g.1))) in
          let k : Kept (own j) = rw e at (all j (q.inside x h) (omega (arith, e, spare_node night some))) in
          omega (arith, k.1 (omega arith) x h)
        where
          some : m < n
          some = elim (dec_lt m n) [
            | yes s ↦ s
            | no s ↦
                let r = reached (injective_fewer {m = m} {n = n} {f = at cols} (omega arith) (pairing_injective night cols p)) (at other x) (q.inside x h) in
                absurd (behind_spare night us vs cols (at other x) l r.0 (omega (arith, r.1)) r.2)
          ]

      -- A spare column is used: then a row whose column has the highest price has moved.
      spares_kept : m ≤ x → (i : ℕ) → i < m → m ≤ own (at other i) → ⊥
      spares_kept h i l s =
          let g = lost i l s in
          let t = spare_top night us vs fair cols p tight spares (omega arith) (at other i) (q.inside i l) (behind_spare night us vs cols (at other i) s) in
          let e = spare_make night us vs cols x g.0 h g.1 (omega (zarith, g.3, t)) in
          let k : Kept g.0 = rw e at (all g.0 (omega (arith, g.1, pigeonhole (pairing_injective night cols p))) (omega (arith, e, g.1, rows_nodes night))) in
          g.2 g.0 g.1 (k.0 g.1)

      kept : Kept x
      kept = (
        λ h. elim (ℕ_discrete (at other x) (at cols x)) [
          | yes e ↦ e
          | no d ↦ elim (dec_lt (own (at other x)) m) [ yes l ↦ absurd (not_used h d l) | no l ↦ absurd (not_spare h (omega arith)) ]
        ],
        λ h i l. elim (dec_lt (own (at other i)) m) [ yes d ↦ d | no d ↦ absurd (spares_kept h i l (omega arith)) ],
      )

    -- It is the same pairing.
    agrees : {w : Walk} → Either (λ w. (x : ℕ) → x < N → Kept x) (IsClosed N n go) (on w) → other ≡ cols
    agrees (goes_on h) =
        ext_get_or 0 other cols (q.size ∙ sym p.size)
        (λ i l. let b : i < m = omega (arith, q.size) in (h i (omega (arith, rows_nodes night))).0 b)

  -- The answer keeps its promise: a second is another pairing with the same total, and where it is "only one" there is no other.
  pub second_right : Right night cols (second night us vs cols)
  unfolding second
  second_right =
      by (walk N n go) (λ other q same. walk_ok N n go (Kept other q same) (λ x h. kept other q same x)) (walk_ok N n go (λ x. Unit) (λ x h a. tt))
    where
      by : (t : Turn Walk Closed)
          → ((other : List ℕ) (q : Pairing night other) (same : total night other ≡ total night cols)
          → Either (λ w. (x : ℕ) → x < N → Kept other q same x) (IsClosed N n go) t)
          → Either (λ w. (x : ℕ) → x < N → Unit) (IsClosed N n go) t → Right night cols (answer night us vs cols t)
      by (on w) f g = λ other q same. agrees other q same (f other q same)
      by (left z) f (is_left_lem c) = moved_another night us vs fair cols p tight spares z c

  -- "a second pairing with the same total"
  pub second_also : (other : List ℕ) → second night us vs cols ≡ also other → Another night cols other
  second_also other e = subst (Right night cols) e second_right

  -- ""Only one" is given exactly if no other pairing reaches that total."
  pub second_only_iff : (second night us vs cols ≡ only) ↔ ((other : List ℕ) → Pairing night other → total night other ≡ total night cols → other ≡ cols)
  second_only_iff = (λ e. subst (Right night cols) e second_right, λ f. by f (second night us vs cols) second_right)
    where
      by : ((other : List ℕ) → Pairing night other → total night other ≡ total night cols → other ≡ cols) → (a : Answer) → Right night cols a → a ≡ only
      by f only r = refl
      by f (also other) r = absurd (r.differs (f other r.pairing r.same))
