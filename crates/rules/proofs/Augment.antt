-- Rules 5 and 6 for one free row, from ANY state whose pairs agree and whose prices are fair: the row gets a column, prices stay fair, never
-- rise, and fewer than n columns are scanned. Assumes nothing.
use mathlib.Core.Path.{◌≡◌, sym, ap, ◌∙◌, subst}
use mathlib.Core.Logic.{◌≢◌, ◌⊎◌, inl, inr, ⊎_elim}
use Prim.Native.Nat.{ℕ, ◌+◌, ◌-◌, ◌≤◌, ◌<◌}
use native.Mathlib.Omega.{arith}
use lib.IntN.{ℤ}
use lib.Signed.{◌≤ℤ◌}
use lib.ListN.{length}
use Rattle.ints.specs.Parts.{Within}
use Rattle.ints.proofs.Ranges.{zarith}
use Rattle.ints.proofs.Shapes.{zlin}
use Rattle.lists.specs.Permutations.{at}
use Rattle.lists.proofs.Injections.{source, source_of, reached}
use Rattle.assignment.specs.Pairings.{signed_at}
use Rattle.rules.specs.Lowest.{reduced, lowest}
use Rattle.rules.specs.Columns.{Pairs}
use Rattle.rules.specs.Search.{Work, Found, search, new_prices}
use Rattle.rules.specs.Augmentation.{Progress, augment}
use Rattle.rules.specs.Asked.{AtMinimum, Fair, Paired, Unpaired, Agree, Can}
use Rattle.rules.proofs.Lowest.{lowest_is}
use Rattle.rules.proofs.Pairs.{free_column}
use Rattle.rules.proofs.Scan.{place, far, FromColumn, Sound}
use Rattle.rules.proofs.Search.{Ended, Good, search_good}
use Rattle.rules.proofs.PriceChange.{new_size, new_fair, new_falls, free-same, leads_minimum}
use Rattle.rules.proofs.Flips.{Before, Rooted, Flipping, Whole, flips-whole, free_open}

-- ---- the floor of a search: the least reduced cost of its row

module _ (n : ℕ) (cost : ℕ → ℕ → ℤ) (v : ℕ → ℤ) (s : ℕ) (one : 1 ≤ n) where
  abbrev pub floor_of : ℤ
  floor_of = (lowest n (reduced cost v s)).value

  pub floor_under : (k : ℕ) → k < n → floor_of ≤ℤ reduced cost v s k
  floor_under k l = (lowest_is n (reduced cost v s) one).no_lower k l

  -- Distances lie within K + B where costs lie within K and prices within B.
  pub distances_within : (row : ℕ → ℕ) (K B : ℕ) → ((i j : ℕ) → Within K (cost i j)) → ((k : ℕ) → Within B (v k))
      → (w : Work) → Sound n cost v row s floor_of w → (k : ℕ) → k < n → Within (K + B) (far w k)
  distances_within row K B costs prices w S k l =
      let r = lowest_is n (reduced cost v s) one in
      let j = (lowest n (reduced cost v s)).place in
      omega (zlin, r.value_is, S.from_floor k l, S.from_start k l, costs s j, prices j, costs s k, prices k)

-- ---- the way back, for a search that has ended

module _ (n : ℕ) (cost : ℕ → ℕ → ℤ) (v : ℕ → ℤ) (p : Pairs) (s : ℕ) (floor : ℤ) (ls : s < n) (f : Found) (μ : ℤ)
    (E : Ended n cost v (at p.rows) s floor f μ) where
  abbrev w : Work
  w = f.work

  -- The columns that lie at μ or nearer, and the place of each.
  abbrev pub Tree : ℕ → Type 0
  Tree k = (k < n) × (far w k ≤ℤ μ)

  abbrev pub rank : ℕ → ℕ
  rank k = source (at w.list) n k

  rank_place : (t : ℕ) → t < n → rank (place w t) ≡ t
  rank_place t l = source_of E.sound.permutation.injective t l

  pub rooted : Rooted n s ls w.predecessors p Tree rank
  rooted k T =
      let P = reached E.sound.permutation.injective k T.0 in
      subst (λ (x : ℕ). (at w.predecessors x ≡ s) ⊎ ((y : ℕ) × Before n s ls w.predecessors p Tree rank x y)) P.2 (go P.0 P.1)
    where
      go : (t : ℕ) → t < n → (at w.predecessors (place w t) ≡ s) ⊎ ((y : ℕ) × Before n s ls w.predecessors p Tree rank (place w t) y)
      go t l = ⊎_elim (λ a. inl a.leads)
          (λ (a : (u : ℕ) × (u < t) × ((at p.rows (place w u) < n) × (far w (place w u) ≤ℤ μ)) × FromColumn n cost v (at p.rows) s floor w (place w u) (place w t)).
          let m : a.0 < n = omega (arith, a.1) in
          let b = E.sound.permutation.injective.below a.0 m in
          inr (
            place w a.0,
            record {
              in_tree = (b, a.2.1);
              column_below = b;
              ranked = omega (arith, a.1, rank_place t l, rank_place a.0 m);
              row_below = a.2.0;
              leads = a.3.leads;
            },
          ))
          (E.root t l)

  pub column_below : f.column < n
  column_below = subst (λ (x : ℕ). x < n) E.stands.2 (E.sound.permutation.injective.below E.stands.0 E.stands.1)

  pub flipping : Agree n p → Unpaired n p s → Flipping n s ls w.predecessors p Tree rank 0 (record { column = f.column; pairs = p })
  flipping A alone = record {
    holed = free_open n s ls w.predecessors p Tree rank A alone f.column column_below (column_below, omega (zarith, E.distance)) E.is_free;
    rank_falls = omega (arith, E.stands.1, ap rank (sym E.stands.2), rank_place E.stands.0 E.stands.1);
  }

-- ---- one row more

-- What a search from row s, its price change and its flips make of a state.
pub record Gain (n : ℕ) (cost : ℕ → ℕ → ℤ) (x : Progress) (s : ℕ) (y : Progress) : Type 0 where
  pub agree : Agree n y.pairs
  pub prices_size : length y.prices ≡ n
  pub fair : Fair n cost (signed_at y.prices) (at y.pairs.rows)
  pub start_paired : Paired y.pairs s
  pub still_paired : (i : ℕ) → i < n → Paired x.pairs i → Paired y.pairs i
  pub still_unpaired : (i : ℕ) → i ≢ s → Unpaired n x.pairs i → Unpaired n y.pairs i
  pub not_risen : (k : ℕ) → k < n → signed_at y.prices k ≤ℤ signed_at x.prices k
  pub reached_free : (j : ℕ) × (j < n) × (n ≤ at x.pairs.rows j) × (signed_at y.prices j ≡ signed_at x.prices j)
  pub free_untouched : (k : ℕ) → k < n → n ≤ at y.pairs.rows k → (n ≤ at x.pairs.rows k) × (signed_at y.prices k ≡ signed_at x.prices k)
  pub scanned_few : y.scanned ≤ x.scanned + (n - 1)

module _ (n : ℕ) (cost : ℕ → ℕ → ℤ) (x : Progress) (s : ℕ) (C : Can n cost x s) where
  abbrev v : ℕ → ℤ
  v = signed_at x.prices

  abbrev row : ℕ → ℕ
  row = at x.pairs.rows

  pub one : 1 ≤ n
  one = omega (arith, C.start_below)

  -- The search ends as it must.
  pub found_good : Good n cost v row s (floor_of n cost v s one) (search n cost v row s)
  found_good =
      let y = free_column n x.pairs C.agree s C.start_below C.start_unpaired in
      search_good n cost v row s (floor_of n cost v s one) C.fair y.0 y.1 y.2 (floor_under n cost v s one)

  pub augment_gain : Gain n cost x s (augment n cost x s)
  augment_gain =
      let ls = C.start_below in
      let f = search n cost v row s in
      let fl = floor_of n cost v s one in
      let μ = found_good.0 in
      let E = found_good.1 in
      let T = Tree n cost v x.pairs s fl ls f μ E in
      let rk = rank n cost v x.pairs s fl ls f μ E in
      let R = rooted n cost v x.pairs s fl ls f μ E in
      let W : Whole n s ls f.work.predecessors x.pairs T rk (augment n cost x s).pairs =
      flips-whole n s ls f.work.predecessors x.pairs T rk R (record { column = f.column; pairs = x.pairs })
      (flipping n cost v x.pairs s fl ls f μ E C.agree C.start_unpaired) in
      let q = (augment n cost x s).pairs in
      let lj = column_below n cost v x.pairs s fl ls f μ E in
      let minimum = leads_minimum n cost x.prices row s fl C.prices_size C.fair f μ E in
      let same = free-same n cost x.prices row s fl C.prices_size C.fair f μ E in
      record {
        agree = W.agree;
        prices_size = new_size n cost x.prices row s fl C.prices_size C.fair f μ E;
        fair = record {
          paired_at_minimum = λ k l h. ⊎_elim
              (λ a. subst (λ (i : ℕ). AtMinimum n cost (signed_at (new_prices f x.prices)) i k) (sym a)
              ((new_fair n cost x.prices row s fl C.prices_size C.fair f μ E).paired_at_minimum k l (omega (arith, a))))
              (λ a. subst (λ (i : ℕ). AtMinimum n cost (signed_at (new_prices f x.prices)) i k) (sym a.1) (minimum k l a.0.1))
              (W.row_from k l);
        };
        start_paired = W.start_paired;
        still_paired = W.still_paired;
        still_unpaired = λ i d alone k l z. ⊎_elim (λ a. alone k l (sym a ∙ z))
            (λ a. ⊎_elim (λ b. d (sym z ∙ a.1 ∙ b)) (λ b. alone b.0 b.1.column_below (sym b.1.leads ∙ sym a.1 ∙ z)) (R k a.0))
            (W.row_from k l);
        not_risen = new_falls n cost x.prices row s fl C.prices_size C.fair f μ E;
        reached_free = (f.column, lj, E.is_free, same f.column lj E.is_free);
        free_untouched = λ k l h.
            let g : n ≤ row k = ⊎_elim (λ a. omega arith)
            (λ a. ⊎_elim (λ b. absurd (omega (arith, a.1, ls))) (λ b. absurd (omega (arith, a.1, b.1.row_below, b.1.leads))) (R k a.0)) (W.row_from k l) in
            (g, same k l g);
        scanned_few = omega (arith, E.counted_few);
      }
