-- Rule 6, the flips: each goes back to a column that stands earlier in the list, so they end within n, and one row more is paired. Assumes nothing.
use mathlib.Core.Path.{◌≡◌, refl, sym, ap, ◌∙◌, subst}
use mathlib.Core.Logic.{◌≢◌, ◌⊎◌, inl, inr, ⊎_elim}
use mathlib.Core.List.{List}
use Prim.Native.Nat.{ℕ, suc, ◌+◌, ◌≤◌, ◌<◌}
use native.Mathlib.Omega.{arith}
use borrow.Author.Tests.{eqb-true, eqb-false}
use lib.Dec.{eqb}
use lib.ListN.{length, length-set}
use Rattle.lists.specs.Runs.{Turn, on, left}
use Rattle.lists.specs.Permutations.{at}
use Rattle.lists.proofs.Leaving.{Either, goes_on, is_left_lem, until_keeps, until-longer}
use Rattle.lists.proofs.Cases.{cond_cases, here_or_elsewhere}
use Rattle.rules.specs.Columns.{Pairs}
use Rattle.rules.specs.Rows.{take_column}
use Rattle.rules.specs.Augmentation.{Open, flip, flips, flipped}
use Rattle.rules.specs.Asked.{Paired, Unpaired, Agree}
use Rattle.rules.proofs.Pairs.{took_col, kept_col, took_row, kept_row, taken-below}

-- From row s, along predecessors that came of pairs p₀. `Tree` are the columns that can be gone back to, `rank` the place of each.
module _ (n s : ℕ) (ls : s < n) (predecessors : List ℕ) (p₀ : Pairs) (Tree : ℕ → Type 0) (rank : ℕ → ℕ) where
  -- The predecessor of column j is the row of column k, which comes before it.
  pub record Before (j k : ℕ) : Type 0 where
    pub in_tree : Tree k
    pub column_below : k < n
    pub ranked : rank k < rank j
    pub row_below : at p₀.rows k < n
    pub leads : at predecessors j ≡ at p₀.rows k

  -- Each column of the tree leads back to the start row, or to a column that comes before it.
  abbrev pub Rooted : Type 0
  Rooted = (j : ℕ) → Tree j → (at predecessors j ≡ s) ⊎ ((k : ℕ) × Before j k)

  -- A column has the row that it had, or is of the tree and has its predecessor.
  abbrev pub RowFrom : Pairs → ℕ → Type 0
  RowFrom p k = (at p.rows k ≡ at p₀.rows k) ⊎ (Tree k × (at p.rows k ≡ at predecessors k))

  -- The pairs while column j stands open.
  pub record Holed (p : Pairs) (j : ℕ) : Type 0 where
    pub cols_size : length p.cols ≡ n
    pub rows_size : length p.rows ≡ n
    pub open_below : j < n
    pub open_in_tree : Tree j
    pub cols_below : (i : ℕ) → i < n → at p.cols i < n
    pub named_back : (k : ℕ) → k < n → k ≢ j → at p.rows k < n → at p.cols (at p.rows k) ≡ k
    pub still_paired : (i : ℕ) → i < n → Paired p₀ i → (at p.cols i ≢ j) × Paired p i
    pub start_unpaired : (k : ℕ) → k < n → k ≢ j → at p.rows k ≢ s
    pub untouched : (k : ℕ) → k < n → Tree k → rank k < rank j → at p.rows k ≡ at p₀.rows k
    pub row_from : (k : ℕ) → k < n → RowFrom p k

  -- What comes of it: row s is paired, and every row that was.
  pub record Whole (p : Pairs) : Type 0 where
    pub agree : Agree n p
    pub start_paired : Paired p s
    pub still_paired : (i : ℕ) → i < n → Paired p₀ i → Paired p i
    pub row_from : (k : ℕ) → k < n → RowFrom p k

  last-flip : (p : Pairs) (j : ℕ) → Holed p j → at predecessors j ≡ s → Whole (take_column p s j)
  last-flip p j H e =
      let tc = took_col n p H.cols_size H.rows_size s j ls H.open_below in
      let kc = kept_col n p H.cols_size H.rows_size s j ls H.open_below in
      let tr = took_row n p H.cols_size H.rows_size s j ls H.open_below in
      let kr = kept_row n p H.cols_size H.rows_size s j ls H.open_below in
      let q = take_column p s j in
      record {
        agree = record {
          cols_size = length-set p.cols s j ∙ H.cols_size;
          rows_size = length-set p.rows j s ∙ H.rows_size;
          cols_below = taken-below n p H.cols_size H.rows_size s j ls H.open_below H.cols_below;
          named_back = here_or_elsewhere (λ k. k < n → at q.rows k < n → at q.cols (at q.rows k) ≡ k) j
              (λ l h. ap (at q.cols) tr ∙ tc)
              (λ k d l h. ap (at q.cols) (kr k d) ∙ kc (at p.rows k) (H.start_unpaired k l d) ∙ H.named_back k l d (omega (arith, kr k d)));
        };
        start_paired = ap (at q.rows) tc ∙ tr;
        still_paired = here_or_elsewhere (λ i. i < n → Paired p₀ i → Paired q i) s
            (λ l m. ap (at q.rows) tc ∙ tr)
            (λ i d l m. ap (at q.rows) (kc i d) ∙ kr (at p.cols i) (H.still_paired i l m).0 ∙ (H.still_paired i l m).1);
        row_from = here_or_elsewhere (λ k. k < n → RowFrom q k) j (λ l. inr (H.open_in_tree, tr ∙ sym e))
            (λ k d l. ⊎_elim (λ a. inl (kr k d ∙ a)) (λ a. inr (a.0, kr k d ∙ a.1)) (H.row_from k l));
      }

  -- The row that leads to j takes it, and its old column stands open.
  next_flip : (p : Pairs) (j : ℕ) → Holed p j → at predecessors j ≢ s → (k₀ : ℕ) → Before j k₀
      → (at p.cols (at predecessors j) ≡ k₀) × Holed (take_column p (at predecessors j) j) k₀
  next_flip p j H ds k₀ b =
      let i = at predecessors j in
      let li : i < n = omega (arith, b.leads, b.row_below) in
      let ri : at p.rows k₀ ≡ i = H.untouched k₀ b.column_below b.in_tree b.ranked ∙ sym b.leads in
      let dk : k₀ ≢ j = λ e. omega (arith, b.ranked, ap rank e) in
      let ci : at p.cols i ≡ k₀ = ap (at p.cols) (sym ri) ∙ H.named_back k₀ b.column_below dk (omega arith) in
      let tc = took_col n p H.cols_size H.rows_size i j li H.open_below in
      let kc = kept_col n p H.cols_size H.rows_size i j li H.open_below in
      let tr = took_row n p H.cols_size H.rows_size i j li H.open_below in
      let kr = kept_row n p H.cols_size H.rows_size i j li H.open_below in
      let q = take_column p i j in (
        ci,
        record {
          cols_size = length-set p.cols i j ∙ H.cols_size;
          rows_size = length-set p.rows j i ∙ H.rows_size;
          open_below = b.column_below;
          open_in_tree = b.in_tree;
          cols_below = taken-below n p H.cols_size H.rows_size i j li H.open_below H.cols_below;
          named_back = here_or_elsewhere (λ k. k < n → k ≢ k₀ → at q.rows k < n → at q.cols (at q.rows k) ≡ k) j
              (λ l d h. ap (at q.cols) tr ∙ tc)
              (λ k c l d h. let b' = H.named_back k l c (omega (arith, kr k c)) in
              ap (at q.cols) (kr k c) ∙ kc (at p.rows k) (λ y. d (sym b' ∙ ap (at p.cols) y ∙ ci)) ∙ b');
          still_paired = here_or_elsewhere (λ x. x < n → Paired p₀ x → (at q.cols x ≢ k₀) × Paired q x) i
              (λ l m. (λ z. dk (sym z ∙ tc), ap (at q.rows) tc ∙ tr))
              (λ x d l m. (
                λ z. d (sym (H.still_paired x l m).1 ∙ ap (at p.rows) (sym (kc x d) ∙ z) ∙ ri),
                ap (at q.rows) (kc x d) ∙ kr (at p.cols x) (H.still_paired x l m).0 ∙ (H.still_paired x l m).1,
              ));
          start_unpaired = here_or_elsewhere (λ k. k < n → k ≢ k₀ → at q.rows k ≢ s) j
              (λ l d z. ds (sym tr ∙ z)) (λ k c l d z. H.start_unpaired k l c (sym (kr k c) ∙ z));
          untouched = λ k l tk r. kr k (λ y. omega (arith, b.ranked, ap rank y)) ∙ H.untouched k l tk (omega (arith, b.ranked));
          row_from = here_or_elsewhere (λ k. k < n → RowFrom q k) j (λ l. inr (H.open_in_tree, tr))
              (λ k d l. ⊎_elim (λ a. inl (kr k d ∙ a)) (λ a. inr (a.0, kr k d ∙ a.1)) (H.row_from k l));
        },
      )

  -- After k flips: the open column has k places before it to lose.
  pub record Flipping (k : ℕ) (o : Open) : Type 0 where
    pub holed : Holed o.pairs o.column
    pub rank_falls : rank o.column + k < n

  module _ (R : Rooted) where
    pub flip_goes_on_or_whole : (k : ℕ) (o : Open) → Flipping k o → Either (Flipping (suc k)) Whole (flip s predecessors o)
    flip_goes_on_or_whole k o H =
        cond_cases (eqb i s) (Either (Flipping (suc k)) Whole) (left q) (on (record { column = at o.pairs.cols i; pairs = q }))
        (λ t. let e = eqb-true i s t in is_left_lem (subst (λ (x : ℕ). Whole (take_column o.pairs x j)) (sym e) (last-flip o.pairs j H.holed e)))
        (λ t. goes_on (⊎_elim (λ e. absurd (eqb-false i s t e)) (λ b. next (eqb-false i s t) b.0 b.1) (R j H.holed.open_in_tree)))
      where
        j : ℕ
        j = o.column

        i : ℕ
        i = at predecessors j

        q : Pairs
        q = take_column o.pairs i j

        next : i ≢ s → (k₀ : ℕ) → Before j k₀ → Flipping (suc k) (record { column = at o.pairs.cols i; pairs = q })
        next d k₀ b =
            let N = next_flip o.pairs j H.holed d k₀ b in
            subst (λ (x : ℕ). Flipping (suc k) (record { column = x; pairs = q })) (sym N.0)
            (record { holed = N.1; rank_falls = omega (arith, b.ranked, H.rank_falls) })

    flips_go_on_or_whole : (m : ℕ) (o : Open) → Flipping 0 o → Either (Flipping m) Whole (flips m s predecessors o)
    unfolding flips
    flips_go_on_or_whole m o H = until_keeps Flipping Whole 0 m (λ k. flip s predecessors) o (omega arith) H (λ k x a l X. flip_goes_on_or_whole k x X)

    -- THE FLIPS end within n: the source's "will not finish" never arises.
    module _ (o : Open) (H : Flipping 0 o) where
      ended : (p : Pairs) × (flips n s predecessors o ≡ left p) × Whole p
      ended = by (flips n s predecessors o) (flips_go_on_or_whole n o H)
        where
          by : (t : Turn Open Pairs) → Either (Flipping n) Whole t → (p : Pairs) × (t ≡ left p) × Whole p
          by (on x) (goes_on X) = absurd (omega (arith, X.rank_falls))
          by (left p) (is_left_lem W) = (p, refl, W)

      pub flips_left : flips n s predecessors o ≡ left (flipped (flips n s predecessors o))
      flips_left = let r = ended in r.1 ∙ ap (λ (t : Turn Open Pairs). left (flipped t)) (sym r.1)

      pub flips-whole : Whole (flipped (flips n s predecessors o))
      flips-whole = let r = ended in subst (λ (t : Turn Open Pairs). Whole (flipped t)) (sym r.1) r.2

      -- With more flips allowed the pairs are the same.
      pub flips_enough : (m : ℕ) → n ≤ m → flips m s predecessors o ≡ left (flipped (flips n s predecessors o))
      unfolding flips
      flips_enough m h = until-longer 0 n (λ k. flip s predecessors) o (flipped (flips n s predecessors o)) (omega arith) flips_left m h

  -- A free column stands open.
  pub free_open : Agree n p₀ → Unpaired n p₀ s → (j : ℕ) → j < n → Tree j → n ≤ at p₀.rows j → Holed p₀ j
  free_open A alone j l t f = record {
    cols_size = A.cols_size;
    rows_size = A.rows_size;
    open_below = l;
    open_in_tree = t;
    cols_below = A.cols_below;
    named_back = λ k m d h. A.named_back k m h;
    still_paired = λ i m e. (λ z. omega (arith, sym e ∙ ap (at p₀.rows) z), e);
    start_unpaired = λ k m d. alone k m;
    untouched = λ k m t r. refl;
    row_from = λ k m. inl refl;
  }
