-- Rule 5, the search: from a row with fair prices, and while a column is free, it is left within n blocks, at a free column, with all that the
-- price change and the flips need, and fewer columns scanned than there are. Assumes nothing.
use mathlib.Core.Path.{◌≡◌, refl, sym, ap, ◌∙◌, subst}
use mathlib.Core.Logic.{inl, inr, ⊎_elim}
use Prim.Native.Nat.{ℕ, ◌≤◌, ◌<◌}
use native.Mathlib.Omega.{arith}
use lib.IntN.{ℤ, pos}
use lib.Signed.{◌≤ℤ◌}
use Rattle.std.specs.Prelude.{Option, Some, None}
use Rattle.ints.proofs.Ranges.{zarith}
use Rattle.lists.specs.Runs.{Turn, on, left}
use Rattle.lists.proofs.Injections.{reached}
use Rattle.lists.proofs.Tables.{length-table, get_d_table}
use Rattle.lists.proofs.Leaving.{Either, goes_on, is_left_lem, either_map, until_keeps, until-longer}
use Rattle.lists.proofs.Cases.{lt_or_le}
use Rattle.rules.specs.Lowest.{reduced}
use Rattle.rules.specs.Block.{Block, block}
use Rattle.rules.specs.Search.{Work, Hit, Found, scan, last_free, fresh_block, found, after_scan, after_block, search_block, search_blocks, search_start, found_at, search}
use Rattle.rules.specs.Asked.{Fair}
use Rattle.rules.proofs.Block.{IsBlock, block_of_minima}
use Rattle.rules.proofs.FreeColumns.{Sought, last_free_sought}
use Rattle.rules.proofs.Scan.{place, far, FromColumn, Root, Relaxed, Sound}
use Rattle.rules.proofs.Scans.{Counted, LeftAt, scan_counted_or_left}

module _ (n : ℕ) (cost : ℕ → ℕ → ℤ) (v : ℕ → ℤ) (row : ℕ → ℕ) (s : ℕ) (floor : ℤ) where
  -- Between two blocks: the columns before hi are settled.
  pub record Head (w : Work) : Type 0 where
    pub sound : Sound n cost v row s floor w
    pub paired : (t : ℕ) → t < w.hi → row (place w t) < n
    pub rising : (t u : ℕ) → t < w.hi → w.hi ≤ u → u < n → far w (place w t) ≤ℤ far w (place w u)
    pub relaxed : (t : ℕ) → t < w.hi → Relaxed n cost v row s floor w (place w t)
    pub root : (t : ℕ) → t < n → Root n cost v row s floor w (λ u. u < w.hi) t (place w t)
    pub counted_few : w.scanned ≤ w.hi

  -- The search has reached a free column: the ready columns lie at μ or before it, the others at μ or after it, and the free one at μ.
  pub record Ended (f : Found) (μ : ℤ) : Type 0 where
    pub sound : Sound n cost v row s floor f.work
    pub ready_below : f.ready < n
    pub cursor_kept : f.cursor.lo ≡ f.ready
    pub is_minimum : far f.work (place f.work f.ready) ≡ μ
    pub paired : (t : ℕ) → t < f.ready → row (place f.work t) < n
    pub low : (t : ℕ) → t < f.ready → far f.work (place f.work t) ≤ℤ μ
    pub high : (t : ℕ) → f.ready ≤ t → t < n → μ ≤ℤ far f.work (place f.work t)
    pub relaxed : (t : ℕ) → t < f.ready → Relaxed n cost v row s floor f.work (place f.work t)
    pub root : (t : ℕ) → t < n
        → Root n cost v row s floor f.work (λ u. (row (place f.work u) < n) × (far f.work (place f.work u) ≤ℤ μ)) t (place f.work t)
    pub stands : (k : ℕ) × (k < n) × (place f.work k ≡ f.column)
    pub is_free : n ≤ row f.column
    pub distance : far f.work f.column ≡ μ
    pub counted_few : f.work.scanned < n

  abbrev pub Good : Found → Type 0
  Good f = (μ : ℤ) × Ended f μ

  -- ---- a fresh block

  module _ (w : Work) (H : Head w) (l : w.hi < n) where
    abbrev lo : ℕ
    lo = w.hi

    abbrev b : Block
    b = block n w.distances lo w.list

    abbrev q : Work
    q = fresh_block n lo w

    is_b : IsBlock n w.distances lo w.list n b
    is_b = block_of_minima n w.distances lo w.list H.sound.permutation l

    lo_hi : lo ≤ q.hi
    lo_hi = omega (arith, is_b.order)

    kept : (t : ℕ) → t < lo → place q t ≡ place w t
    kept t m = is_b.before_kept t m

    sound_b : Sound n cost v row s floor q
    sound_b = record {
      permutation = is_b.permutation;
      distances_size = H.sound.distances_size;
      predecessors_size = H.sound.predecessors_size;
      from_start = H.sound.from_start;
      from_floor = H.sound.from_floor;
    }

    low_b : (t : ℕ) → t < lo → far q (place q t) ≤ℤ b.minimum
    low_b t m =
        let F = is_b.from_after lo (omega arith) l in
        omega (zarith, ap (far w) (kept t m), ap (far w) F.3, H.rising t F.0 m F.1 F.2, is_b.at_least lo (omega arith) is_b.order.0)

    carry : (t t' y : ℕ) → ((u : ℕ) → u < t → u < lo → u < t') → Root n cost v row s floor w (λ u. u < lo) t y → Root n cost v row s floor q (λ u. u < lo) t' y
    carry t t' y g = ⊎_elim (λ a. inl (record { leads = a.leads; exact = a.exact }))
        (λ (a : (u : ℕ) × (u < t) × (u < lo) × FromColumn n cost v row s floor w (place w u) y). inr (
          a.0,
          g a.0 a.1 a.2,
          a.2,
          subst (λ (x : ℕ). FromColumn n cost v row s floor q x y) (sym (kept a.0 a.2)) (record { leads = a.3.leads; exact = a.3.exact }),
        ))

    root_b : (t : ℕ) → t < n → Root n cost v row s floor q (λ u. u < lo) t (place q t)
    root_b t m = elim (lt_or_le t lo) [
      | inl a ↦ subst (Root n cost v row s floor q (λ u. u < lo) t) (sym (kept t a)) (carry t t (place w t) (λ u x y. x) (H.root t m))
      | inr a ↦ let F = is_b.from_after t a m in
          subst (Root n cost v row s floor q (λ u. u < lo) t) (sym F.3) (carry F.0 t (place w F.0) (λ u x y. omega arith) (H.root F.0 F.2))
    ]

    relaxed_b : (t : ℕ) → t < lo → Relaxed n cost v row s floor q (place q t)
    relaxed_b t a = subst (Relaxed n cost v row s floor q) (sym (kept t a)) (H.relaxed t a)

    paired_b : (t : ℕ) → t < lo → row (place q t) < n
    paired_b t m = subst (λ (x : ℕ). row x < n) (sym (kept t m)) (H.paired t m)

    -- No column of the block is free: it is scanned.
    pub to_scan : ((t : ℕ) → lo ≤ t → t < q.hi → row (place q t) < n) → Counted n cost v row s floor lo b.minimum lo q
    to_scan f = record {
      scanning = record {
        sound = sound_b;
        order = omega (arith, is_b.order);
        paired = λ t m. elim (lt_or_le t lo) [ inl a ↦ paired_b t a | inr a ↦ f t a m ];
        low = λ t m. elim (lt_or_le t lo) [ inl a ↦ low_b t a | inr a ↦ omega (zarith, is_b.at_least t a m) ];
        level = λ t a m. is_b.at_least t a m;
        high = λ t a m. is_b.not_less t a m;
        relaxed = λ t a m. relaxed_b t a;
        root = λ t m. ⊎_elim (λ a. inl a)
            (λ (a : (u : ℕ) × (u < t) × (u < lo) × FromColumn n cost v row s floor q (place q u) (place q t)).
            inr (a.0, a.1, omega (arith, a.2, is_b.order), a.3)) (root_b t m);
      };
      counted_few = H.counted_few;
      counted_in_block = omega (arith, H.counted_few, is_b.order);
    }

    -- A column of the block is free: the search ends.
    pub to_end : (t : ℕ) → lo ≤ t → t < q.hi → n ≤ row (place q t) → Ended (found lo (record { lo = lo; hi = q.hi }) (place q t) q) b.minimum
    to_end t a m f = record {
      sound = sound_b;
      ready_below = l;
      cursor_kept = refl;
      is_minimum = is_b.at_least lo (omega arith) is_b.order.0;
      paired = paired_b;
      low = low_b;
      high = λ x y z. elim (lt_or_le x q.hi) [ inl e ↦ omega (zarith, is_b.at_least x y e) | inr e ↦ is_b.not_less x e z ];
      relaxed = relaxed_b;
      root = λ x y. ⊎_elim (λ e. inl e)
          (λ (e : (u : ℕ) × (u < x) × (u < lo) × FromColumn n cost v row s floor q (place q u) (place q x)).
          inr (e.0, e.1, (paired_b e.0 e.2, low_b e.0 e.2), e.3)) (root_b x y);
      stands = (t, omega (arith, is_b.order), refl);
      is_free = f;
      distance = is_b.at_least t a m;
      counted_few = omega (arith, H.counted_few);
    }

  -- ---- after a scan

  pub hit_end : (ready hi : ℕ) (μ : ℤ) (h : Hit) → LeftAt n cost v row s floor ready μ h
      → Ended (found ready (record { lo = ready; hi = hi }) h.column h.work) μ
  hit_end ready hi μ h X =
      let I = X.reaches.scanning in
      let w = h.work in
      record {
        sound = I.sound;
        ready_below = omega (arith, I.order);
        cursor_kept = refl;
        is_minimum = I.level ready (omega arith) I.order.1;
        paired = λ t m. I.paired t (omega (arith, I.order));
        low = λ t m. I.low t (omega (arith, I.order));
        high = λ t a m. elim (lt_or_le t w.hi) [ inl e ↦ omega (zarith, I.level t a e) | inr e ↦ I.high t e m ];
        relaxed = λ t m. I.relaxed t (omega (arith, I.order)) (omega (arith, I.order));
        root = λ t m. ⊎_elim (λ e. inl e)
            (λ (e : (u : ℕ) × (u < t) × (u < w.hi) × FromColumn n cost v row s floor w (place w u) (place w t)).
            inr (e.0, e.1, (I.paired e.0 e.2, I.low e.0 e.2), e.3)) (I.root t m);
        stands = let P = X.reaches.stands in (P.0, P.1, P.3);
        is_free = X.reaches.is_free;
        distance = X.reaches.distance;
        counted_few = X.counted_few;
      }

  pub scanned_head : (ready : ℕ) (μ : ℤ) (w : Work) → Counted n cost v row s floor ready μ n w → Head w
  scanned_head ready μ w C = let I = C.scanning in record {
    sound = I.sound;
    paired = I.paired;
    rising = λ t u a e m. omega (zarith, I.low t a, I.high u e m);
    relaxed = λ t a. I.relaxed t (omega (arith, I.order)) a;
    root = I.root;
    counted_few = C.counted_in_block;
  }

  -- ---- the search

  -- Column y is free.
  module _ (F : Fair n cost v row) (y : ℕ) (ly : y < n) (fy : n ≤ row y) where
    -- So fewer than n columns are settled.
    pub head_open : (w : Work) → Head w → w.hi < n
    head_open w H =
        let P = reached H.sound.permutation.injective y ly in
        elim (lt_or_le P.0 w.hi) [
          | inl a ↦ absurd (omega (arith, H.paired P.0 a, ap row P.2))
          | inr a ↦ omega (arith, P.1)
        ]

    -- One block: at least one column more is settled, or the search is left.
    pub search_block_grows_or_ends : (w : Work) → Head w → Either (λ x. Head x × (w.hi < x.hi)) Good (search_block n cost v row w)
    search_block_grows_or_ends w H = by (last_free n row (q w H l).list w.hi (q w H l).hi) (last_free_sought n row (q w H l).list w.hi (q w H l).hi (lo_hi w H l))
      where
        l : w.hi < n
        l = head_open w H

        after : (t : Turn Work Hit) → Either (Counted n cost v row s floor w.hi (b w H l).minimum n) (LeftAt n cost v row s floor w.hi (b w H l).minimum) t
            → Either (λ x. Head x × (w.hi < x.hi)) Good (after_scan w.hi (q w H l).hi t)
        after (on x) (goes_on C) = goes_on (scanned_head w.hi (b w H l).minimum x C, C.scanning.order.1)
        after (left h) (is_left_lem X) = is_left_lem ((b w H l).minimum, hit_end w.hi (q w H l).hi (b w H l).minimum h X)

        by : (o : Option ℕ) → Sought n row (q w H l).list w.hi (q w H l).hi o → Either (λ x. Head x × (w.hi < x.hi)) Good (after_block n cost v row w.hi (q w H l) o)
        by (Some j) S = is_left_lem (
          (b w H l).minimum,
          subst (λ (x : ℕ). Ended (found w.hi (record { lo = w.hi; hi = (q w H l).hi }) x (q w H l)) (b w H l).minimum) S.3
              (to_end w H l S.0 S.1 S.2 (subst (λ (x : ℕ). n ≤ row x) (sym S.3) S.4)),
        )
        by None S = after (scan n cost v row w.hi (q w H l)) (scan_counted_or_left n cost v row s floor F w.hi (b w H l).minimum w.hi (q w H l) (omega (arith, l)) (to_scan w H l S))

    -- Within m blocks: m columns are settled, or the search is left.
    blocks_grow_or_end : (m : ℕ) (w : Work) → Head w → Either (λ x. Head x × (m ≤ x.hi)) Good (search_blocks n cost v row m w)
    unfolding search_blocks
    blocks_grow_or_end m w H =
        until_keeps (λ k x. Head x × (k ≤ x.hi)) Good 0 m (λ k x. search_block n cost v row x) w (omega arith) (H, omega arith)
        (λ k x a l P. either_map (search_block_grows_or_ends x P.0) (λ z Q. (Q.0, omega (arith, P.1, Q.1))) (λ f G. G))

    -- n blocks are enough.
    pub blocks_end : (w : Work) → Head w → (f : Found) × (search_blocks n cost v row n w ≡ left f) × Good f
    blocks_end w H = by (search_blocks n cost v row n w) (blocks_grow_or_end n w H)
      where
        by : (t : Turn Work Found) → Either (λ x. Head x × (n ≤ x.hi)) Good t → (f : Found) × (t ≡ left f) × Good f
        by (on x) (goes_on P) = absurd (omega (arith, P.1, head_open x P.0))
        by (left f) (is_left_lem G) = (f, refl, G)

  -- Before the first block.
  pub start_head : ((k : ℕ) → k < n → floor ≤ℤ reduced cost v s k) → Head (search_start n cost v row s)
  start_head under =
      record {
        sound = record {
          permutation = record {
            size = length-table n (λ j. j);
            injective = record { below = λ i l. omega (arith, at_own i l); once = λ i k l h e. sym (at_own i l) ∙ e ∙ at_own k h };
          };
          distances_size = length-table n (reduced cost v s);
          predecessors_size = length-table n (λ j. s);
          from_start = λ k l. omega (zarith, far_is k l);
          from_floor = λ k l. omega (zarith, far_is k l, under k l);
        };
        paired = λ t m. absurd (omega arith);
        rising = λ t u m a b. absurd (omega arith);
        relaxed = λ t m. absurd (omega arith);
        root = λ t l. let y = place w t in let ly : y < n = omega (arith, at_own t l) in
            inl (record { leads = get_d_table n (λ j. s) 0 y ly; exact = far_is y ly });
        counted_few = omega arith;
      }
    where
      w : Work
      w = search_start n cost v row s

      at_own : (i : ℕ) → i < n → place w i ≡ i
      at_own i l = get_d_table n (λ j. j) 0 i l

      far_is : (k : ℕ) → k < n → far w k ≡ reduced cost v s k
      far_is k l = get_d_table n (reduced cost v s) (pos 0) k l

  -- THE SEARCH is left within n blocks, and with more blocks allowed the same is found.
  module _ (F : Fair n cost v row) (y : ℕ) (ly : y < n) (fy : n ≤ row y) (under : (k : ℕ) → k < n → floor ≤ℤ reduced cost v s k) where
    is_left_at : (f : Found) × (search_blocks n cost v row n (search_start n cost v row s) ≡ left f) × Good f
    is_left_at = blocks_end F y ly fy (search_start n cost v row s) (start_head under)

    pub search_left : search_blocks n cost v row n (search_start n cost v row s) ≡ left (search n cost v row s)
    unfolding search
    search_left = let r = is_left_at in r.1 ∙ ap (λ (t : Turn Work Found). left (found_at t)) (sym r.1)

    pub search_good : Good (search n cost v row s)
    unfolding search
    search_good = let r = is_left_at in subst (λ (t : Turn Work Found). Good (found_at t)) (sym r.1) r.2

    pub search_enough : (m : ℕ) → n ≤ m → search_blocks n cost v row m (search_start n cost v row s) ≡ left (search n cost v row s)
    unfolding search_blocks
    search_enough m h = until-longer 0 n (λ k x. search_block n cost v row x) (search_start n cost v row s) (search n cost v row s) (omega arith) search_left m h
