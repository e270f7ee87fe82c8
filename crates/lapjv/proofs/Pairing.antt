-- After rules 3 and 4, over plain lists: the free rows can get their columns, the row prices and the total can be taken, and what stands then is
-- the answer of the run. Assumes nothing.
use mathlib.Core.Path.{◌≡◌, sym, ap, ap₂, ◌∙◌, subst}
use mathlib.Core.List.{List}
use Prim.Native.Nat.{ℕ, ◌+◌, ◌*◌, ◌≤◌, ◌<◌}
use native.Mathlib.Omega.{arith}
use lib.IntN.{ℤ, pos}
use lib.ListN.{length, replicate}
use Rattle.ints.specs.Parts.{Within}
use Rattle.ints.proofs.Ranges.{within_mono}
use Rattle.lists.specs.Permutations.{at}
use Rattle.assignment.specs.Pairings.{signed_at, square, total}
use Rattle.matrix.specs.Limits.{K, near}
use Rattle.matrix.specs.Asked.{Listed}
use Rattle.matrix.proofs.SmallLimits.{K_small}
use Rattle.rules.specs.Columns.{Stage, column_reduction}
use Rattle.rules.specs.Rows.{pass_end}
use Rattle.rules.specs.Augmentation.{Progress, augments, augmentation}
use Rattle.rules.specs.Run.{Result, stages, run, prices_of_rows}
use Rattle.rules.proofs.Stages.{search_ready}
use Rattle.rules.specs.Right.{Right}
use Rattle.rules.proofs.Run.{run_right}
use Rattle.augmentation.specs.Augmentation.{CanAugment, CanTurn, Augmented, state_of}
use Rattle.rules.specs.declared.Counts.{Counts}
use Rattle.lapjv.specs.Asked.{CanPrice}
use Rattle.lapjv.specs.Stages.{Pairable, pass_one, pass_two, ReducedBy, answer_in, PairedBy}
use Rattle.lapjv.proofs.Ready.{cost, costs_within_lem, side-free, near_five}
use Rattle.lapjv.proofs.Reducing.{two_good}

module _ (n : ℕ) (costs : List ℤ) (p : Pairable n costs) (cols rows : List ℕ) (v : List ℤ) (room : List ℕ) (r : Counts)
    (R : ReducedBy n costs cols rows v room r) where
  abbrev c : ℕ → ℕ → ℤ
  c = cost n costs p

  abbrev s : Stage
  s = pass_end (pass_two n costs)

  -- Search m can be made.
  can_turn : (m : ℕ) → m < s.count → CanTurn n costs (augments n c s.frees m (state_of s.pairs.cols s.pairs.rows s.prices 0)) (at s.frees m)
  can_turn m l =
      let q = search_ready n c p.some K (costs_within_lem n costs p) s (two_good n costs p) m l in
      record { can = q.can; prices_near = λ k. near_five (q.prices_within k) }

  pub can_augment : (d : List ℤ) → length d ≡ n → CanAugment n costs r.rows_left cols rows v d room
  can_augment d e =
      let G = two_good n costs p in
      record {
        small = p.small;
        few = subst (λ (x : Stage). x.count ≤ n) (sym R.stage) G.count_few;
        costs_size = p.squared;
        costs_near = λ k. within_mono (omega (arith, K_small)) (p.within k);
        cols_size = ap (λ (x : Stage). length x.pairs.cols) R.stage ∙ G.kept.agree.cols_size;
        rows_size = ap (λ (x : Stage). length x.pairs.rows) R.stage ∙ G.kept.agree.rows_size;
        prices_size = ap (λ (x : Stage). length x.prices) R.stage ∙ G.kept.prices_size;
        distances_size = e;
        room_size = R.room_size;
        turn = subst
            (λ (x : Stage). (m : ℕ) → m < x.count
            → CanTurn n costs (augments n c x.frees m (state_of x.pairs.cols x.pairs.rows x.prices 0)) (at x.frees m))
            (sym R.stage) can_turn;
      }

  -- After the augmentation.
  module _ (cols' rows' : List ℕ) (v' : List ℤ) (room' : List ℕ) (scanned : ℕ)
      (A : Augmented n costs r.rows_left cols rows v room cols' rows' v' room' scanned) where
    last : state_of cols' rows' v' scanned ≡ (stages n c).last
    unfolding stages
    last = A.same ∙ ap (augmentation n c) R.stage

    right : Right n costs K (run n costs)
    right = run_right n costs K p.within (omega (arith, side-free, p.small))

    cols_run : (run n costs).cols ≡ cols'
    unfolding run
    cols_run = sym (ap (λ (x : Progress). x.pairs.cols) last)

    v_run : (run n costs).prices_of_columns ≡ v'
    unfolding run
    v_run = sym (ap (λ (x : Progress). x.prices) last)

    pub sizes : (length cols' ≡ n) × (length rows' ≡ n) × (length v' ≡ n)
    unfolding run
    sizes = (
      ap length (sym cols_run) ∙ right.cols_size,
      ap (λ (x : Progress). length x.pairs.rows) last ∙ right.rows_size,
      ap length (sym v_run) ∙ right.column_prices_size,
    )

    inside : (i : ℕ) → i < n → at cols' i < n
    inside = subst (λ (l : List ℕ). (i : ℕ) → i < n → at l i < n) cols_run right.named.inside

    pub can_price : (us : List ℤ) → length us ≡ n → CanPrice n costs cols' v' us
    can_price us e = record {
      small = p.small;
      squared = p.squared;
      cols_size = sizes.0;
      v_size = sizes.2;
      us_size = e;
      inside = inside;
      prices_near = subst (λ (l : List ℤ). (j : ℕ) → j < n → Within near (signed_at l j)) v_run
          (λ j l. near_five (let b = right.column_prices_between j l in record { low = omega arith; high = omega arith }));
    }

    pub can_total : Listed n costs n cols'
    can_total = record { small = p.small; squared = p.squared; rows = omega arith; listed = omega (arith, sizes.0); inside = inside }

    -- The answer, from the last state and the counts of the stages before it.
    abbrev answer_from : ℕ → ℕ → ℕ → ℕ → ℕ → Progress → Result
    answer_from a b o e f x = record {
      cols = x.pairs.cols;
      rows = x.pairs.rows;
      prices_of_rows = prices_of_rows n c x.pairs.cols x.prices;
      prices_of_columns = x.prices;
      total = total (square n costs) x.pairs.cols;
      counts = record { free_rows = a; looks_one = b; left_one = o; looks_two = e; rows_left = f; columns_scanned = x.scanned };
    }

    pub paired_by : (us : List ℤ) (room'' : List ℕ) (d' d'' : List ℤ) (t : ℤ) → us ≡ prices_of_rows n c cols' v' → t ≡ total (square n costs) cols'
        → room'' ≡ replicate (length room') 0 → length room' ≡ n + n + n + n → d'' ≡ replicate (length d') (pos 0) → length d' ≡ n
        → PairedBy n costs cols' rows' us v' room'' d''
        (record {
          total = t;
          counts = record {
            free_rows = r.free_rows;
            looks_one = r.looks_one;
            left_one = r.left_one;
            looks_two = r.looks_two;
            rows_left = r.rows_left;
            columns_scanned = scanned;
          };
        })
    unfolding run stages
    paired_by us room'' d' d'' t eu et er el ed dl = record {
      answer =
          ap₂ (λ (x : List ℤ) (y : ℤ). answer_in cols' rows' x v' (record { total = y; counts = (answer_from a b o e f x').counts })) eu et
          ∙ ap (λ (k : ℕ). answer_from k b o e f x') R.free_rows
          ∙ ap (λ (k : ℕ). answer_from (column_reduction n c).count k o e f x') R.looks_one
          ∙ ap (λ (k : ℕ). answer_from (column_reduction n c).count (pass_one n costs).pass.looks k e f x') R.left_one
          ∙ ap (λ (k : ℕ). answer_from (column_reduction n c).count (pass_one n costs).pass.looks (pass_one n costs).pass.left k f x') R.looks_two
          ∙ ap₂ (answer_from (column_reduction n c).count (pass_one n costs).pass.looks (pass_one n costs).pass.left (pass_two n costs).pass.looks) (ap (λ (x : Stage). x.count) R.stage) last;
      room_cleared = er ∙ ap (λ (k : ℕ). replicate k 0) (let z : length room' ≡ 4 * n = omega arith in z);
      distances_cleared = ed ∙ ap (λ (k : ℕ). replicate k (pos 0)) dl;
    }
      where
        a : ℕ
        a = r.free_rows

        b : ℕ
        b = r.looks_one

        o : ℕ
        o = r.left_one

        e : ℕ
        e = r.looks_two

        f : ℕ
        f = r.rows_left

        x' : Progress
        x' = state_of cols' rows' v' scanned
