-- Rule 5, what holds while a search goes on, and that one column seen from a row keeps it: lowered distances stay at the block's minimum or
-- more, and each distance is reached along a column that stands earlier in the list. Assumes nothing.
use mathlib.Core.Path.{◌≡◌, refl, sym, ap, ◌∙◌, subst}
use mathlib.Core.Logic.{◌≢◌, ◌⊎◌, inl, inr, ⊎_elim}
use mathlib.Core.Bool.{Bool, true, false, cond, true≢false}
use Prim.Native.Nat.{ℕ, suc, ◌+◌, ◌≤◌, ◌<◌}
use native.Mathlib.Decide.{ℕ_discrete}
use native.Mathlib.Omega.{arith}
use borrow.Author.Tests.{ltb-true, ltb-false}
use lib.IntN.{ℤ, pos, ◌+ℤ◌, ◌-ℤ◌}
use lib.Signed.{◌≤ℤ◌, ◌<ℤ◌, lt_z, le_z}
use lib.ListN.{length, length-set}
use lib.Seq.{get_or-set_same, get_or-set_other}
use lib.Dec.{ltb}
use Rattle.ints.proofs.Sums.{sum, dif}
use Rattle.ints.proofs.Ranges.{zarith}
use Rattle.ints.proofs.Shapes.{zlin}
use Rattle.lists.specs.Runs.{Turn, on, left}
use Rattle.lists.specs.Permutations.{at, Permutation}
use Rattle.lists.proofs.Permutations.{exchange_second, exchange-first, exchange_other, exchange_permutation}
use Rattle.lists.proofs.Leaving.{Either, goes_on, is_left_lem}
use Rattle.lists.proofs.Cases.{cond_cases, lt_or_le, here_or_elsewhere}
use Rattle.assignment.specs.Pairings.{signed_at}
use Rattle.rules.specs.Lowest.{reduced}
use Rattle.rules.specs.Search.{Work, Hit, same, reach_by, join, after_lowering, scan_column}
use Rattle.rules.specs.Asked.{Fair}

-- Two distances that the test finds equal are equal.
pub same_true : (x y : ℤ) → same x y ≡ true → x ≡ y
same_true x y e = by (le_z x y) refl (le_z y x) refl e
  where
    by : (a : Bool) → le_z x y ≡ a → (b : Bool) → le_z y x ≡ b → cond a b false ≡ true → x ≡ y
    by true p true q z = omega zarith
    by true p false q z = absurd (true≢false (sym z))
    by false p b q z = absurd (true≢false (sym z))

-- The column at place t, and how far column j lies.
abbrev pub place : Work → ℕ → ℕ
place w t = at w.list t

abbrev pub far : Work → ℕ → ℤ
far w j = signed_at w.distances j

-- A search from row s; `floor` is at most each reduced cost of row s.
module _ (n : ℕ) (cost : ℕ → ℕ → ℤ) (v : ℕ → ℤ) (row : ℕ → ℕ) (s : ℕ) (floor : ℤ) where
  abbrev R : ℕ → ℕ → ℤ
  R i j = reduced cost v i j

  -- Column y is as far as the start row makes it.
  pub record FromStart (w : Work) (y : ℕ) : Type 0 where
    pub leads : at w.predecessors y ≡ s
    pub exact : far w y ≡ R s y

  -- Column y is as far as the row of column x, which lies before it, makes it.
  pub record FromColumn (w : Work) (x y : ℕ) : Type 0 where
    pub leads : at w.predecessors y ≡ row x
    pub exact : far w y +ℤ R (row x) x ≡ far w x +ℤ R (row x) y

  -- How column y was reached: from the start, or from a column at an earlier place than t, of which Q holds.
  abbrev pub Root : Work → (ℕ → Type 0) → ℕ → ℕ → Type 0
  Root w Q t y = FromStart w y ⊎ ((u : ℕ) × (u < t) × Q u × FromColumn w (place w u) y)

  -- The row of column x makes no column nearer.
  abbrev pub Relaxed : Work → ℕ → Type 0
  Relaxed w x = (k : ℕ) → k < n → (far w k +ℤ R (row x) x) ≤ℤ (far w x +ℤ R (row x) k)

  -- Lists of n entries, the columns in some order, and distances from the floor to what the start row makes them.
  pub record Sound (w : Work) : Type 0 where
    pub permutation : Permutation n w.list
    pub distances_size : length w.distances ≡ n
    pub predecessors_size : length w.predecessors ≡ n
    pub from_start : (k : ℕ) → k < n → far w k ≤ℤ R s k
    pub from_floor : (k : ℕ) → k < n → floor ≤ℤ far w k

  -- In a scan: the first `ready` columns are settled; those up to hi lie at μ, of which those before k have been scanned; the others at μ or more.
  pub record Scanning (ready k : ℕ) (μ : ℤ) (w : Work) : Type 0 where
    pub sound : Sound w
    pub order : (ready ≤ k) × (ready < w.hi) × (w.hi ≤ n)
    pub paired : (t : ℕ) → t < w.hi → row (place w t) < n
    pub low : (t : ℕ) → t < w.hi → far w (place w t) ≤ℤ μ
    pub level : (t : ℕ) → ready ≤ t → t < w.hi → far w (place w t) ≡ μ
    pub high : (t : ℕ) → w.hi ≤ t → t < n → μ ≤ℤ far w (place w t)
    pub relaxed : (t : ℕ) → t < k → t < w.hi → Relaxed w (place w t)
    pub root : (t : ℕ) → t < n → Root w (λ u. u < w.hi) t (place w t)

  -- While the row of column j₀, at place k₀, sees the columns after the block: those before k have been seen.
  pub record Seeing (ready k₀ : ℕ) (μ : ℤ) (j₀ c k : ℕ) (w : Work) : Type 0 where
    pub scanning : Scanning ready k₀ μ w
    pub here : place w k₀ ≡ j₀
    pub in_block : k₀ < w.hi
    pub to : (w.hi ≤ k) × (k ≤ n)
    pub seen : (t : ℕ) → t < k → (far w (place w t) +ℤ R (row j₀) j₀) ≤ℤ (μ +ℤ R (row j₀) (place w t))
    pub counted : w.scanned ≡ c

  -- A free column was reached, at μ.
  pub record Reaches (ready k₀ : ℕ) (μ : ℤ) (c : ℕ) (h : Hit) : Type 0 where
    pub scanning : Scanning ready k₀ μ h.work
    pub in_block : k₀ < h.work.hi
    pub stands : (k : ℕ) × (k < n) × (h.work.hi ≤ k) × (place h.work k ≡ h.column)
    pub is_free : n ≤ row h.column
    pub distance : far h.work h.column ≡ μ
    pub counted : h.work.scanned ≡ c

  module _ (F : Fair n cost v row) (ready k₀ : ℕ) (μ : ℤ) (j₀ c : ℕ) where
    abbrev i₀ : ℕ
    i₀ = row j₀

    -- A lowered distance makes the step from j₀ exact.
    lowered_exact : (j : ℕ) → R i₀ j -ℤ (R i₀ j₀ -ℤ μ) +ℤ R i₀ j₀ ≡ μ +ℤ R i₀ j
    lowered_exact j = let a = R i₀ j in let b = R i₀ j₀ in omega (zlin, dif b μ, dif a (b -ℤ μ))

    -- The column at place k is lowered to x.
    lowers : (k : ℕ) (w : Work) (x : ℤ) → Seeing ready k₀ μ j₀ c k w → k < n → x <ℤ far w (place w k) → μ ≤ℤ x
        → x +ℤ R i₀ j₀ ≡ μ +ℤ R i₀ (place w k) → Seeing ready k₀ μ j₀ c (suc k) (reach_by w i₀ (place w k) x)
    lowers k w x M l h g e =
        let I = M.scanning in
        let S = I.sound in
        let j = place w k in
        let q = reach_by w i₀ j x in
        let lj : j < n = S.permutation.injective.below k l in
        let fs : far q j ≡ x = get_or-set_same w.distances j x (pos 0) (omega (arith, S.distances_size)) in
        let fo : (y : ℕ) → y ≢ j → far q y ≡ far w y = λ y d. get_or-set_other w.distances j y x (pos 0) d in
        let ps : at q.predecessors j ≡ i₀ = get_or-set_same w.predecessors j i₀ 0 (omega (arith, S.predecessors_size)) in
        let po : (y : ℕ) → y ≢ j → at q.predecessors y ≡ at w.predecessors y = λ y d. get_or-set_other w.predecessors j y i₀ 0 d in
        let apart : (t : ℕ) → t < n → t ≢ k → place w t ≢ j = λ t m d z. d (S.permutation.injective.once t k m l z) in
        let ft : (t : ℕ) → t < n → t ≢ k → far q (place w t) ≡ far w (place w t) = λ t m d. fo (place w t) (apart t m d) in
        let fh : (t : ℕ) → t < w.hi → far q (place w t) ≡ far w (place w t) = λ t m. ft t (omega (arith, I.order)) (λ z. omega (arith, M.to)) in
        let μ₀ : far w (place w k₀) ≡ μ = I.level k₀ I.order.0 M.in_block in
        let less : (y : ℕ) → far q y ≤ℤ far w y = here_or_elsewhere (λ y. far q y ≤ℤ far w y) j (omega zarith) (λ y d. omega (zarith, fo y d)) in
        let under : floor ≤ℤ x = omega (zarith, μ₀, S.from_floor (place w k₀) (S.permutation.injective.below k₀ (omega (arith, I.order, M.in_block)))) in
        record {
          scanning = record {
            sound = record {
              permutation = S.permutation;
              distances_size = length-set w.distances j x ∙ S.distances_size;
              predecessors_size = length-set w.predecessors j i₀ ∙ S.predecessors_size;
              from_start = λ y m. omega (zarith, less y, S.from_start y m);
              from_floor = here_or_elsewhere (λ y. y < n → floor ≤ℤ far q y) j (λ m. omega (zarith, fs)) (λ y d m. omega (zarith, fo y d, S.from_floor y m));
            };
            order = I.order;
            paired = I.paired;
            low = λ t m. omega (zarith, fh t m, I.low t m);
            level = λ t a m. fh t m ∙ I.level t a m;
            high = here_or_elsewhere (λ t. w.hi ≤ t → t < n → μ ≤ℤ far q (place w t)) k (λ a m. omega (zarith, fs))
                (λ t d a m. omega (zarith, ft t m d, I.high t a m));
            relaxed = λ t a b y m.
                let A = R (row (place w t)) (place w t) in
                let B = R (row (place w t)) y in
                omega (zarith, fh t b, less y, I.relaxed t a b y m, sum (far q y) A, sum (far w y) A, sum (far q (place w t)) B, sum (far w (place w t)) B);
            root = here_or_elsewhere (λ t. t < n → Root q (λ u. u < w.hi) t (place w t)) k
                (λ m. inr (
                  k₀,
                  omega (arith, M.to, M.in_block),
                  M.in_block,
                  record {
                    leads = ps ∙ ap row (sym M.here);
                    exact = subst (λ (y : ℕ). far q j +ℤ R (row y) y ≡ far q (place w k₀) +ℤ R (row y) j) (sym M.here)
                        (ap (λ y. y +ℤ R i₀ j₀) fs ∙ e ∙ ap (λ y. y +ℤ R i₀ j) (sym (fh k₀ M.in_block ∙ μ₀)));
                  },
                ))
                (λ t d m. ⊎_elim (λ a. inl (record { leads = po (place w t) (apart t m d) ∙ a.leads; exact = ft t m d ∙ a.exact }))
                (λ (a : (u : ℕ) × (u < t) × (u < w.hi) × FromColumn w (place w u) (place w t)). inr (
                  a.0,
                  a.1,
                  a.2,
                  record {
                    leads = po (place w t) (apart t m d) ∙ a.3.leads;
                    exact = let y = place w a.0 in
                        ap (λ z. z +ℤ R (row y) y) (ft t m d) ∙ a.3.exact ∙ ap (λ z. z +ℤ R (row y) (place w t)) (sym (fh a.0 a.2));
                  },
                ))
                (I.root t m));
          };
          here = M.here;
          in_block = M.in_block;
          to = omega (arith, M.to);
          seen = here_or_elsewhere (λ t. t < suc k → (far q (place w t) +ℤ R i₀ j₀) ≤ℤ (μ +ℤ R i₀ (place w t))) k
              (λ m. omega (zarith, fs, e, sum (far q j) (R i₀ j₀), sum x (R i₀ j₀)))
              (λ t d m. omega (zarith, ft t (omega arith) d, M.seen t (omega arith), sum (far q (place w t)) (R i₀ j₀), sum (far w (place w t)) (R i₀ j₀)));
          counted = M.counted;
        }

    -- The column at place k joins the block.
    joins : (k : ℕ) (w : Work) → Seeing ready k₀ μ j₀ c (suc k) w → w.hi ≤ k → k < n → row (place w k) < n → far w (place w k) ≡ μ
        → Seeing ready k₀ μ j₀ c (suc k) (join w k)
    joins k w M g l h e =
        let I = M.scanning in
        let S = I.sound in
        let q = join w k in
        let b = w.hi in
        let lb : b < n = omega arith in
        let size : length w.list ≡ n = S.permutation.size in
        let sb : place q b ≡ place w k = exchange_second w.list k b (omega arith) in
        let sa : place q k ≡ place w b = exchange-first w.list k b (omega arith) (omega arith) in
        let so : (t : ℕ) → t ≢ k → t ≢ b → place q t ≡ place w t = exchange_other w.list k b in
        let sl : (t : ℕ) → t < b → place q t ≡ place w t = λ t m. so t (λ z. omega arith) (λ z. omega arith) in
        -- what holds of the columns at k, at b and at t holds of the one that stands at t then
        let move : (P : ℕ → Type 0) (t : ℕ) → P (place w k) → P (place w b) → P (place w t) → P (place q t) = λ P t pk pb pt. elim (ℕ_discrete t b) [
          | yes z ↦ subst (λ (y : ℕ). P (place q y)) (sym z) (subst P (sym sb) pk)
          | no d ↦ elim (ℕ_discrete t k) [
            | yes z ↦ subst (λ (y : ℕ). P (place q y)) (sym z) (subst P (sym sa) pb)
            | no f ↦ subst P (sym (so t f d)) pt
          ]
        ] in
        let roots : (t u y : ℕ) → ((x : ℕ) → x < t → x < b → x < u) → Root w (λ x. x < b) t y → Root q (λ x. x < b + 1) u y = λ t u y f. ⊎_elim
        (λ a. inl (record { leads = a.leads; exact = a.exact }))
        (λ (a : (x : ℕ) × (x < t) × (x < b) × FromColumn w (place w x) y). inr (
          a.0,
          f a.0 a.1 a.2,
          omega (arith, a.2),
          subst (λ (z : ℕ). FromColumn q z y) (sym (sl a.0 a.2)) (record { leads = a.3.leads; exact = a.3.exact }),
        )) in
        record {
          scanning = record {
            sound = record {
              permutation = exchange_permutation S.permutation k b l lb;
              distances_size = S.distances_size;
              predecessors_size = S.predecessors_size;
              from_start = S.from_start;
              from_floor = S.from_floor;
            };
            order = omega (arith, I.order);
            paired = λ t m. elim (ℕ_discrete t b) [
              | yes z ↦ subst (λ (y : ℕ). row (place q y) < n) (sym z) (subst (λ (y : ℕ). row y < n) (sym sb) h)
              | no d ↦ subst (λ (y : ℕ). row y < n) (sym (sl t (omega arith))) (I.paired t (omega arith))
            ];
            low = λ t m. elim (ℕ_discrete t b) [
              | yes z ↦ omega (zarith, ap (λ (y : ℕ). far w (place q y)) z, ap (far w) sb)
              | no d ↦ omega (zarith, ap (far w) (sl t (omega arith)), I.low t (omega arith))
            ];
            level = λ t a m. elim (ℕ_discrete t b) [
              | yes z ↦ ap (λ (y : ℕ). far w (place q y)) z ∙ ap (far w) sb ∙ e
              | no d ↦ ap (far w) (sl t (omega arith)) ∙ I.level t a (omega arith)
            ];
            high = λ t a m. move (λ y. μ ≤ℤ far w y) t (omega zarith) (I.high b (omega arith) lb) (I.high t (omega arith) m);
            relaxed = λ t a m. subst (Relaxed q) (sym (sl t (omega (arith, M.in_block, I.order)))) (I.relaxed t a (omega (arith, M.in_block)));
            root = λ t m. elim (lt_or_le t b) [
              | inl a ↦ subst (Root q (λ x. x < b + 1) t) (sym (sl t a)) (roots t t (place w t) (λ x y z. y) (I.root t m))
              | inr a ↦ move (Root q (λ x. x < b + 1) t) t (roots k t (place w k) (λ x y z. omega arith) (I.root k l))
                  (roots b t (place w b) (λ x y z. omega arith) (I.root b lb)) (roots t t (place w t) (λ x y z. y) (I.root t m))
            ];
          };
          here = sl k₀ M.in_block ∙ M.here;
          in_block = omega (arith, M.in_block);
          to = omega arith;
          seen = λ t m. elim (lt_or_le t b) [
            | inl a ↦ subst (λ (y : ℕ). (far w y +ℤ R i₀ j₀) ≤ℤ (μ +ℤ R i₀ y)) (sym (sl t a)) (M.seen t m)
            | inr a ↦ move (λ y. (far w y +ℤ R i₀ j₀) ≤ℤ (μ +ℤ R i₀ y)) t (M.seen k (omega arith)) (M.seen b (omega arith)) (M.seen t m)
          ];
          counted = M.counted;
        }

    pub scan_column_sees_or_reaches : (k : ℕ) (w : Work) → Seeing ready k₀ μ j₀ c k w → k < n
        → Either (Seeing ready k₀ μ j₀ c (suc k)) (Reaches ready k₀ μ c) (scan_column n cost v row μ (R i₀ j₀ -ℤ μ) i₀ k w)
    scan_column_sees_or_reaches k w M l =
        cond_cases (lt_z x (far w j)) G (after_lowering n row μ k j x q) (on w)
        (λ a. cond_cases (same x μ) G (cond (ltb (row j) n) (on (join q k)) (left (record { column = j; work = q }))) (on q)
        (λ b. cond_cases (ltb (row j) n) G (on (join q k)) (left (record { column = j; work = q }))
        (λ d. goes_on (joins k q (low a) M.to.0 l (ltb-true (row j) n d) (fs ∙ same_true x μ b)))
        (λ d. is_left_lem (record {
          scanning = (low a).scanning;
          in_block = M.in_block;
          stands = (k, l, M.to.0, refl);
          is_free = ltb-false (row j) n d;
          distance = fs ∙ same_true x μ b;
          counted = M.counted;
        })))
        (λ b. goes_on (low a)))
        (λ a. goes_on (record {
          scanning = M.scanning;
          here = M.here;
          in_block = M.in_block;
          to = omega (arith, M.to);
          seen = here_or_elsewhere (λ t. t < suc k → (far w (place w t) +ℤ R i₀ j₀) ≤ℤ (μ +ℤ R i₀ (place w t))) k
              (λ m. omega (zarith, lowered_exact j, sum x (R i₀ j₀), sum (far w j) (R i₀ j₀)))
              (λ t d m. M.seen t (omega arith));
          counted = M.counted;
        }))
      where
        G : Turn Work Hit → Type 0
        G = Either (Seeing ready k₀ μ j₀ c (suc k)) (Reaches ready k₀ μ c)

        j : ℕ
        j = place w k

        x : ℤ
        x = R i₀ j -ℤ (R i₀ j₀ -ℤ μ)

        q : Work
        q = reach_by w i₀ j x

        lj : j < n
        lj = M.scanning.sound.permutation.injective.below k l

        fs : far q j ≡ x
        fs = get_or-set_same w.distances j x (pos 0) (omega (arith, M.scanning.sound.distances_size, lj))

        no_less : R i₀ j₀ ≤ℤ R i₀ j
        no_less =
            let e = M.here in
            let l₀ : j₀ < n = subst (λ (y : ℕ). y < n) e (M.scanning.sound.permutation.injective.below k₀ (omega (arith, M.to, M.in_block))) in
            let h₀ : row j₀ < n = subst (λ (y : ℕ). row y < n) e (M.scanning.paired k₀ M.in_block) in
            (F.paired_at_minimum j₀ l₀ h₀).no_less j lj

        low : lt_z x (far w j) ≡ true → Seeing ready k₀ μ j₀ c (suc k) q
        low a =
            lowers k w x M l (omega zarith)
            (omega (zarith, no_less, lowered_exact j, sum x (R i₀ j₀), sum μ (R i₀ j)))
            (lowered_exact j)
