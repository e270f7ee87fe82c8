-- Rule 5, a whole scan: it goes on with every column of the block scanned, or is left at a free column that lies at the block's minimum; it
-- counts each column whose row is used. Assumes nothing.
use mathlib.Core.Path.{◌≡◌, refl, sym, subst}
use mathlib.Core.Logic.{inl, inr, ⊎_elim}
use mathlib.Core.Bool.{cond}
use Prim.Native.Nat.{ℕ, suc, ◌+◌, ◌≤◌, ◌<◌}
use native.Mathlib.Omega.{arith}
use borrow.Author.Tests.{ltb-true, ltb-false}
use lib.IntN.{ℤ, ◌+ℤ◌, ◌-ℤ◌}
use lib.Signed.{◌≤ℤ◌}
use lib.Dec.{ltb}
use Rattle.ints.proofs.Sums.{sum}
use Rattle.ints.proofs.Ranges.{zarith}
use Rattle.lists.specs.Runs.{on, until}
use Rattle.lists.proofs.Injections.{reached}
use Rattle.lists.proofs.Leaving.{Either, goes_on, either_map, until_keeps}
use Rattle.lists.proofs.Cases.{cond_cases, here_or_elsewhere}
use Rattle.rules.specs.Lowest.{reduced}
use Rattle.rules.specs.Search.{Work, Hit, count_one, scan_column, scan_row, scan}
use Rattle.rules.specs.Asked.{Fair}
use Rattle.rules.proofs.Scan.{place, far, FromColumn, Relaxed, Scanning, Seeing, Reaches, scan_column_sees_or_reaches}

module _ (n : ℕ) (cost : ℕ → ℕ → ℤ) (v : ℕ → ℤ) (row : ℕ → ℕ) (s : ℕ) (floor : ℤ) (ready : ℕ) (μ : ℤ) where
  -- The columns before place k have been scanned, and no more than those were counted.
  pub record Counted (k : ℕ) (w : Work) : Type 0 where
    pub scanning : Scanning n cost v row s floor ready k μ w
    pub counted_few : w.scanned ≤ k
    pub counted_in_block : w.scanned ≤ w.hi

  -- The scan is left at a free column, with fewer columns counted than there are.
  pub record LeftAt (h : Hit) : Type 0 where
    pub at_place : ℕ
    pub reaches : Reaches n cost v row s floor ready at_place μ h.work.scanned h
    pub counted_few : h.work.scanned < n

module _ (n : ℕ) (cost : ℕ → ℕ → ℤ) (v : ℕ → ℤ) (row : ℕ → ℕ) (s : ℕ) (floor : ℤ) (F : Fair n cost v row) (ready : ℕ) (μ : ℤ) where
  abbrev On : ℕ → Work → Type 0
  On = λ k w. Scanning n cost v row s floor ready k μ w

  abbrev C : ℕ → Work → Type 0
  C = Counted n cost v row s floor ready μ

  abbrev L : Hit → Type 0
  L = LeftAt n cost v row s floor ready μ

  -- Before the columns after the block are seen.
  pub see_start : (k : ℕ) (w : Work) → On k w → k < w.hi → Seeing n cost v row s floor ready k μ (place w k) (w.scanned + 1) w.hi (count_one w)
  see_start k w I l =
      let S = I.sound in
      let j = place w k in
      record {
        scanning = record {
          sound = record {
            permutation = S.permutation;
            distances_size = S.distances_size;
            predecessors_size = S.predecessors_size;
            from_start = S.from_start;
            from_floor = S.from_floor;
          };
          order = I.order;
          paired = I.paired;
          low = I.low;
          level = I.level;
          high = I.high;
          relaxed = I.relaxed;
          root = λ t m. ⊎_elim (λ a. inl (record { leads = a.leads; exact = a.exact }))
              (λ (a : (u : ℕ) × (u < t) × (u < w.hi) × FromColumn n cost v row s floor w (place w u) (place w t)).
              inr (a.0, a.1, a.2, record { leads = a.3.leads; exact = a.3.exact })) (I.root t m);
        };
        here = refl;
        in_block = l;
        to = omega (arith, I.order);
        seen = λ t m.
            let a = reduced cost v (row j) j in
            let b = reduced cost v (row j) (place w t) in
            let no_less : a ≤ℤ b =
            (F.paired_at_minimum j (S.permutation.injective.below k (omega (arith, I.order))) (I.paired k l)).no_less (place w t)
            (S.permutation.injective.below t (omega (arith, I.order))) in
            omega (zarith, I.low t m, sum (far w (place w t)) a, sum μ b);
        counted = refl;
      }

  -- All have been seen: one more column of the block is done.
  pub see_end : (k j c : ℕ) (w : Work) → Seeing n cost v row s floor ready k μ j c n w → On (suc k) w
  see_end k j c w M =
      let I = M.scanning in
      record {
        sound = I.sound;
        order = omega (arith, I.order);
        paired = I.paired;
        low = I.low;
        level = I.level;
        high = I.high;
        relaxed = here_or_elsewhere (λ t. t < suc k → t < w.hi → Relaxed n cost v row s floor w (place w t)) k
            (λ a b y m. here y m) (λ t d a b. I.relaxed t (omega arith) b);
        root = I.root;
      }
    where
      here : Relaxed n cost v row s floor w (place w k)
      here y m =
          let r = reached M.scanning.sound.permutation.injective y m in
          let e : far w (place w k) ≡ μ = M.scanning.level k M.scanning.order.0 M.in_block in
          let p : (far w y +ℤ reduced cost v (row j) j) ≤ℤ (μ +ℤ reduced cost v (row j) y) =
          subst (λ (x : ℕ). (far w x +ℤ reduced cost v (row j) j) ≤ℤ (μ +ℤ reduced cost v (row j) x)) r.2 (M.seen r.0 r.1) in
          subst (λ (z : ℤ). (far w y +ℤ reduced cost v (row (place w k)) (place w k)) ≤ℤ (z +ℤ reduced cost v (row (place w k)) y)) (sym e)
          (subst (λ (x : ℕ). (far w y +ℤ reduced cost v (row x) x) ≤ℤ (μ +ℤ reduced cost v (row x) y)) (sym M.here) p)

  -- The row of the column at place k sees the columns after the block.
  pub scan_row_counted_or_left : (k : ℕ) (w : Work) → C k w → k < w.hi → Either (C (suc k)) L (scan_row n cost v row k w)
  scan_row_counted_or_left k w D l =
      let I = D.scanning in
      let j = place w k in
      let c = w.scanned + 1 in
      let e : far w j ≡ μ = I.level k I.order.0 l in
      let P : ℕ → Work → Type 0 = Seeing n cost v row s floor ready k μ j c in
      let Q : Hit → Type 0 = Reaches n cost v row s floor ready k μ c in
      let run : Either (P n) Q (until w.hi n (scan_column n cost v row μ (reduced cost v (row j) j -ℤ μ) (row j)) (count_one w)) =
      until_keeps P Q w.hi n (scan_column n cost v row μ (reduced cost v (row j) j -ℤ μ) (row j)) (count_one w) I.order.2 (see_start k w I l)
      (λ t x a m M. scan_column_sees_or_reaches n cost v row s floor F ready k μ j c t x M m) in
      either_map
      (subst (λ (y : ℤ). Either (P n) Q (until w.hi n (scan_column n cost v row y (reduced cost v (row j) j -ℤ y) (row j)) (count_one w))) (sym e) run)
      (λ x M. record {
        scanning = see_end k j c x M;
        counted_few = omega (arith, M.counted, D.counted_few);
        counted_in_block = omega (arith, M.counted, D.counted_few, M.in_block);
      })
      (λ h X. record {
        at_place = k;
        reaches = subst (λ (z : ℕ). Reaches n cost v row s floor ready k μ z h) (sym X.counted) X;
        counted_few = omega (arith, X.counted, D.counted_few, X.in_block, X.stands.1, X.stands.2);
      })

  -- The block's columns from place lo on.
  pub scan_counted_or_left : (lo : ℕ) (w : Work) → lo ≤ n → C lo w → Either (C n) L (scan n cost v row lo w)
  unfolding scan
  scan_counted_or_left lo w l D =
      until_keeps C L lo n (λ k x. cond (ltb k x.hi) (scan_row n cost v row k x) (on x)) w l D
      (λ k x a m E. cond_cases (ltb k x.hi) (Either (C (suc k)) L) (scan_row n cost v row k x) (on x)
      (λ t. scan_row_counted_or_left k x E (ltb-true k x.hi t))
      (λ t. goes_on (past k x E (ltb-false k x.hi t))))
    where
      past : (k : ℕ) (x : Work) → C k x → x.hi ≤ k → C (suc k) x
      past k x D h = let I = D.scanning in record {
        scanning = record {
          sound = I.sound;
          order = omega (arith, I.order);
          paired = I.paired;
          low = I.low;
          level = I.level;
          high = I.high;
          relaxed = λ t a b. I.relaxed t (omega arith) b;
          root = I.root;
        };
        counted_few = omega (arith, D.counted_few);
        counted_in_block = D.counted_in_block;
      }
