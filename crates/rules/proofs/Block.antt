-- Rule 2: from lo on, the columns at the least distance stand first; the columns before lo stay, and the list stays a permutation. Assumes nothing.
use mathlib.Core.Path.{◌≡◌, refl, ap, ◌∙◌}
use mathlib.Core.Logic.{◌≢◌, inl, inr}
use mathlib.Core.Bool.{cond}
use mathlib.Core.List.{List}
use Prim.Native.Nat.{ℕ, suc, ◌+◌, ◌≤◌, ◌<◌}
use native.Mathlib.Decide.{ℕ_discrete}
use native.Mathlib.Omega.{arith}
use lib.IntN.{ℤ}
use lib.Signed.{◌≤ℤ◌, lt_z, le_z}
use lib.ListN.{length}
use Rattle.ints.proofs.Ranges.{zarith}
use Rattle.lists.specs.Permutations.{at, Permutation, exchange}
use Rattle.lists.proofs.Runs.{upward_keeps}
use Rattle.lists.proofs.Permutations.{exchange_second, exchange-first, exchange_other, exchange_permutation}
use Rattle.lists.proofs.Cases.{cond_cases, lt_or_le, here_or_elsewhere}
use Rattle.assignment.specs.Pairings.{signed_at}
use Rattle.rules.specs.Block.{Block, block_with, block_step, block_start, block}

module _ (n : ℕ) (d : List ℤ) (lo : ℕ) (list : List ℕ) where
  -- The places before k have been passed.
  pub record IsBlock (k : ℕ) (b : Block) : Type 0 where
    pub permutation : Permutation n b.list
    pub order : (lo < b.hi) × (b.hi ≤ k) × (k ≤ n)
    pub before_kept : (t : ℕ) → t < lo → at b.list t ≡ at list t
    pub from_after : (t : ℕ) → lo ≤ t → t < n → (u : ℕ) × (lo ≤ u) × (u < n) × (at b.list t ≡ at list u)
    pub at_least : (t : ℕ) → lo ≤ t → t < b.hi → signed_at d (at b.list t) ≡ b.minimum
    pub not_less : (t : ℕ) → b.hi ≤ t → t < k → b.minimum ≤ℤ signed_at d (at b.list t)

  -- The columns at k and p change places, and the minimum is that of the column at k: p is the block's last place then.
  block_one_more : (k p : ℕ) (b : Block) → IsBlock k b → k < n → lo ≤ p → p ≤ b.hi → signed_at d (at b.list k) ≤ℤ b.minimum
      → ((t : ℕ) → lo ≤ t → t < p → b.minimum ≤ℤ signed_at d (at b.list k)) → IsBlock (suc k) (block_with b k (signed_at d (at b.list k)) p)
  block_one_more k p b B l h g e f =
      let xs = b.list in
      let ys = exchange xs k p in
      let lp : p < n = omega (arith, B.order) in
      let size : length xs ≡ n = B.permutation.size in
      let sb : at ys p ≡ at xs k = exchange_second xs k p (omega arith) in
      let sa : at ys k ≡ at xs p = exchange-first xs k p (omega arith) (omega arith) in
      let so : (t : ℕ) → t ≢ k → t ≢ p → at ys t ≡ at xs t = exchange_other xs k p in
      -- at or above the old minimum
      let above : (t : ℕ) → lo ≤ t → t < k → b.minimum ≤ℤ signed_at d (at xs t) = λ t a m. elim (lt_or_le t b.hi) [
        | inl z ↦ omega (zarith, B.at_least t a z)
        | inr z ↦ B.not_less t z m
      ] in
      let from-k = B.from_after k (omega (arith, B.order)) l in
      let from-p = B.from_after p h lp in
      record {
        permutation = exchange_permutation B.permutation k p l lp;
        order = omega (arith, B.order);
        before_kept = λ t m. so t (λ z. omega (arith, B.order)) (λ z. omega arith) ∙ B.before_kept t m;
        from_after = here_or_elsewhere (λ t. lo ≤ t → t < n → (u : ℕ) × (lo ≤ u) × (u < n) × (at ys t ≡ at list u)) p
            (λ a m. (from-k.0, from-k.1, from-k.2, sb ∙ from-k.3))
            (λ t y. here_or_elsewhere (λ t. t ≢ p → lo ≤ t → t < n → (u : ℕ) × (lo ≤ u) × (u < n) × (at ys t ≡ at list u)) k
            (λ y a m. (from-p.0, from-p.1, from-p.2, sa ∙ from-p.3))
            (λ t z y a m. let F = B.from_after t a m in (F.0, F.1, F.2, so t z y ∙ F.3)) t y);
        at_least = λ t a m. elim (ℕ_discrete t p) [
          | yes z ↦ ap (λ (y : ℕ). signed_at d (at ys y)) z ∙ ap (signed_at d) sb
          | no y ↦ omega (zarith, ap (signed_at d) (so t (λ z. omega (arith, B.order)) y), B.at_least t a (omega arith), e, f t a (omega arith))
        ];
        not_less = λ t a m. elim (ℕ_discrete t k) [
          | yes z ↦ omega (zarith, ap (λ (y : ℕ). signed_at d (at ys y)) z, ap (signed_at d) sa, above p h (omega arith), e)
          | no z ↦ omega (zarith, ap (signed_at d) (so t z (λ q. omega arith)), above t (omega arith) (omega arith), e)
        ];
      }

  pub block_more : (k : ℕ) (b : Block) → IsBlock k b → k < n → IsBlock (suc k) (block_step d lo k b)
  block_more k b B l =
      cond_cases (le_z h b.minimum) (IsBlock (suc k)) (block_with b k h (cond (lt_z h b.minimum) lo b.hi)) b
      (λ e. cond_cases (lt_z h b.minimum) (λ p. IsBlock (suc k) (block_with b k h p)) lo b.hi
      (λ a. block_one_more k lo b B l (omega arith) (omega (arith, B.order)) (omega zarith) (λ t m q. absurd (omega arith)))
      (λ a. block_one_more k b.hi b B l (omega (arith, B.order)) (omega arith) (omega zarith) (λ t m q. omega zarith)))
      (λ e. record {
        permutation = B.permutation;
        order = omega (arith, B.order);
        before_kept = B.before_kept;
        from_after = B.from_after;
        at_least = B.at_least;
        not_less = λ t g m. elim (ℕ_discrete t k) [
          | yes z ↦ omega (zarith, ap (λ (y : ℕ). signed_at d (at b.list y)) z)
          | no z ↦ B.not_less t g (omega arith)
        ];
      })
    where
      h : ℤ
      h = signed_at d (at b.list k)

  pub block-first : Permutation n list → lo < n → IsBlock (lo + 1) (block_start d lo list)
  block-first p l = record {
    permutation = p;
    order = omega arith;
    before_kept = λ t m. refl;
    from_after = λ t a m. (t, a, m, refl);
    at_least = λ t a m. let e : t ≡ lo = omega arith in ap (λ (y : ℕ). signed_at d (at list y)) e;
    not_less = λ t a m. absurd (omega arith);
  }

  pub block_of_minima : Permutation n list → lo < n → IsBlock n (block n d lo list)
  unfolding block
  block_of_minima p l = upward_keeps IsBlock (lo + 1) n (block_step d lo) (block_start d lo list) (omega arith) (block-first p l) (λ k b a m B. block_more k b B m)
