-- Claims as code makes them: what one claim leaves, and what a run of claims is from any column on. Assumes nothing.
use mathlib.Core.Path.{◌≡◌, sym, ap, ◌∙◌, subst}
use mathlib.Core.Bool.{Bool, cond}
use Prim.Native.Nat.{ℕ, suc, ◌≤◌, ◌<◌}
use native.Mathlib.Omega.{arith}
use borrow.Author.Tests.{ne_eqb}
use lib.Dec.{eqb}
use lib.ListN.{set, length-set}
use lib.Seq.{get_or-set_same, get_or-set_other}
use Rattle.lists.specs.Permutations.{at}
use Rattle.lists.specs.Runs.{downward}
use Rattle.lists.proofs.Runs.{downward_none, downward-first}
use Rattle.lists.proofs.Cases.{cond_cases, here_or_elsewhere}
use Rattle.rules.specs.Columns.{Claims, claim, free}
use Rattle.reduction.specs.Columns.{Claimable}

-- The two ways of a claim.
abbrev wins : ℕ → Claims → Claims
wins j s = let i = at s.rows j in record { cols = set s.cols i j; rows = s.rows; marks = set s.marks i 1 }

abbrev loses : ℕ → Claims → Claims
loses j s = let i = at s.rows j in record { cols = s.cols; rows = set s.rows j free; marks = set s.marks i 2 }

pub claim_loses : (j : ℕ) (s : Claims) → (at s.marks (at s.rows j) ≡ 0 → ⊥)
    → record { cols = s.cols; rows = set s.rows j 4294967295; marks = set s.marks (at s.rows j) 2 } ≡ claim j s
unfolding free
claim_loses j s e = ap (λ (t : Bool). cond t (wins j s) (loses j s)) (sym (ne_eqb (at s.marks (at s.rows j)) 0 e))

module _ (n j : ℕ) (s : Claims) (inside : j < n) (c : Claimable n (suc j) s) where
  wins_claimable : Claimable n j (wins j s)
  wins_claimable =
      let i = at s.rows j in
      let li : i < n = c.row_below j (omega arith) in
      record {
        cols_size = length-set s.cols i j ∙ c.cols_size;
        rows_size = c.rows_size;
        marks_size = length-set s.marks i 1 ∙ c.marks_size;
        row_below = λ k l. c.row_below k (omega arith);
        col_below = here_or_elsewhere (λ x. x < n → at (set s.cols i j) x < n) i
            (λ l. omega (arith, get_or-set_same s.cols i j 0 (omega (arith, c.cols_size))))
            (λ x d l. omega (arith, get_or-set_other s.cols i x j 0 d, c.col_below x l));
      }

  loses_claimable : Claimable n j (loses j s)
  loses_claimable =
      let i = at s.rows j in
      record {
        cols_size = c.cols_size;
        rows_size = length-set s.rows j free ∙ c.rows_size;
        marks_size = length-set s.marks i 2 ∙ c.marks_size;
        row_below = λ k l. omega (arith, get_or-set_other s.rows j k free 0 (λ e. omega arith), c.row_below k (omega arith));
        col_below = c.col_below;
      }

  pub claim_claimable : Claimable n j (claim j s)
  claim_claimable =
      cond_cases (eqb (at s.marks (at s.rows j)) 0) (Claimable n j) (wins j s) (loses j s) (λ t. wins_claimable) (λ t. loses_claimable)

-- ---- the loop, at its head: columns below j are still to claim

pub record Head (n : ℕ) (s₀ s : Claims) (j : ℕ) : Type 0 where
  pub most : j ≤ n
  pub claimable : Claimable n j s
  pub rest : downward j claim s ≡ downward n claim s₀

pub head_start : (n j : ℕ) (s : Claims) → j ≡ n → Claimable n n s → Head n s s j
head_start n j s e c = record {
  most = omega arith;
  claimable = subst (λ (m : ℕ). Claimable n m s) (sym e) c;
  rest = ap (λ (m : ℕ). downward m claim s) e;
}

pub head_ends : {n : ℕ} {s₀ s : Claims} {j : ℕ} → Head n s₀ s j → j ≡ 0 → s ≡ downward n claim s₀
head_ends {n} {s₀} {s} h e = sym (downward_none claim s) ∙ ap (λ (m : ℕ). downward m claim s) (sym e) ∙ h.rest

-- Column k is the next.
module _ {n : ℕ} {s₀ s : Claims} {j : ℕ} (h : Head n s₀ s j) (k : ℕ) (next : j ≡ suc k) where
  pub head_claimable : Claimable n (suc k) s
  head_claimable = subst (λ (m : ℕ). Claimable n m s) next h.claimable

  pub head_next : (t : Claims) → t ≡ claim k s → Head n s₀ t k
  head_next t e = record {
    most = omega (arith, h.most);
    claimable = subst (Claimable n k) (sym e) (claim_claimable n k s (omega (arith, h.most)) head_claimable);
    rest = ap (downward k claim) e ∙ sym (downward-first k claim s) ∙ ap (λ (m : ℕ). downward m claim s) (sym next) ∙ h.rest;
  }
