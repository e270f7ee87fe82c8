-- Rule 3 put together, as its code goes: marks cleared, columns claimed, free list cleared, rows transferred.
-- Assumes nothing.
use mathlib.Core.Path.{◌≡◌, sym, ap, ap₂, ◌∙◌, subst}
use mathlib.Core.List.{List, [], ◌++◌, append_assoc, append-nil}
use Prim.Native.Nat.{ℕ, ◌+◌, ◌*◌, ◌≤◌}
use native.Mathlib.Omega.{arith}
use lib.IntN.{ℤ}
use lib.ListN.{length, take, drop, length-take, drop_of_length-le}
use lib.Seq.{take_at, drop-append-le}
use Rattle.lists.specs.Runs.{upward, downward}
use Rattle.lists.specs.Permutations.{at, table}
use Rattle.lists.specs.Parts.{part, replaced}
use Rattle.lists.proofs.Runs.{downward_keeps}
use Rattle.lists.proofs.Tables.{length-table, get_d_table}
use Rattle.assignment.specs.Pairings.{square}
use Rattle.rules.specs.Columns.{minimum, Claims, claim, claims, unclaimed, Transfer, transfer, transfers, untransferred, column_reduction}
use Rattle.rules.proofs.Lowest.{lowest_is}
use Rattle.reduction.specs.Ranges.{Near}
use Rattle.reduction.specs.Columns.{claims_of, Claimable, transfer_of, transferring, Transferable, stage_at, transfers_to, Reducible}
use Rattle.reduction.proofs.Claims.{claim_claimable}
use Rattle.reduction.proofs.Transfers.{sized}

transfer_of_cong : {v w : List ℤ} {p q : List ℕ} (c : ℕ) → v ≡ w → p ≡ q → transfer_of v p c ≡ transfer_of w q c
transfer_of_cong c e f = cc

stage_at_cong : {cols cols' rows rows' : List ℕ} {v v' : List ℤ} {frees frees' : List ℕ} {count count' : ℕ}
    → cols ≡ cols' → rows ≡ rows' → v ≡ v' → frees ≡ frees' → count ≡ count' → stage_at cols rows v frees count ≡ stage_at cols' rows' v' frees' count'
stage_at_cong a b c d e = cc

-- ---- the claims

module _ (n : ℕ) (cost : ℕ → ℕ → ℤ) where
  unclaimed_claimable : Claimable n n (unclaimed n cost)
  unclaimed_claimable = record {
    cols_size = length-table n (λ i. 0);
    rows_size = length-table n (λ j. (minimum n cost j).place);
    marks_size = length-table n (λ i. 0);
    row_below = λ j l. omega (arith, get_d_table n (λ k. (minimum n cost k).place) 0 j l, (lowest_is n (λ i. cost i j) (omega arith)).inside);
    col_below = λ i l. omega (arith, get_d_table {A = ℕ} n (λ k. 0) 0 i l);
  }

  pub claims_claimable : Claimable n 0 (claims n cost)
  unfolding claims
  claims_claimable = downward_keeps (Claimable n) n claim (unclaimed n cost) unclaimed_claimable (λ k s l h. claim_claimable n k s l h)

module _ (n : ℕ) (cost : ℕ → ℕ → ℤ) (cols rows marks : List ℕ) (c : cols ≡ table n (λ i. 0)) (r : rows ≡ table n (λ j. (minimum n cost j).place))
    (m : marks ≡ table n (λ i. 0)) where
  before_claims : claims_of cols rows marks ≡ unclaimed n cost
  before_claims = cc

  ready_to_claim : Claimable n n (claims_of cols rows marks)
  ready_to_claim = subst (Claimable n n) (sym before_claims) (unclaimed_claimable n cost)

  claimed_is : downward n claim (claims_of cols rows marks) ≡ claims n cost
  unfolding claims
  claimed_is = ap (downward n claim) before_claims

-- ---- the transfer, from marks and a free list of zeros

pub record Cleared (n : ℕ) (cost : ℕ → ℕ → ℤ) (cols marks : List ℕ) (v : List ℤ) (frees : List ℕ) : Type 0 where
  pub cols_are : cols ≡ (claims n cost).cols
  pub marks_are : marks ≡ (claims n cost).marks
  pub prices_are : v ≡ table n (λ j. (minimum n cost j).value)
  pub frees_are : frees ≡ table n (λ i. 0)

module _ {n : ℕ} {costs : List ℤ} {cols₀ rows₀ : List ℕ} {v₀ : List ℤ} {room₀ : List ℕ} (h : Reducible n costs cols₀ rows₀ v₀ room₀) where
  abbrev cost : ℕ → ℕ → ℤ
  cost = (square n costs).cost

  module _ {cols marks : List ℕ} {v : List ℤ} {frees : List ℕ} (c : Cleared n cost cols marks v frees) where
    -- The run of the code is the run of the rule.
    run_is : (m : ℕ) → transferring n costs cols marks v frees m ≡ transfers_to n cost m
    run_is m =
        ap (upward 0 m (transfer n cost (claims_of cols [] marks))) (transfer_of_cong 0 c.prices_are c.frees_are)
        ∙ ap₂ (λ (k l : List ℕ). upward 0 m (transfer n cost (claims_of k [] l)) (untransferred n cost)) c.cols_are c.marks_are

    pub ready_to_transfer : Transferable n costs cols marks v frees
    ready_to_transfer = record {
      squared = h.squared;
      cols_size = ap length c.cols_are ∙ (claims_claimable n cost).cols_size;
      marks_size = ap length c.marks_are ∙ (claims_claimable n cost).marks_size;
      prices_size = ap length c.prices_are ∙ length-table n (λ j. (minimum n cost j).value);
      frees_size = ap length c.frees_are ∙ length-table n (λ i. 0);
      col_below = λ i l. omega (arith, ap (λ (k : List ℕ). at k i) c.cols_are, (claims_claimable n cost).col_below i l);
      near_prices = λ m l. subst (λ (x : Transfer). Near n x.prices) (sym (run_is m)) (h.near_prices m l);
    }

    -- What the transfer leaves is the stage of the rule.
    module _ {rows : List ℕ} {w : List ℤ} {after : List ℕ} {count : ℕ} (r : rows ≡ (claims n cost).rows)
        (t : transfer_of w after count ≡ transferring n costs cols marks v frees n) where
      ended : transfer_of w after count ≡ transfers n cost (claims n cost)
      unfolding transfers
      ended = t ∙ run_is n

      pub after_length : length after ≡ n
      after_length = (sized ready_to_transfer n t).frees_size

      after_is : after ≡ (column_reduction n cost).frees
      unfolding column_reduction
      after_is = ap (λ (x : Transfer). x.frees) ended

      -- The room, in two parts that were lent and came back.
      module _ (front : List ℕ) (lent : front ≡ take (3 * n) room₀) where
        abbrev room : List ℕ
        room = (after ++ drop n front) ++ marks

        parts : room ≡ after ++ (drop n front ++ marks)
        parts = append_assoc after (drop n front) marks

        pub stage_ends : stage_at cols rows w (part 0 n room) count ≡ column_reduction n cost
        unfolding column_reduction
        stage_ends =
            stage_at_cong c.cols_are r (ap (λ (x : Transfer). x.prices) ended)
            (ap (take n) parts ∙ take_at after (drop n front ++ marks) n after_length ∙ after_is) (ap (λ (x : Transfer). x.count) ended)

        pub room_ends : room ≡ replaced 0 (column_reduction n cost).frees (replaced (n + n + n) (claims n cost).marks room₀)
        room_ends =
            let whole = take (n + n + n) room₀ in
            let three : 3 * n ≡ n + n + n = omega arith in
            let long : n ≤ length whole = omega (arith, length-take (n + n + n) room₀, h.room_size) in
            let here : n ≡ 0 + length after = omega (arith, after_length) in
            let nothing : marks ≡ marks ++ drop (n + n + n + length marks) room₀ =
            sym (ap (λ (l : List ℕ). marks ++ l) (drop_of_length-le room₀ (omega (arith, ready_to_transfer.marks_size, h.room_size))) ∙ append-nil marks) in
            parts ∙ ap (λ (l : List ℕ). after ++ (drop n l ++ marks)) (lent ∙ ap (λ (k : ℕ). take k room₀) three)
            ∙ ap (λ (l : List ℕ). after ++ l) (sym (drop-append-le n whole marks long))
            ∙ ap₂ (λ (k : ℕ) (l : List ℕ). after ++ drop k (whole ++ l)) here nothing
            ∙ ap₂ (λ (p q : List ℕ). replaced 0 p (replaced (n + n + n) q room₀)) after_is c.marks_are

  module _ {cols rows marks : List ℕ} (ec : cols ≡ table n (λ i. 0)) (er : rows ≡ table n (λ j. (minimum n cost j).place)) (em : marks ≡ table n (λ i. 0)) where
    pub ready : Claimable n n (claims_of cols rows marks)
    ready = ready_to_claim n cost cols rows marks ec er em

    -- The columns have claimed.
    module _ {cols' rows' marks' : List ℕ} (e : claims_of cols' rows' marks' ≡ downward n claim (claims_of cols rows marks)) where
      claims_are : claims_of cols' rows' marks' ≡ claims n cost
      claims_are = e ∙ claimed_is n cost cols rows marks ec er em

      pub rows_are : rows' ≡ (claims n cost).rows
      rows_are = ap (λ (s : Claims). s.rows) claims_are

      pub cleared : {v : List ℤ} {frees : List ℕ} → v ≡ table n (λ j. (minimum n cost j).value) → frees ≡ table n (λ i. 0) → Cleared n cost cols' marks' v frees
      cleared ev ef = record { cols_are = ap (λ (s : Claims). s.cols) claims_are; marks_are = ap (λ (s : Claims). s.marks) claims_are; prices_are = ev; frees_are = ef }
