-- Three columns kept of a row: their first two are the two lowest of the row, as long as the second is below the limit. Assumes nothing.
use mathlib.Core.Path.{◌≡◌, sym, subst}
use mathlib.Core.Logic.{◌≢◌}
use mathlib.Core.Bool.{Bool, true, false, cond, true≢false}
use Prim.Native.Nat.{ℕ, ◌<◌}
use native.Mathlib.Decide.{ℕ_discrete}
use native.Mathlib.Omega.{arith}
use borrow.Author.Tests.{ltb-true, ltb-false}
use lib.IntN.{ℤ}
use lib.Signed.{lt_z, ◌≤ℤ◌, ◌<ℤ◌}
use Rattle.ints.proofs.Ranges.{zarith}
use Rattle.lists.proofs.Cases.{cond_cases}
use Rattle.rules.specs.declared.Low.{Low}
use Rattle.rules.specs.declared.TwoLowest.{TwoLowest}
use Rattle.rules.specs.declared.TwoLowest.TheVariants.{Two}
use Rattle.rules.specs.Lowest.{low, two_lowest}
use Rattle.reduction.specs.Candidates.{Before, FirstTwo, Candidates, stands_before, comes_before, beside_two, first_two, settled}
use Rattle.reduction.proofs.Order.{before_below, before_left, before_trans, first_two_found}

-- ---- the order by its test

stands_before_lem : (x y : Low) → stands_before x y ≡ true → x.place < y.place
stands_before_lem x y e = ltb-true x.place y.place e

stands_after : (x y : Low) → x.place ≢ y.place → stands_before x y ≡ false → y.place < x.place
stands_after x y d e = omega (arith, ltb-false x.place y.place e, d)

module _ (f : ℕ → ℤ) (a b : ℕ) where
  comes_before_lem : comes_before (low (f a) a) (low (f b) b) ≡ true → Before f a b
  comes_before_lem =
      cond_cases (lt_z (f a) (f b)) (λ (t : Bool). t ≡ true → Before f a b) true _ (λ h e. before_below (omega zarith))
      (λ h. cond_cases (lt_z (f b) (f a)) (λ (t : Bool). t ≡ true → Before f a b) false _ (λ k e. absurd (true≢false (sym e)))
      (λ k e. before_left (stands_before_lem (low (f a) a) (low (f b) b) e) (omega zarith)))

  comes_after : a ≢ b → comes_before (low (f a) a) (low (f b) b) ≡ false → Before f b a
  comes_after d =
      cond_cases (lt_z (f a) (f b)) (λ (t : Bool). t ≡ false → Before f b a) true _ (λ h e. absurd (true≢false e))
      (λ h. cond_cases (lt_z (f b) (f a)) (λ (t : Bool). t ≡ false → Before f b a) false _ (λ k e. before_below (omega zarith))
      (λ k e. before_left (stands_after (low (f a) a) (low (f b) b) d e) (omega zarith)))

-- ---- the candidates

module _ {n p q r : ℕ} {w : ℤ} where
  -- What bounds the others bounds them as they rise.
  pub candidates_rise : {f g : ℕ → ℤ} → Candidates g n p q r w → ((k : ℕ) → k < n → g k ≤ℤ f k) → Candidates f n p q r w
  candidates_rise c up = record {
    p_inside = c.p_inside;
    q_inside = c.q_inside;
    r_inside = c.r_inside;
    p_q = c.p_q;
    p_r = c.p_r;
    q_r = c.q_r;
    others = λ k l d e h. omega (zarith, c.others k l d e h, up k l);
  }

  -- In another order.
  pub candidates_qpr : {f : ℕ → ℤ} → Candidates f n p q r w → Candidates f n q p r w
  candidates_qpr c = record {
    p_inside = c.q_inside;
    q_inside = c.p_inside;
    r_inside = c.r_inside;
    p_q = λ e. c.p_q (sym e);
    p_r = c.q_r;
    q_r = c.p_r;
    others = λ k l d e h. c.others k l e d h;
  }

  pub candidates_prq : {f : ℕ → ℤ} → Candidates f n p q r w → Candidates f n p r q w
  candidates_prq c = record {
    p_inside = c.p_inside;
    q_inside = c.r_inside;
    r_inside = c.q_inside;
    p_q = c.p_r;
    p_r = c.p_q;
    q_r = λ e. c.q_r (sym e);
    others = λ k l d e h. c.others k l d h e;
  }

  -- The second of them is below all others: the first two of them are the first two of all.
  candidates_first : {f : ℕ → ℤ} → Candidates f n p q r w → Before f p q → Before f q r → f q <ℤ w → FirstTwo f n p q
  candidates_first {f} c pq qr low-enough = record {
    first_inside = c.p_inside;
    second_inside = c.q_inside;
    apart = c.p_q;
    first = λ k l d. elim (ℕ_discrete k q) [
      | yes e ↦ subst (Before f p) (sym e) pq
      | no e ↦ before_trans pq (second k l d e)
    ];
    second = second;
  }
    where
      second : (k : ℕ) → k < n → k ≢ p → k ≢ q → Before f q k
      second k l d e = elim (ℕ_discrete k r) [
        | yes h ↦ subst (Before f q) (sym h) qr
        | no h ↦ before_below (omega (zarith, c.others k l d e h))
      ]

-- ---- the first two of the candidates

-- As code puts them in order: where the second is below the limit they are the two lowest.
module _ (n : ℕ) (f : ℕ → ℤ) (limit : ℤ) where
  abbrev Settles : TwoLowest → Type 0
  Settles two = settled two limit ≡ true → two ≡ two_lowest n f

  candidates_settle : {p q r : ℕ} → Candidates f n p q r limit → Before f p q → Before f q r → Settles (Two (low (f p) p) (low (f q) q))
  candidates_settle c pq qr below = sym (first_two_found (candidates_first c pq qr (omega zarith)))

  beside_settles : (p q r : ℕ) → Candidates f n p q r limit → Before f p q → Settles (beside_two (low (f p) p) (low (f q) q) (low (f r) r))
  beside_settles p q r c pq =
      let x = low (f p) p in
      let y = low (f q) q in
      let z = low (f r) r in
      cond_cases (comes_before z y) Settles (cond (comes_before z x) (Two z x) (Two x z)) (Two x y)
      (λ t. cond_cases (comes_before z x) Settles (Two z x) (Two x z)
      (λ u. candidates_settle (candidates_qpr (candidates_prq c)) (comes_before_lem f r p u) pq)
      (λ u. candidates_settle (candidates_prq c) (comes_after f r p (λ e. c.p_r (sym e)) u) (comes_before_lem f r q t)))
      (λ t. candidates_settle c pq (comes_after f r q (λ e. c.q_r (sym e)) t))

  pub first_two_settles : (p q r : ℕ) → Candidates f n p q r limit → Settles (first_two (low (f p) p) (low (f q) q) (low (f r) r))
  first_two_settles p q r c =
      let x = low (f p) p in
      let y = low (f q) q in
      let z = low (f r) r in
      cond_cases (comes_before y x) Settles (beside_two y x z) (beside_two x y z)
      (λ t. beside_settles q p r (candidates_qpr c) (comes_before_lem f q p t))
      (λ t. beside_settles p q r c (comes_after f q p (λ e. c.p_q (sym e)) t))
