-- Rule 1 by order alone: the two lowest are the first two by value, then place. Assumes nothing.
use mathlib.Core.Path.{◌≡◌, refl, sym, ◌∙◌, ap, subst}
use mathlib.Core.Logic.{◌≢◌}
use mathlib.Core.Bool.{true, false}
use Prim.Native.Nat.{ℕ, suc, ◌≤◌, ◌<◌}
use native.Mathlib.Decide.{ℕ_discrete}
use native.Mathlib.Omega.{arith}
use lib.IntN.{ℤ}
use lib.Signed.{le_z, lt_z, ◌≤ℤ◌, ◌<ℤ◌, ≤ℤ_refl}
use Rattle.ints.proofs.Ranges.{zarith}
use Rattle.lists.proofs.Runs.{upward_keeps}
use Rattle.lists.proofs.Cases.{cond_cases, below_suc, here_or_elsewhere}
use Rattle.rules.specs.declared.Low.{Low}
use Rattle.rules.specs.declared.TwoLowest.{TwoLowest}
use Rattle.rules.specs.declared.TwoLowest.TheVariants.{One, Two}
use Rattle.rules.specs.Lowest.{low, beside, two_step, two_lowest}
use Rattle.reduction.specs.Candidates.{Before, FirstTwo}

-- ---- the order

module _ {f : ℕ → ℤ} where
  pub before_below : {a b : ℕ} → f a <ℤ f b → Before f a b
  before_below h = record { no_more = omega zarith; tie = λ l. absurd (omega zarith) }

  pub before_left : {a b : ℕ} → a < b → f a ≤ℤ f b → Before f a b
  before_left l h = record { no_more = h; tie = λ z. l }

  pub before_trans : {a b c : ℕ} → Before f a b → Before f b c → Before f a c
  before_trans r s = record {
    no_more = omega (zarith, r.no_more, s.no_more);
    tie = λ l. omega (arith, r.tie (omega (zarith, s.no_more)), s.tie (omega (zarith, r.no_more)));
  }

  before_not_after : {a b : ℕ} → Before f a b → Before f b a → ⊥
  before_not_after r s = omega (arith, r.tie s.no_more, s.tie r.no_more)

-- ---- the first two

module _ {f : ℕ → ℤ} {n a b : ℕ} (r : FirstTwo f n a b) where
  pub in_order : Before f a b
  in_order = r.first b r.second_inside (λ e. r.apart (sym e))

  first_no_lower : (k : ℕ) → k < n → f a ≤ℤ f k
  first_no_lower = here_or_elsewhere (λ k. k < n → f a ≤ℤ f k) a (λ l. ≤ℤ_refl (f a)) (λ k d l. (r.first k l d).no_more)

  second_no_lower : (k : ℕ) → k < n → k ≢ a → f b ≤ℤ f k
  second_no_lower = here_or_elsewhere (λ k. k < n → k ≢ a → f b ≤ℤ f k) b (λ l d. ≤ℤ_refl (f b)) (λ k e l d. (r.second k l d e).no_more)

  first_unique : {c d : ℕ} → FirstTwo f n c d → a ≡ c
  first_unique {c} s = elim (ℕ_discrete a c) [
    | yes e ↦ e
    | no e ↦ absurd (before_not_after (r.first c s.first_inside (λ z. e (sym z))) (s.first a r.first_inside e))
  ]

  second_unique : {d : ℕ} → FirstTwo f n a d → b ≡ d
  second_unique {d} s = elim (ℕ_discrete b d) [
    | yes e ↦ e
    | no e ↦ absurd (before_not_after (r.second d s.second_inside (λ z. s.apart (sym z)) (λ z. e (sym z))) (s.second b r.second_inside (λ z. r.apart (sym z)) e))
  ]

-- ---- what rule 1 finds

-- Two lows are the first two.
pub record AreFirst (f : ℕ → ℤ) (k : ℕ) (x y : Low) : Type 0 where
  pub first_is : x ≡ low (f x.place) x.place
  pub second_is : y ≡ low (f y.place) y.place
  pub ordered : FirstTwo f k x.place y.place

-- One alone: there is one place.
abbrev Right : (ℕ → ℤ) → ℕ → TwoLowest → Type 0
Right f k (One x) = (k ≡ 1) × (x ≡ low (f 0) 0)
Right f k (Two x y) = AreFirst f k x y

module _ (f : ℕ → ℤ) (k : ℕ) (x : Low) (is : x ≡ low (f x.place) x.place) (inside : x.place < k) (first : (j : ℕ) → j < k → j ≢ x.place → Before f x.place j) where
  abbrev here : ℕ
  here = x.place

  value_is : x.value ≡ f here
  value_is = ap (λ (z : Low). z.value) is

  no_lower : (j : ℕ) → j < k → f here ≤ℤ f j
  no_lower = here_or_elsewhere (λ j. j < k → f here ≤ℤ f j) here (λ l. ≤ℤ_refl (f here)) (λ j d l. (first j l d).no_more)

  as_second : le_z x.value (f k) ≡ true → ((j : ℕ) → j < k → j ≢ here → f k <ℤ f j) → AreFirst f (suc k) x (low (f k) k)
  as_second t o = record {
    first_is = is;
    second_is = refl;
    ordered = record {
      first_inside = omega arith;
      second_inside = omega arith;
      apart = λ e. omega arith;
      first = below_suc (λ j. j ≢ here → Before f here j) first (λ d. before_left inside (omega (zarith, value_is)));
      second = below_suc (λ j. j ≢ here → j ≢ k → Before f k j) (λ j l d e. before_below (o j l d)) (λ d e. absurd (e refl));
    };
  }

  as_first : le_z x.value (f k) ≡ false → AreFirst f (suc k) (low (f k) k) x
  as_first t = record {
    first_is = refl;
    second_is = is;
    ordered = record {
      first_inside = omega arith;
      second_inside = omega arith;
      apart = λ e. omega arith;
      first = below_suc (λ j. j ≢ k → Before f k j) (λ j l d. before_below (omega (zarith, value_is, no_lower j l))) (λ d. absurd (d refl));
      second = below_suc (λ j. j ≢ k → j ≢ here → Before f here j) (λ j l d e. first j l e) (λ d e. absurd (d refl));
    };
  }

  beside_first : ((j : ℕ) → j < k → j ≢ here → f k <ℤ f j) → Right f (suc k) (beside x (low (f k) k))
  beside_first o = cond_cases (le_z x.value (f k)) (Right f (suc k)) (Two x (low (f k) k)) (Two (low (f k) k) x) (λ t. as_second t o) as_first

still_first : (f : ℕ → ℤ) (k : ℕ) (x y : Low) → AreFirst f k x y → lt_z (f k) y.value ≡ false → AreFirst f (suc k) x y
still_first f k x y r t =
    let a = x.place in
    let b = y.place in
    let o = r.ordered in
    let e : y.value ≡ f b = ap (λ (z : Low). z.value) r.second_is in
    let l : f b ≤ℤ f k = omega (zarith, e) in
    record {
      first_is = r.first_is;
      second_is = r.second_is;
      ordered = record {
        first_inside = omega (arith, o.first_inside);
        second_inside = omega (arith, o.second_inside);
        apart = o.apart;
        first = below_suc (λ j. j ≢ a → Before f a j) o.first (λ d. before_left o.first_inside (omega (zarith, first_no_lower o b o.second_inside)));
        second = below_suc (λ j. j ≢ a → j ≢ b → Before f b j) o.second (λ d h. before_left o.second_inside l);
      };
    }

step_first : (f : ℕ → ℤ) (k : ℕ) (t : TwoLowest) → Right f k t → Right f (suc k) (two_step t (low (f k) k))
step_first f k (One x) r =
    let z : x.place ≡ 0 = ap (λ (y : Low). y.place) r.1 in
    beside_first f k x (r.1 ∙ ap (λ (m : ℕ). low (f m) m) (sym z)) (omega (arith, r.0))
    (λ j l d. absurd (d (omega (arith, r.0)))) (λ j l d. absurd (d (omega (arith, r.0))))
step_first f k (Two x y) r =
    let o = r.ordered in
    let e : y.value ≡ f y.place = ap (λ (z : Low). z.value) r.second_is in
    cond_cases (lt_z (f k) y.value) (Right f (suc k)) (beside x (low (f k) k)) (Two x y)
    (λ t. beside_first f k x r.first_is o.first_inside o.first (λ j l d. omega (zarith, e, second_no_lower o j l d)))
    (λ t. still_first f k x y r t)

found_first : (n : ℕ) (f : ℕ → ℤ) → 1 ≤ n → Right f n (two_lowest n f)
unfolding two_lowest
found_first n f one =
    upward_keeps (Right f) 1 n (λ j found. two_step found (low (f j) j)) (One (low (f 0) 0)) one (refl, refl) (λ k t l m r. step_first f k t r)

-- The first two by value, then place, are the two lowest that rule 1 finds.
pub first_two_found : {n : ℕ} {f : ℕ → ℤ} {a b : ℕ} → FirstTwo f n a b → two_lowest n f ≡ Two (low (f a) a) (low (f b) b)
first_two_found {n} {f} {a} {b} r = by (two_lowest n f) (found_first n f (omega (arith, r.first_inside)))
  where
    by : (t : TwoLowest) → Right f n t → t ≡ Two (low (f a) a) (low (f b) b)
    by (One x) s = absurd (r.apart (omega (arith, s.0, r.first_inside, r.second_inside)))
    by (Two x y) s =
        let d : a ≡ x.place = first_unique r s.ordered in
        let o : FirstTwo f n a y.place = subst (λ (m : ℕ). FirstTwo f n m y.place) (sym d) s.ordered in
        let e : b ≡ y.place = second_unique r o in
        let p : x ≡ low (f a) a = s.first_is ∙ ap (λ (m : ℕ). low (f m) m) (sym d) in
        let q : y ≡ low (f b) b = s.second_is ∙ ap (λ (m : ℕ). low (f m) m) (sym e) in
        ap (λ (z : Low). Two z y) p ∙ ap (λ (z : Low). Two (low (f a) a) z) q

-- What rule 1 finds are the first two by value, then place.
pub found_are_first : (n : ℕ) (f : ℕ → ℤ) {x y : Low} → 1 ≤ n → Two x y ≡ two_lowest n f → AreFirst f n x y
found_are_first n f one e = subst (Right f n) (sym e) (found_first n f one)
