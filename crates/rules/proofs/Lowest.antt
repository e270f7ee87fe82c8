-- Rule 1 and the least values of rule 3 are what their names say: the lowest and the second lowest of a row, the lowest of a column, and the
-- least but one. Only values at places below n count. Assumes nothing.
use mathlib.Core.Path.{◌≡◌, refl, sym, ◌∙◌, ap, subst}
use mathlib.Core.Logic.{◌≢◌}
use mathlib.Core.Bool.{true, false, cond}
use Prim.Native.Nat.{ℕ, suc, ◌≤◌, ◌<◌}
use native.Mathlib.Omega.{arith}
use borrow.Author.Tests.{eqb-true, eqb-false}
use lib.Dec.{eqb}
use lib.IntN.{ℤ}
use lib.Signed.{le_z, lt_z, ◌≤ℤ◌, ≤ℤ_refl}
use Rattle.std.specs.Prelude.{Option, Some, None}
use Rattle.ints.proofs.Shapes.{zlin}
use Rattle.lists.specs.Runs.{upward}
use Rattle.lists.proofs.Runs.{upward_keeps, upward_cong}
use Rattle.lists.proofs.Cases.{cond_cases, below_suc}
use Rattle.rules.specs.declared.Low.{Low}
use Rattle.rules.specs.declared.TwoLowest.{TwoLowest}
use Rattle.rules.specs.declared.TwoLowest.TheVariants.{One, Two}
use Rattle.rules.specs.Lowest.{low, beside, two_step, two_lowest, lower, lowest, least, least_but}

-- ---- the lowest

-- a is a value of f below k, and no value there is lower.
pub record IsLowest (f : ℕ → ℤ) (k : ℕ) (a : Low) : Type 0 where
  pub inside : a.place < k
  pub value_is : a.value ≡ f a.place
  pub no_lower : (j : ℕ) → j < k → a.value ≤ℤ f j

lower_is : (f : ℕ → ℤ) (k : ℕ) (a : Low) → IsLowest f k a → IsLowest f (suc k) (lower a (low (f k) k))
lower_is f k a r =
    cond_cases (lt_z (f k) a.value) (IsLowest f (suc k)) (low (f k) k) a
    (λ t. record {
      inside = omega arith;
      value_is = refl;
      no_lower = below_suc (λ j. f k ≤ℤ f j) (λ j l. omega (zlin, r.no_lower j l)) (≤ℤ_refl (f k));
    })
    (λ t. record {
      inside = omega (arith, r.inside);
      value_is = r.value_is;
      no_lower = below_suc (λ j. a.value ≤ℤ f j) r.no_lower (omega zlin);
    })

pub lowest_is : (n : ℕ) (f : ℕ → ℤ) → 1 ≤ n → IsLowest f n (lowest n f)
unfolding lowest
lowest_is n f one =
    upward_keeps (IsLowest f) 1 n (λ i found. lower found (low (f i) i)) (low (f 0) 0) one
    (record { inside = omega arith; value_is = refl; no_lower = below_suc (λ j. f 0 ≤ℤ f j) (λ j l. absurd (omega arith)) (≤ℤ_refl (f 0)) })
    (λ k a l m r. lower_is f k a r)

-- ---- the least but one

-- b is a value of f below m at another place than j, and no value there is lower.
pub record IsLeastBut (f : ℕ → ℤ) (j m : ℕ) (b : ℤ) : Type 0 where
  pub no_lower : (k : ℕ) → k < m → k ≢ j → b ≤ℤ f k
  pub one : (k : ℕ) × (k < m) × (k ≢ j) × (b ≡ f k)

-- None yet: there is no other place.
abbrev pub RightBut : (ℕ → ℤ) → ℕ → ℕ → Option ℤ → Type 0
RightBut f j m None = (k : ℕ) → k < m → k ≡ j
RightBut f j m (Some b) = IsLeastBut f j m b

least_is : (f : ℕ → ℤ) (j m : ℕ) → m ≢ j → (o : Option ℤ) → RightBut f j m o → RightBut f j (suc m) (least o (f m))
least_is f j m d None r = record {
  no_lower = below_suc (λ k. k ≢ j → f m ≤ℤ f k) (λ k l e. absurd (e (r k l))) (λ e. ≤ℤ_refl (f m));
  one = (m, omega arith, d, refl);
}
least_is f j m d (Some a) r =
    cond_cases (lt_z (f m) a) (IsLeastBut f j (suc m)) (f m) a
    (λ t. record {
      no_lower = below_suc (λ k. k ≢ j → f m ≤ℤ f k) (λ k l e. omega (zlin, r.no_lower k l e)) (λ e. ≤ℤ_refl (f m));
      one = (m, omega arith, d, refl);
    })
    (λ t. record {
      no_lower = below_suc (λ k. k ≢ j → a ≤ℤ f k) r.no_lower (λ e. omega zlin);
      one = (r.one.0, omega (arith, r.one.1), r.one.2, r.one.3);
    })

same_is : (f : ℕ → ℤ) (j m : ℕ) → m ≡ j → (o : Option ℤ) → RightBut f j m o → RightBut f j (suc m) o
same_is f j m e None r = below_suc (λ k. k ≡ j) r e
same_is f j m e (Some a) r = record {
  no_lower = below_suc (λ k. k ≢ j → a ≤ℤ f k) r.no_lower (λ d. absurd (d e));
  one = (r.one.0, omega (arith, r.one.1), r.one.2, r.one.3);
}

pub least_but_is : (n : ℕ) (f : ℕ → ℤ) (j : ℕ) → RightBut f j n (least_but n f j)
unfolding least_but
least_but_is n f j =
    upward_keeps (RightBut f j) 0 n (λ k found. cond (eqb k j) found (least found (f k))) None (omega arith)
    (λ k l. absurd (omega arith))
    (λ k o l m r. cond_cases (eqb k j) (RightBut f j (suc k)) o (least o (f k))
    (λ t. same_is f j k (eqb-true k j t) o r) (λ t. least_is f j k (eqb-false k j t) o r))

-- ---- the two lowest

-- a is the lowest value below k, and b the lowest at the other places.
pub record AreLowest (f : ℕ → ℤ) (k : ℕ) (a b : Low) : Type 0 where
  pub first_inside : a.place < k
  pub first_is : a.value ≡ f a.place
  pub second_inside : b.place < k
  pub second_is : b.value ≡ f b.place
  pub apart : a.place ≢ b.place
  pub order : a.value ≤ℤ b.value
  pub no_lower : (j : ℕ) → j < k → a.value ≤ℤ f j
  pub no_lower_but : (j : ℕ) → j < k → j ≢ a.place → b.value ≤ℤ f j

-- One alone: there is one place.
abbrev pub RightTwo : (ℕ → ℤ) → ℕ → TwoLowest → Type 0
RightTwo f k (One a) = (k ≡ 1) × (a ≡ low (f 0) 0)
RightTwo f k (Two a b) = AreLowest f k a b

module _ (f : ℕ → ℤ) (k : ℕ) (a : Low) (r : IsLowest f k a) where
  as_second : le_z a.value (f k) ≡ true → ((j : ℕ) → j < k → j ≢ a.place → f k ≤ℤ f j) → AreLowest f (suc k) a (low (f k) k)
  as_second t o = record {
    first_inside = omega (arith, r.inside);
    first_is = r.value_is;
    second_inside = omega arith;
    second_is = refl;
    apart = λ e. omega (arith, r.inside);
    order = omega zlin;
    no_lower = below_suc (λ j. a.value ≤ℤ f j) r.no_lower (omega zlin);
    no_lower_but = below_suc (λ j. j ≢ a.place → f k ≤ℤ f j) o (λ d. ≤ℤ_refl (f k));
  }

  as_lowest : le_z a.value (f k) ≡ false → AreLowest f (suc k) (low (f k) k) a
  as_lowest t = record {
    first_inside = omega arith;
    first_is = refl;
    second_inside = omega (arith, r.inside);
    second_is = r.value_is;
    apart = λ e. omega (arith, r.inside);
    order = omega zlin;
    no_lower = below_suc (λ j. f k ≤ℤ f j) (λ j l. omega (zlin, r.no_lower j l)) (≤ℤ_refl (f k));
    no_lower_but = below_suc (λ j. j ≢ k → a.value ≤ℤ f j) (λ j l d. r.no_lower j l) (λ d. absurd (d refl));
  }

  beside_right : ((j : ℕ) → j < k → j ≢ a.place → f k ≤ℤ f j) → RightTwo f (suc k) (beside a (low (f k) k))
  beside_right o =
      cond_cases (le_z a.value (f k)) (RightTwo f (suc k)) (Two a (low (f k) k)) (Two (low (f k) k) a) (λ t. as_second t o) as_lowest

still_two : (f : ℕ → ℤ) (k : ℕ) (a b : Low) → AreLowest f k a b → lt_z (f k) b.value ≡ false → AreLowest f (suc k) a b
still_two f k a b r t = record {
  first_inside = omega (arith, r.first_inside);
  first_is = r.first_is;
  second_inside = omega (arith, r.second_inside);
  second_is = r.second_is;
  apart = r.apart;
  order = r.order;
  no_lower = below_suc (λ j. a.value ≤ℤ f j) r.no_lower (omega (zlin, r.order));
  no_lower_but = below_suc (λ j. j ≢ a.place → b.value ≤ℤ f j) r.no_lower_but (λ d. omega zlin);
}

one_lowest : (f : ℕ → ℤ) (k : ℕ) (a : Low) → k ≡ 1 → a ≡ low (f 0) 0 → IsLowest f k a
one_lowest f k a e h =
    subst (IsLowest f k) (sym h)
    (record { inside = omega arith; value_is = refl; no_lower = λ j l. let z : 0 ≡ j = omega arith in subst (λ (x : ℕ). f 0 ≤ℤ f x) z (≤ℤ_refl (f 0)) })

two_step_right : (f : ℕ → ℤ) (k : ℕ) (t : TwoLowest) → RightTwo f k t → RightTwo f (suc k) (two_step t (low (f k) k))
two_step_right f k (One a) r =
    beside_right f k a (one_lowest f k a r.0 r.1)
    (λ j l d. absurd (d (let z : a.place ≡ 0 = ap (λ (x : Low). x.place) r.1 in omega (arith, r.0))))
two_step_right f k (Two a b) r =
    cond_cases (lt_z (f k) b.value) (RightTwo f (suc k)) (beside a (low (f k) k)) (Two a b)
    (λ t. beside_right f k a (record { inside = r.first_inside; value_is = r.first_is; no_lower = r.no_lower }) (λ j l d. omega (zlin, r.no_lower_but j l d)))
    (λ t. still_two f k a b r t)

pub two_lowest_is : (n : ℕ) (f : ℕ → ℤ) → 1 ≤ n → RightTwo f n (two_lowest n f)
unfolding two_lowest
two_lowest_is n f one =
    upward_keeps (RightTwo f) 1 n (λ j found. two_step found (low (f j) j)) (One (low (f 0) 0)) one (refl, refl)
    (λ k t l m r. two_step_right f k t r)

-- ---- only the values below n count

pub two_lowest_cong : (n : ℕ) (f g : ℕ → ℤ) → 1 ≤ n → ((j : ℕ) → j < n → f j ≡ g j) → two_lowest n f ≡ two_lowest n g
unfolding two_lowest
two_lowest_cong n f g one e =
    ap (λ (x : ℤ). upward 1 n (λ j found. two_step found (low (f j) j)) (One (low x 0))) (e 0 one)
    ∙ upward_cong 1 n (λ j found. two_step found (low (f j) j)) (λ j found. two_step found (low (g j) j)) (One (low (g 0) 0))
    (λ k t l m. ap (λ (x : ℤ). two_step t (low x k)) (e k m))

pub least_but_cong : (n : ℕ) (f g : ℕ → ℤ) (j : ℕ) → ((k : ℕ) → k < n → f k ≡ g k) → least_but n f j ≡ least_but n g j
unfolding least_but
least_but_cong n f g j e =
    upward_cong 0 n (λ k found. cond (eqb k j) found (least found (f k))) (λ k found. cond (eqb k j) found (least found (g k))) None
    (λ k t l m. ap (λ (x : ℤ). cond (eqb k j) t (least t x)) (e k m))
