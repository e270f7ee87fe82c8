-- The first three columns of a row and a limit of the others, as a loop over the row has them. Assumes nothing.
use mathlib.Core.Path.{◌≡◌, refl, sym, ap, ap₂, subst, ◌∙◌}
use mathlib.Core.Logic.{◌≢◌, inl, inr}
use mathlib.Core.Bool.{true, false, cond}
use Prim.Native.Nat.{ℕ, suc, ◌≤◌, ◌<◌}
use native.Mathlib.Decide.{ℕ_discrete}
use native.Mathlib.Omega.{arith}
use lib.IntN.{ℤ, pos, negsuc}
use lib.Signed.{lt_z, ◌≤ℤ◌, ◌<ℤ◌, ≤ℤ_refl}
use mir.Syntax.{w64}
use mir.Val.{SFits}
use Rattle.ints.proofs.Ranges.{zarith}
use Rattle.std.specs.Prelude.{Option, Some, None}
use Rattle.lists.specs.Runs.{FindsFrom}
use Rattle.lists.proofs.Cases.{cond_cases, below_suc, lt_or_le}
use Rattle.rules.specs.declared.Low.{Low}
use Rattle.rules.specs.declared.TwoLowest.TheVariants.{Two}
use Rattle.rules.specs.Lowest.{low, beside, two_lowest}
use Rattle.reduction.specs.declared.candidates.Three.{Three}
use Rattle.reduction.specs.Candidates.{Before, FirstTwo, Candidates, FirstThree, FoundThree, three, far, start_three, insert}
use Rattle.reduction.proofs.Turns.{two_lowest_two}
use Rattle.reduction.proofs.Order.{AreFirst, found_are_first, before_below, before_left, before_trans, in_order, first_two_found}
use Rattle.reduction.proofs.Recalled.{candidates_qpr, candidates_prq}

-- ---- the candidates found: the first three, and a bound of the others, as a loop over the row has them

module _ {f : ℕ → ℤ} {w : ℤ} where
  -- Of the first three places nothing is left out.
  three_start : {p q r : ℕ} → Candidates f 3 p q r w → Before f p q → Before f q r → f r ≤ℤ w → FirstThree f 3 p q r w
  three_start c pq qr b = record {
    kept = c;
    first = pq;
    second = qr;
    rest = λ k l d e h. absurd (omega (arith, c.p_inside, c.q_inside, c.r_inside, c.p_q, c.p_r, c.q_r));
    bound = b;
  }

  -- The place 2 beside the first two of 0 and 1: w is any value that the third is not above.
  module _ {p q : ℕ} (t : FirstTwo f 2 p q) where
    start_candidates : Candidates f 3 p q 2 w
    start_candidates = record {
      p_inside = omega (arith, t.first_inside);
      q_inside = omega (arith, t.second_inside);
      r_inside = omega arith;
      p_q = t.apart;
      p_r = λ e. omega (arith, t.first_inside);
      q_r = λ e. omega (arith, t.second_inside);
      others = λ k l d e h. absurd (omega (arith, t.first_inside, t.second_inside, t.apart));
    }

    start_third : f q ≤ℤ f 2 → f 2 ≤ℤ w → FirstThree f 3 p q 2 w
    start_third h = three_start start_candidates (in_order t) (before_left t.second_inside h)

    start_second : f p ≤ℤ f 2 → f 2 <ℤ f q → f q ≤ℤ w → FirstThree f 3 p 2 q w
    start_second h l = three_start (candidates_prq start_candidates) (before_left t.first_inside h) (before_below l)

    start_first : f 2 <ℤ f p → f q ≤ℤ w → FirstThree f 3 2 p q w
    start_first l = three_start (candidates_qpr (candidates_prq start_candidates)) (before_below l) (in_order t)

module _ {f : ℕ → ℤ} {n p q r : ℕ} {w : ℤ} (t : FirstThree f n p q r w) where
  -- The two lowest are the first two of three.
  first_three_two : two_lowest n f ≡ Two (low (f p) p) (low (f q) q)
  first_three_two = first_two_found (record {
    first_inside = t.kept.p_inside;
    second_inside = t.kept.q_inside;
    apart = t.kept.p_q;
    first = λ k l d. elim (ℕ_discrete k q) [
      | yes e ↦ subst (Before f p) (sym e) t.first
      | no e ↦ before_trans t.first (after k l d e)
    ];
    second = after;
  })
    where
      after : (k : ℕ) → k < n → k ≢ p → k ≢ q → Before f q k
      after k l d e = elim (ℕ_discrete k r) [
        | yes h ↦ subst (Before f q) (sym h) t.second
        | no h ↦ before_trans t.second (t.rest k l d e h)
      ]

  -- Past places that are not below the bound.
  three_pass : (m : ℕ) → n ≤ m → ((k : ℕ) → k < m → n ≤ k → lt_z (f k) w ≡ false) → FirstThree f m p q r w
  three_pass m more passed = record {
    kept = record {
      p_inside = omega (arith, t.kept.p_inside);
      q_inside = omega (arith, t.kept.q_inside);
      r_inside = omega (arith, t.kept.r_inside);
      p_q = t.kept.p_q;
      p_r = t.kept.p_r;
      q_r = t.kept.q_r;
      others = λ k l d e h. elim (lt_or_le k n) [
        | inl a ↦ t.kept.others k a d e h
        | inr a ↦ above k l a
      ];
    };
    first = t.first;
    second = t.second;
    rest = λ k l d e h. elim (lt_or_le k n) [
      | inl a ↦ t.rest k a d e h
      | inr a ↦ before_left (omega (arith, t.kept.r_inside)) (omega (zarith, t.bound, above k l a))
    ];
    bound = t.bound;
  }
    where
      above : (k : ℕ) → k < m → n ≤ k → w ≤ℤ f k
      above k l a = let z : lt_z (f k) w ≡ false = passed k l a in omega zarith

  -- The place n is the fourth: its value is the bound from then on.
  three_fourth : f r ≤ℤ f n → f n ≤ℤ w → FirstThree f (suc n) p q r (f n)
  three_fourth h l = record {
    kept = record {
      p_inside = omega (arith, t.kept.p_inside);
      q_inside = omega (arith, t.kept.q_inside);
      r_inside = omega (arith, t.kept.r_inside);
      p_q = t.kept.p_q;
      p_r = t.kept.p_r;
      q_r = t.kept.q_r;
      others = below_suc (λ k. k ≢ p → k ≢ q → k ≢ r → f n ≤ℤ f k) (λ k i a b c. omega (zarith, t.kept.others k i a b c)) (λ a b c. ≤ℤ_refl (f n));
    };
    first = t.first;
    second = t.second;
    rest = below_suc (λ k. k ≢ p → k ≢ q → k ≢ r → Before f r k) t.rest (λ a b c. before_left t.kept.r_inside h);
    bound = h;
  }

  -- It is below the third: the third leaves, and its value is the bound from then on.
  module _ (low-enough : f n <ℤ f r) where
    -- What is left out comes after what came before the third.
    left_out : (x : ℕ) → Before f x r → (k : ℕ) → k < n → k ≢ p → k ≢ q → Before f x k
    left_out x b k l d e = elim (ℕ_discrete k r) [
      | yes h ↦ subst (Before f x) (sym h) b
      | no h ↦ before_trans b (t.rest k l d e h)
    ]

    fallen : (k : ℕ) → k < n → k ≢ p → k ≢ q → f r ≤ℤ f k
    fallen k l d e = elim (ℕ_discrete k r) [
      | yes h ↦ subst (λ (m : ℕ). f r ≤ℤ f m) (sym h) (≤ℤ_refl (f r))
      | no h ↦ (t.rest k l d e h).no_more
    ]

    taken : Candidates f (suc n) p q n (f r)
    taken = record {
      p_inside = omega (arith, t.kept.p_inside);
      q_inside = omega (arith, t.kept.q_inside);
      r_inside = omega arith;
      p_q = t.kept.p_q;
      p_r = λ e. omega (arith, t.kept.p_inside);
      q_r = λ e. omega (arith, t.kept.q_inside);
      others = below_suc (λ k. k ≢ p → k ≢ q → k ≢ n → f r ≤ℤ f k) (λ k l d e h. fallen k l d e) (λ d e h. absurd (h refl));
    }

    three_third : f q ≤ℤ f n → FirstThree f (suc n) p q n (f r)
    three_third h = record {
      kept = taken;
      first = t.first;
      second = before_left t.kept.q_inside h;
      rest = below_suc (λ k. k ≢ p → k ≢ q → k ≢ n → Before f n k) (λ k l d e z. left_out n (before_below low-enough) k l d e) (λ d e z. absurd (z refl));
      bound = omega zarith;
    }

    three_second : f p ≤ℤ f n → f n <ℤ f q → FirstThree f (suc n) p n q (f r)
    three_second h l = record {
      kept = candidates_prq taken;
      first = before_left t.kept.p_inside h;
      second = before_below l;
      rest = below_suc (λ k. k ≢ p → k ≢ n → k ≢ q → Before f q k) (λ k i d z e. left_out q t.second k i d e) (λ d z e. absurd (z refl));
      bound = t.second.no_more;
    }

    three-first : f n <ℤ f p → FirstThree f (suc n) n p q (f r)
    three-first l = record {
      kept = candidates_qpr (candidates_prq taken);
      first = before_below l;
      second = t.first;
      rest = below_suc (λ k. k ≢ n → k ≢ p → k ≢ q → Before f q k) (λ k i z d e. left_out q t.second k i d e) (λ z d e. absurd (z refl));
      bound = t.second.no_more;
    }

-- ---- the same of values at their places, as code holds them

module _ (f : ℕ → ℤ) where
  -- Column 2 beside the first two of columns 0 and 1.
  start_found : {x y : Low} → AreFirst f 2 x y → ((k : ℕ) → k < 3 → f k ≤ℤ far) → FoundThree f 3 (start_three x y (low (f 2) 2))
  start_found {x} {y} r most =
      let z = low (f 2) 2 in
      let o = r.ordered in
      let e : x.value ≡ f x.place = ap (λ (l : Low). l.value) r.first_is in
      let d : y.value ≡ f y.place = ap (λ (l : Low). l.value) r.second_is in
      let far-y : f y.place ≤ℤ far = most y.place (omega (arith, o.second_inside)) in
      cond_cases (lt_z (f 2) y.value) (FoundThree f 3) (cond (lt_z (f 2) x.value) (three z x y far) (three x z y far)) (three x y z far)
      (λ t. cond_cases (lt_z (f 2) x.value) (FoundThree f 3) (three z x y far) (three x z y far)
      (λ u. record { first_is = refl; second_is = e; third_is = d; places = start_first o (omega (zarith, e)) far-y })
      (λ u. record { first_is = e; second_is = refl; third_is = d; places = start_second o (omega (zarith, e)) (omega (zarith, d)) far-y }))
      (λ t. record { first_is = e; second_is = d; third_is = refl; places = start_third o (omega (zarith, d)) (most 2 (omega arith)) })

  module _ (n : ℕ) (t : Three) (r : FoundThree f n t) where
    pub three_two : Two t.first t.second ≡ two_lowest n f
    three_two =
        ap (λ (z : ℤ). Two (low z t.first.place) t.second) r.first_is
        ∙ ap (λ (z : ℤ). Two (low (f t.first.place) t.first.place) (low z t.second.place)) r.second_is
        ∙ sym (first_three_two r.places)

    -- Past columns that are not below the limit.
    pub pass_found : (m : ℕ) → n ≤ m → ((k : ℕ) → k < m → n ≤ k → lt_z (f k) t.limit ≡ false) → FoundThree f m t
    pass_found m l passed = record { first_is = r.first_is; second_is = r.second_is; third_is = r.third_is; places = three_pass r.places m l passed }

    fourth_found : lt_z (f n) t.third.value ≡ false → lt_z (f n) t.limit ≡ true → FoundThree f (suc n) (three t.first t.second t.third (f n))
    fourth_found h l = record {
      first_is = r.first_is;
      second_is = r.second_is;
      third_is = r.third_is;
      places = three_fourth r.places (omega (zarith, r.third_is)) (omega zarith);
    }

    third_found : lt_z (f n) t.third.value ≡ true → lt_z (f n) t.second.value ≡ false
        → FoundThree f (suc n) (three t.first t.second (low (f n) n) t.third.value)
    third_found h l = record {
      first_is = r.first_is;
      second_is = r.second_is;
      third_is = refl;
      places = subst (FirstThree f (suc n) t.first.place t.second.place n) (sym r.third_is)
          (three_third r.places (omega (zarith, r.third_is)) (omega (zarith, r.second_is)));
    }

    second_found : lt_z (f n) t.second.value ≡ true → lt_z (f n) t.first.value ≡ false
        → FoundThree f (suc n) (three t.first (low (f n) n) t.second t.third.value)
    second_found h l = record {
      first_is = r.first_is;
      second_is = refl;
      third_is = r.second_is;
      places = subst (FirstThree f (suc n) t.first.place n t.second.place) (sym r.third_is)
          (three_second r.places (omega (zarith, r.second_is, r.places.second.no_more)) (omega (zarith, r.first_is)) (omega (zarith, r.second_is)));
    }

    first_found : lt_z (f n) t.first.value ≡ true → FoundThree f (suc n) (three (low (f n) n) t.first t.second t.third.value)
    first_found h = record {
      first_is = refl;
      second_is = r.first_is;
      third_is = r.second_is;
      places = subst (FirstThree f (suc n) n t.first.place t.second.place) (sym r.third_is)
          (three-first r.places (omega (zarith, r.first_is, r.places.first.no_more, r.places.second.no_more)) (omega (zarith, r.first_is)));
    }

    -- Column n, which is below the limit.
    pub insert-found : lt_z (f n) t.limit ≡ true → FoundThree f (suc n) (insert t (low (f n) n))
    insert-found below =
        let h = low (f n) n in
        let a = t.first in
        let b = t.second in
        let w = t.third.value in
        cond_cases (lt_z (f n) w) (FoundThree f (suc n)) (cond (lt_z (f n) b.value) (cond (lt_z (f n) a.value) (three h a b w) (three a h b w)) (three a b h w)) (three a b t.third (f n))
        (λ x. cond_cases (lt_z (f n) b.value) (FoundThree f (suc n)) (cond (lt_z (f n) a.value) (three h a b w) (three a h b w)) (three a b h w)
        (λ y. cond_cases (lt_z (f n) a.value) (FoundThree f (suc n)) (three h a b w) (three a h b w) first_found (second_found y))
        (third_found x))
        (λ x. fourth_found x below)

-- ---- the first three columns, as code reads them

-- No number of 64 bits is above `far`.
far_most : (z : ℤ) → SFits w64 z → z ≤ℤ far
far_most (pos n) h = omega (zarith, h.sfits)
far_most (negsuc n) h = omega zarith

-- Columns 0, 1 and 2 were read as a, b and c; x and y are the first two of a and b.
pub started : (f : ℕ → ℤ) (t : Three) (x y a b c : Low) → a ≡ low (f 0) 0 → b ≡ low (f 1) 1 → c ≡ low (f 2) 2 → SFits w64 a.value → SFits w64 b.value
    → SFits w64 c.value → Two x y ≡ beside a b → t ≡ start_three x y c → FoundThree f 3 t
started f t x y a b c p q r fits-a fits-b fits-c e s =
    subst (FoundThree f 3) (sym (s ∙ ap (start_three x y) r))
    (start_found f (found_are_first 2 f (omega arith) (e ∙ ap₂ beside p q ∙ sym (two_lowest_two f))) most)
  where
    most : (k : ℕ) → k < 3 → f k ≤ℤ far
    most k l = elim (ℕ_discrete k 0) [
      | yes h ↦ subst (λ (m : ℕ). f m ≤ℤ far) (sym h) (subst (λ (z : Low). z.value ≤ℤ far) p (far_most a.value fits-a))
      | no h ↦ elim (ℕ_discrete k 1) [
        | yes i ↦ subst (λ (m : ℕ). f m ≤ℤ far) (sym i) (subst (λ (z : Low). z.value ≤ℤ far) q (far_most b.value fits-b))
        | no i ↦ let j : 2 ≡ k = omega arith in subst (λ (m : ℕ). f m ≤ℤ far) j (subst (λ (z : Low). z.value ≤ℤ far) r (far_most c.value fits-c))
      ]
    ]

-- ---- the next column that counts, as code finds it

-- The first three of the columns before it; of all where there is none.
abbrev pub NextThree : (ℕ → ℤ) → ℕ → Three → Option ℕ → Type 0
NextThree f n t None = FoundThree f n t
NextThree f n t (Some j) = (3 ≤ j) × (j < n) × FoundThree f j t × (lt_z (f j) t.limit ≡ true)

pub next_three : (f : ℕ → ℤ) (n : ℕ) (t : Three) (j : ℕ) → 3 ≤ j → j ≤ n → FoundThree f j t → (r : Option ℕ)
    → FindsFrom j n (λ k b. b ≡ lt_z (f k) t.limit) r → NextThree f n t r
next_three f n t j h l e None q = pass_found f j t e n l (λ k m i. sym (q k i m))
next_three f n t j h l e (Some r) q = (omega (arith, q.0), q.1, pass_found f j t e r q.0 (λ k m i. sym (q.3 k i m)), sym q.2)
