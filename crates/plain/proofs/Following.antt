-- The next list in dictionary order, as code makes it from the end: columns that are the last become 0, and the first that is not rises by one.
-- Assumes nothing.
use mathlib.Core.Path.{◌≡◌, refl, sym, ap, ◌∙◌}
use mathlib.Core.Bool.{Bool, true, false}
use mathlib.Core.List.{List, [], ◌∷◌, ◌++◌}
use Prim.Native.Nat.{ℕ, zero, suc, ◌+◌, ◌*◌, ◌^◌, ◌≤◌, ◌<◌}
use native.Mathlib.Nat.{mul-le-mul_right, mul-lt-mul_of_pos_right, lt_of_mul-lt-mul_right, pow-zero, pow-suc}
use native.Mathlib.Omega.{arith}
use lib.Dec.{ltb}
use lib.ListN.{length, drop, set, length-set, take-append-drop}
use lib.Seq.{get_or-set_other, get_or-set_same, drop-cons, drop-set-lt, append_snoc}
use borrow.Author.Tests.{lt-ltb, le-ltb, ltb-true}
use Rattle.lists.specs.Permutations.{at}
use Rattle.lists.proofs.Cases.{flags_same}
use Rattle.plain.specs.Engine.{digits}
use Rattle.plain.proofs.Numbers.{number, Below, digits_more, digits-take, number_cong, number_below, number_digits}

-- The list after `cols`, and whether there is one.
abbrev pub after : ℕ → ℕ → List ℕ → List ℕ
after n m cols = digits n m (suc (number n m cols))

abbrev pub more : ℕ → ℕ → List ℕ → Bool
more n m cols = ltb (suc (number n m cols)) (n ^ m)

drop_put : (cols : List ℕ) (i x : ℕ) → i < length cols → drop i (set cols i x) ≡ x ∷ drop (suc i) cols
drop_put cols i x l =
    drop-cons (set cols i x) i x (omega (arith, length-set cols i x))
    ∙ ap (λ (y : ℕ). y ∷ drop (suc i) (set cols i x)) (get_or-set_same cols i x x l)
    ∙ ap (λ (t : List ℕ). x ∷ t) (drop-set-lt (suc i) cols i x (omega arith))

module _ (n : ℕ) (cols : List ℕ) (i : ℕ) (l : i < length cols) where
  put_other : (x k : ℕ) → k < i → at (set cols i x) k ≡ at cols k
  put_other x k h = get_or-set_other cols i k x 0 (λ e. omega arith)

  put_number : (x : ℕ) → number n i (set cols i x) ≡ number n i cols
  put_number x = number_cong n i (set cols i x) cols (put_other x)

  -- what the lists up to i make of the list
  snoc : (front : List ℕ) (x : ℕ) → (front ++ (x ∷ [])) ++ drop (suc i) cols ≡ front ++ drop i (set cols i x)
  snoc front x = append_snoc front x (drop (suc i) cols) ∙ ap (λ (t : List ℕ). front ++ t) (sym (drop_put cols i x l))

  -- A column that is not the last rises by one, and there is a next list.
  pub rise : Below n (suc i) cols → suc (at cols i) < n → after n (suc i) cols ++ drop (suc i) cols ≡ set cols i (suc (at cols i))
  unfolding number
  rise h b =
      let x = suc (at cols i) in
      let e : suc (number n i cols * n + at cols i) ≡ number n i cols * n + x = omega arith in
      ap (λ (k : ℕ). digits n (suc i) k ++ drop (suc i) cols) e
      ∙ ap (λ (t : List ℕ). t ++ drop (suc i) cols) (digits_more n i (number n i cols) x b)
      ∙ snoc (digits n i (number n i cols)) x
      ∙ ap (λ (t : List ℕ). t ++ drop i (set cols i x))
      (ap (digits n i) (sym (put_number x)) ∙ digits-take n i (set cols i x) (omega (arith, length-set cols i x)) (λ k g. rw (put_other x k g) (h k (omega arith))))
      ∙ take-append-drop i (set cols i x)

  pub rise_more : Below n (suc i) cols → suc (at cols i) < n → more n (suc i) cols ≡ true
  unfolding number
  rise_more h b =
      let a : suc (number n i cols) * n ≤ n ^ i * n = mul-le-mul_right n (number_below n i cols (λ k g. h k (omega arith))) in
      let e : suc (number n i cols) * n ≡ number n i cols * n + n = omega arith in
      lt-ltb (suc (number n (suc i) cols)) (n ^ suc i) (omega (arith, pow-suc n i))

  -- The last column becomes 0, and what comes before it goes on.
  pub carry : suc (at cols i) ≡ n → after n (suc i) cols ++ drop (suc i) cols ≡ after n i (set cols i 0) ++ drop i (set cols i 0)
  unfolding number
  carry e =
      let f : suc (number n i cols * n + at cols i) ≡ suc (number n i cols) * n + 0 = omega (arith, ap (λ (x : ℕ). number n i cols * x) e) in
      ap (λ (k : ℕ). digits n (suc i) k ++ drop (suc i) cols) f
      ∙ ap (λ (t : List ℕ). t ++ drop (suc i) cols) (digits_more n i (suc (number n i cols)) 0 (omega arith))
      ∙ snoc (digits n i (suc (number n i cols))) 0
      ∙ ap (λ (k : ℕ). digits n i (suc k) ++ drop i (set cols i 0)) (sym (put_number 0))

  pub carry_more : suc (at cols i) ≡ n → more n (suc i) cols ≡ more n i (set cols i 0)
  unfolding number
  carry_more e =
      let a = suc (number n i cols) in
      let f : suc (number n i cols * n + at cols i) ≡ a * n = omega (arith, ap (λ (x : ℕ). number n i cols * x) e) in
      ap (λ (k : ℕ). ltb k (n ^ suc i)) f ∙ ap (ltb (a * n)) (pow-suc n i) ∙ times a (n ^ i) ∙ ap (λ (k : ℕ). ltb (suc k) (n ^ i)) (sym (put_number 0))
    where
      times : (a b : ℕ) → ltb (a * n) (b * n) ≡ ltb a b
      times a b = flags_same (ltb (a * n) (b * n)) (ltb a b) (λ t. lt-ltb a b (lt_of_mul-lt-mul_right n (ltb-true (a * n) (b * n) t))) (λ t. lt-ltb (a * n) (b * n) (mul-lt-mul_of_pos_right (ltb-true a b t) (omega arith)))

-- The last list has no next: all zeros follow.
pub none : (n : ℕ) (cols : List ℕ) (i : ℕ) → i ≡ 0 → cols ≡ after n i cols ++ drop i cols
unfolding digits
none n cols zero e = refl
none n cols (suc i) e = absurd (omega arith)

pub none_more : (n : ℕ) (cols : List ℕ) (i : ℕ) → i ≡ 0 → more n i cols ≡ false
unfolding number
none_more n cols zero e = le-ltb 1 (n ^ 0) (omega (arith, pow-zero n))
none_more n cols (suc i) e = absurd (omega arith)

-- The list after list k is list k + 1.
module _ (n m : ℕ) (cols : List ℕ) (k : ℕ) (l : k < n ^ m) (e : cols ≡ digits n m k) where
  numbered : number n m cols ≡ k
  numbered = ap (number n m) e ∙ number_digits n m k l

  pub after_list : after n m cols ≡ digits n m (suc k)
  after_list = ap (λ (j : ℕ). digits n m (suc j)) numbered

  pub more_lists : more n m cols ≡ ltb (suc k) (n ^ m)
  more_lists = ap (λ (j : ℕ). ltb (suc j) (n ^ m)) numbered
