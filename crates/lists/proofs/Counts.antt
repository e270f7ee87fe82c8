-- Counts: a count is a sum of zeros and ones, of all numbers or of all but one; and some number passes a test where one does. Assumes nothing.
use mathlib.Core.Path.{◌≡◌, refl, sym, ap, ◌∙◌}
use mathlib.Core.Bool.{Bool, true, false, cond, ◌||◌, true≢false}
use Prim.Native.Nat.{ℕ, zero, suc, ◌+◌, ◌<◌}
use native.Mathlib.Decide.{ℕ_discrete, dec_lt}
use native.Mathlib.Omega.{arith}
use lib.Dec.{eqb}
use lib.IntN.{ℤ, pos, ◌+ℤ◌}
use lib.Signed.{◌≤ℤ◌}
use borrow.Author.Tests.{ltb-true, lt-ltb, eq-eqb, ne_eqb}
use Rattle.ints.proofs.Shapes.{zlin}
use Rattle.ints.proofs.Tests.{not_true_false}
use Rattle.lists.specs.Runs.{first}
use Rattle.lists.specs.Sums.{sum}
use Rattle.lists.proofs.Cases.{cond_cases, flags_same, or_second}
use Rattle.lists.proofs.Runs.{first_holds, first_before}
use Rattle.lists.proofs.Sums.{sum_change}
use Rattle.lists.specs.Counts.{count, some}

-- ---- a flag as a number

abbrev pub one : Bool → ℤ
one t = cond t (pos 1) (pos 0)

pub one_le : (a b : Bool) → (a ≡ true → b ≡ true) → one a ≤ℤ one b
one_le true b h = rw (h refl) (omega zlin)
one_le false true h = omega zlin
one_le false false h = omega zlin

pub one_least : (a : Bool) → pos 0 ≤ℤ one a
one_least true = omega zlin
one_least false = omega zlin

pub one_most : (a : Bool) → one a ≤ℤ pos 1
one_most true = omega zlin
one_most false = omega zlin

pub one_same : (a b : Bool) → one a ≡ one b → a ≡ b
one_same true true e = refl
one_same true false e = absurd (omega zlin)
one_same false true e = absurd (omega zlin)
one_same false false e = refl

-- ---- counts

pub count-sum : (n : ℕ) (test : ℕ → Bool) → sum n (λ i. one (test i)) ≡ pos (count n test)
unfolding sum count
count-sum zero test = refl
count-sum (suc n) test = by (test n) (count-sum n test)
  where
    by : (t : Bool) → sum n (λ i. one (test i)) ≡ pos (count n test) → sum n (λ i. one (test i)) +ℤ one t ≡ pos (count n test + cond t 1 0)
    by true e = omega zlin
    by false e = omega zlin

pub count_none : (test : ℕ → Bool) → count 0 test ≡ 0
unfolding count
count_none test = refl

-- The first number, and the others.
pub count-first : (n : ℕ) (test : ℕ → Bool) → count (suc n) test ≡ cond (test 0) 1 0 + count n (λ i. test (suc i))
unfolding count
count-first zero test = omega arith
count-first (suc n) test = omega (arith, count-first n test)

pub count_cong : (n : ℕ) (f g : ℕ → Bool) → ((i : ℕ) → i < n → f i ≡ g i) → count n f ≡ count n g
unfolding count
count_cong zero f g e = refl
count_cong (suc n) f g e = rw (e n (omega arith), count_cong n f g (λ i l. e i (omega arith)))

-- ---- all but one

-- The flag of each number as 1 or 0, but 0 at i.
abbrev pub but : ℕ → (ℕ → Bool) → ℕ → ℤ
but i test k = cond (eqb k i) (pos 0) (one (test k))

pub but-least : (i : ℕ) (test : ℕ → Bool) (k : ℕ) → pos 0 ≤ℤ but i test k
but-least i test k = cond_cases (eqb k i) (λ z. pos 0 ≤ℤ z) (pos 0) (one (test k)) (λ e. omega zlin) (λ e. one_least (test k))

pub sum-but : (n i : ℕ) (test : ℕ → Bool) → i < n → test i ≡ true → sum n (but i test) +ℤ pos 1 ≡ sum n (λ k. one (test k))
sum-but n i test l e =
    let a : but i test i ≡ pos 0 = rw (eq-eqb i i refl) in
    omega (zlin, sum_change n i (but i test) (λ k. one (test k)) l (λ k h d. rw (ne_eqb k i d)), a, ap one e)

-- ---- some

pub some_read : (n : ℕ) (test : ℕ → Bool) → some n test ≡ true → (i : ℕ) × (i < n) × (test i ≡ true)
some_read n test e = let l = ltb-true (first n test) n e in (first n test, l, first_holds test n l)

pub some_make : (n : ℕ) (test : ℕ → Bool) (i : ℕ) → i < n → test i ≡ true → some n test ≡ true
some_make n test i l e = by (dec_lt i (first n test))
  where
    by : Dec (i < first n test) → some n test ≡ true
    by (yes h) = absurd (true≢false (sym e ∙ first_before test n i h))
    by (no h) = lt-ltb (first n test) n (omega arith)

pub some_cong : (n : ℕ) (f g : ℕ → Bool) → ((i : ℕ) → i < n → f i ≡ g i) → some n f ≡ some n g
some_cong n f g e =
    flags_same (some n f) (some n g) (λ t. let s = some_read n f t in some_make n g s.0 s.1 (sym (e s.0 s.1) ∙ s.2))
    (λ t. let s = some_read n g t in some_make n f s.0 s.1 (e s.0 s.1 ∙ s.2))

pub some_none : (test : ℕ → Bool) → some 0 test ≡ false
some_none test = not_true_false (λ t. let s = some_read 0 test t in omega (arith, s.1))

-- One number more.
pub some-last : (n : ℕ) (test : ℕ → Bool) → some (suc n) test ≡ (some n test || test n)
some-last n test = flags_same (some (suc n) test) (some n test || test n) there (by (some n test) refl)
  where
    there : some (suc n) test ≡ true → (some n test || test n) ≡ true
    there t = let s = some_read (suc n) test t in at s.0 s.1 s.2 (ℕ_discrete s.0 n)
      where
        at : (i : ℕ) → i < suc n → test i ≡ true → Dec (i ≡ n) → (some n test || test n) ≡ true
        at i l e (yes q) = or_second (some n test) (ap test (sym q) ∙ e)
        at i l e (no d) = rw (some_make n test i (omega arith) e)

    by : (a : Bool) → some n test ≡ a → (a || test n) ≡ true → some (suc n) test ≡ true
    by true e t = let s = some_read n test e in some_make (suc n) test s.0 (omega (arith, s.1)) s.2
    by false e t = some_make (suc n) test n (omega arith) t
