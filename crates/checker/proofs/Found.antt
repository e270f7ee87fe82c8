-- What `any` and `find` over the numbers below n answer, of a test that the closure computes. Assumes nothing.
use Rattle.std.specs.Option.{is_some}
use Rattle.std.proofs.Common.{◌≡◌, sym, ap, ap₂, subst, ◌∙◌, Bool, true, false, ◌||◌, Option, Some, None, Ok, Err, ℤ, ℕ, suc, ◌+◌, ◌<◌, ◌≤◌, List, MatchOption, arith}
use Rattle.std.specs.Bool.{⊤}
use Rattle.std.specs.Fn.{CalledAt}
use Rattle.std.specs.Iterator.{YieldsThen}
use Rattle.std.specs.List.{FoldsTo}
use Rattle.std.specs.declared.ops.Range.{Range}
use Rattle.std.proofs.iter.Yields.{nat_range_steps}
use Rattle.std.proofs.lemmas.Iterator.{first_from_Range}
use denote.Param.Members.{Mut}
use denote.Ref.{Bor}
use borrow.Author.Tests.{le-ltb, ltb-false}
use Rattle.lists.specs.Counts.{some}
use Rattle.lists.specs.Runs.{first, Finds}
use Rattle.lists.proofs.Runs.{first-at, first_none, first_before}
use Rattle.lists.proofs.Counts.{some_make, some-last}
use Rattle.matrix.specs.Verdicts.{fails_by, fails_at_by}
use Rattle.matrix.specs.declared.refusals.Reason.{Reason}
use Rattle.matrix.proofs.Verdicts.{clear_at_by, found_at_by}

abbrev pub Somewhere : ℕ → (ℕ → Bool) → Bool → Type 0
Somewhere n test true = (k : ℕ) × (k < n) × (test k ≡ true)
Somewhere n test false = (k : ℕ) → k < n → test k ≡ false

pub some_by_any : (n : ℕ) (test : ℕ → Bool) (r : Bool) → Somewhere n test r → r ≡ some n test
some_by_any n test true h = sym (some_make n test h.0 h.1 h.2)
some_by_any n test false h = sym (le-ltb (first n test) n (omega (arith, first_none test n h)))

finds : (n : ℕ) (test : ℕ → Bool) (r : Option ℕ) → MatchOption r ((k : ℕ) → 0 ≤ k → k < n → test k ≡ false) (λ i. (0 ≤ i) × (i < n) × (test i ≡ true) × ((k : ℕ) → 0 ≤ k → k < i → test k ≡ false))
    → Finds n test r
finds n test None h = λ k l. h k (omega arith) l
finds n test (Some i) h = (h.1, h.2, λ k l. h.3 k (omega arith) l)

-- A pass that asks at every number: one number more, and what it tells where it tells of none.
pub some_more : (n : ℕ) (test : ℕ → Bool) (found b : Bool) → found ≡ some n test → b ≡ test n → (found || b) ≡ some (n + 1) test
some_more n test found b e f = ap₂ ◌||◌ e f ∙ sym (some-last n test) ∙ ap (λ (m : ℕ). some m test) (let g : suc n ≡ n + 1 = omega arith in g)

pub none_some : (n : ℕ) (test : ℕ → Bool) → some n test ≡ false → Finds n test None
none_some n test e k l = first_before test n k (omega (arith, ltb-false (first n test) n e))

-- `find`, whose closure answers the test: by its clause `ran`.
pub finds_from : {F : Type 0} {g : Mut F (Bor ℕ × Unit {0}) Bool} (n : ℕ) (test : ℕ → Bool) (u : Range ℕ) (f : F) (r : Option ℕ)
    → (xs : List ℕ) × (j : F) × YieldsThen nat_range_steps (record { start = 0; end = n }) xs r u × FoldsTo (λ p x q. CalledAt g p x false q) f xs j × MatchOption r ⊤ (λ x. (h : F) × CalledAt g j x true h)
    → ((x : ℕ) (b : Bool) (q : F) → CalledAt g f x b q → (q ≡ f) × (b ≡ test x)) → Finds n test r
finds_from n test u f r ran calls =
    finds n test r
    (first_from_Range (record { start = 0; end = n }) u f r (λ k. test k ≡ true) (λ k. test k ≡ false) ran (λ x q k. sym (calls x true q k).1)
    (λ x q k. let e = calls x false q k in (e.0, sym e.1)))

-- A test that agrees with another one is found where that is.
pub finds_cong : (m n : ℕ) (test other : ℕ → Bool) (r : Option ℕ) → m ≡ n → ((k : ℕ) → k < n → test k ≡ other k) → Finds m test r → Finds n other r
finds_cong m n test other None e same h = λ k l. sym (same k l) ∙ h k (omega arith)
finds_cong m n test other (Some i) e same h = (omega (arith, h.0), sym (same i (omega (arith, h.0))) ∙ h.1, λ k l. sym (same k (omega (arith, h.0))) ∙ h.2 k l)

-- Whether one is found.
pub found_some : (n : ℕ) (test : ℕ → Bool) (r : Option ℕ) → Finds n test r → is_some r ≡ some n test
found_some n test None h = sym (le-ltb (first n test) n (omega (arith, first_none test n h)))
found_some n test (Some i) h = sym (some_make n test i h.0 h.1)

-- What is found is the first.
pub found_first : (n : ℕ) (test : ℕ → Bool) (i : ℕ) → Finds n test (Some i) → i ≡ first n test
found_first n test i h = sym (first-at test n i h.0 h.1 h.2)

-- ---- what code does with what a search answered: refused at what was found, with the slack of that place

module _ (reason : Reason) (place : ℕ → ℕ) (slack : ℕ → ℤ) (n : ℕ) (test : ℕ → Bool) (r : Option ℕ) (h : Finds n test r) where
  pub refused_by : (i : ℕ) → r ≡ Some i → (z : ℤ) → z ≡ slack i → Err (record { reason = reason; place = place i; slack = z }) ≡ fails_at_by reason place slack n test
  unfolding fails_by
  refused_by i e z f =
      let g = subst (Finds n test) e h in
      ap (λ (s : ℤ). Err (record { reason = reason; place = place i; slack = s })) f
      ∙ found_at_by reason place slack n test (found_first n test i g) g.0

  pub passed_by : r ≡ None → Ok tt ≡ fails_at_by reason place slack n test
  passed_by e = sym (clear_at_by reason place slack n test (sym (first_none test n (subst (Finds n test) e h))) (omega arith))
