-- The first number that passes a test, where there is one: what shows it. Assumes nothing.
use Rattle.std.proofs.Common.{◌≡◌, sym, ap, ◌∙◌, Bool, true, false, cond, Option, Some, None, ℕ, ◌<◌, unwrap_or, arith}
use borrow.Author.Tests.{lt-ltb, le-ltb}
use Rattle.lists.specs.Runs.{first, Finds, found}
use Rattle.lists.proofs.Runs.{first-at, first_none}

module _ (n : ℕ) (test : ℕ → Bool) where
  -- It is found at i.
  pub found_here : (i : ℕ) → i < n → test i ≡ true → ((k : ℕ) → k < i → test k ≡ false) → Some i ≡ found n test
  found_here i l e clear =
      let at : first n test ≡ i = first-at test n i l e clear in
      sym (ap (λ (b : Bool). cond b (Some (first n test)) None) (lt-ltb (first n test) n (omega arith)) ∙ ap Some at)

  -- It is nowhere below n.
  pub found_nowhere : ((k : ℕ) → k < n → test k ≡ false) → None ≡ found n test
  found_nowhere clear =
      sym (ap (λ (b : Bool). cond b (Some (first n test)) None) (le-ltb (first n test) n (omega (arith, first_none test n clear))))

  pub is_found : (r : Option ℕ) → Finds n test r → r ≡ found n test
  is_found None h = found_nowhere h
  is_found (Some i) h = found_here i h.0 h.1 h.2

  -- What `first` answers: n where none is.
  pub first_of : (r : Option ℕ) → Finds n test r → unwrap_or r n ≡ first n test
  first_of None h = sym (first_none test n h)
  first_of (Some i) h = sym (first-at test n i h.0 h.1 h.2)
