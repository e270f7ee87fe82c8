-- `prices_in` tests all prices: row prices, then column prices. Assumes nothing.
use Rattle.std.proofs.Common.{rules, ◌≡◌, ℕ, List, ◌+◌, sym, subst, ap, ◌∙◌, arith}
use Rattle.std.specs.Prelude.{Option, Some, None, Err}
use lib.IntN.{ℤ}
use mir.Facts.{to_z-of_z}
use Rattle.lists.specs.Runs.{Finds}
use Rattle.assignment.specs.Pairings.{signed_at}
use Rattle.matrix.specs.Tests.{outside}
use Rattle.matrix.specs.Verdicts.{fails_at}
use Rattle.matrix.proofs.Verdicts.{found_fails, passed_then}
use Rattle.matrix.proofs.SmallLimits.{side_small}
use Rattle.matrix.proofs.tests.prices_in.Goals as goal

-- what a search answered, at the limit as it was given
finds_at : {limit held : ℤ} (n : ℕ) (prices : List ℤ) (r : Option ℕ) → held ≡ limit → Finds n (λ i. outside held (signed_at prices i)) r → Finds n (λ i. outside limit (signed_at prices i)) r
finds_at n prices r e = subst (λ (z : ℤ). Finds n (λ i. outside z (signed_at prices i)) r) e

pub first_price_outside-requires : goal.first_price_outside-requires
first_price_outside-requires c = (rw (to_z-of_z c.ranges.limit) c.requires.0, c.requires.3)

pub first_price_outside-requires-2 : goal.first_price_outside-requires-2
first_price_outside-requires-2 c = (rw (to_z-of_z c.ranges.limit) c.requires.0, c.requires.4)

pub returns-in_err-fails_at : goal.returns-in_err-fails_at
returns-in_err-fails_at c =
    let u = c.args in
    let f = found_fails u.reason (λ k. k) u.m (λ i. outside u.limit (signed_at u.us.now i)) _ (finds_at u.m u.us.now _ (to_z-of_z c.ranges.limit) c.first_price_outside.ensures) in
    let e : fails_at u.reason (λ k. k) u.m (λ i. outside u.limit (signed_at u.us.now i)) ≡ Err c.in_err-fails_at.field-0.0 = sym f ∙ sym c.fails_at.ensures ∙ c.in_err-fails_at.was in
    search rules

pub overflow_add-m : goal.overflow_add-m
overflow_add-m c = omega (arith, side_small, c.requires.1, c.requires.2, c.in-Some.ensures)

pub returns-in-Some : goal.returns-in-Some
returns-in-Some c =
    let u = c.args in
    let f = found_fails u.reason (λ k. k) u.m (λ i. outside u.limit (signed_at u.us.now i)) _ (finds_at u.m u.us.now _ (to_z-of_z c.ranges.limit) c.first_price_outside.ensures) in
    let g = found_fails u.reason (λ j. u.m + j) u.n (λ j. outside u.limit (signed_at u.vs.now j)) (Some c.in-Some.j) (finds_at u.n u.vs.now (Some c.in-Some.j) (to_z-of_z c.ranges.limit) c.in-Some.ensures) in
    passed_then _ (sym f ∙ sym c.fails_at.ensures ∙ c.in_ok-fails_at.was) (ap Err c.new.ensures ∙ g)

pub returns-in-None : goal.returns-in-None
returns-in-None c =
    let u = c.args in
    let f = found_fails u.reason (λ k. k) u.m (λ i. outside u.limit (signed_at u.us.now i)) _ (finds_at u.m u.us.now _ (to_z-of_z c.ranges.limit) c.first_price_outside.ensures) in
    let g = found_fails u.reason (λ j. u.m + j) u.n (λ j. outside u.limit (signed_at u.vs.now j)) None (finds_at u.n u.vs.now None (to_z-of_z c.ranges.limit) c.in-None.ensures) in
    passed_then _ (sym f ∙ sym c.fails_at.ensures ∙ c.in_ok-fails_at.was) g
