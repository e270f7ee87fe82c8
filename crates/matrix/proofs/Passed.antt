-- What an input that passes a test is like, for each test that entries share. Assumes nothing.
use mathlib.Core.Path.{◌≡◌, ap}
use mathlib.Core.Logic.{◌↔◌}
use mathlib.Core.List.{List, [], ◌∷◌}
use Prim.Native.Nat.{ℕ, ◌+◌, ◌*◌, ◌≤◌, ◌<◌}
use borrow.Author.Tests.{ltb-false, le-ltb, leb-false, lt-leb, eqb-true, eq-eqb, not-false}
use mathlib.Core.Bool.{not}
use lib.IntN.{ℤ, pos}
use lib.ListN.{length}
use Rattle.ints.specs.Parts.{Within}
use Rattle.lists.specs.Permutations.{at}
use Rattle.assignment.specs.Pairings.{signed_at}
use Rattle.matrix.specs.Limits.{side, K}
use Rattle.matrix.specs.Refusals.{PriceOutside}
use Rattle.matrix.specs.declared.refusals.Reason.{Reason}
use Rattle.matrix.specs.Tests.{short}
use Rattle.matrix.specs.Verdicts.{Passes, ◌then◌}
use Rattle.matrix.specs.Tests.{side_within, costs_fill, lists_long, list_long, shaped, list_short, rooms_long, costs_in, costs_within, columns_inside, prices_in, prices_within}
use Rattle.matrix.proofs.Bounds.{outside_within}
use Rattle.matrix.specs.Asked.{Long, Shaped}
use Rattle.matrix.proofs.Lengths.{clear_long, long_clear}
use Rattle.matrix.proofs.Verdicts.{then_iff, fails_if_iff, fails_at_iff}

pub side_within_lem : (limit n : ℕ) → Passes (side_within limit n) ↔ (n ≤ limit)
side_within_lem limit n = let t = fails_if_iff _ _ _ in (λ e. ltb-false limit n (t.0 e), λ h. t.1 (le-ltb limit n h))

pub costs_fill_lem : (m n : ℕ) (costs : List ℤ) → Passes (costs_fill m n costs) ↔ (length costs ≡ m * n)
costs_fill_lem m n costs =
    let t = fails_if_iff _ _ _ in
    (λ e. eqb-true (length costs) (m * n) (not-false _ (t.0 e)), λ h. t.1 (ap not (eq-eqb (length costs) (m * n) h)))

pub lists_long_lem : (n a b c d : ℕ) → Passes (lists_long n (a ∷ b ∷ c ∷ d ∷ [])) ↔ Long n a b c d
lists_long_lem n a b c d =
    let t = fails_at_iff _ (λ k. k + 1) 4 (short n (a ∷ b ∷ c ∷ d ∷ [])) in
    (λ e. clear_long n a b c d (t.0 e), λ h. t.1 (long_clear n a b c d h))

pub list_long_lem : (number n length : ℕ) → Passes (list_long number n length) ↔ (n ≤ length)
list_long_lem number n length = let t = fails_if_iff _ _ _ in (λ e. ltb-false length n (t.0 e), λ h. t.1 (le-ltb length n h))

pub shaped_iff : (n : ℕ) (costs : List ℤ) (a b c d : ℕ) → Passes (shaped n costs (a ∷ b ∷ c ∷ d ∷ [])) ↔ Shaped n costs a b c d
shaped_iff n costs a b c d =
    let t3 = then_iff (side_within side n then costs_fill n n costs) (lists_long n (a ∷ b ∷ c ∷ d ∷ [])) in
    let t2 = then_iff (side_within side n) (costs_fill n n costs) in (
      λ e. record {
        small = (side_within_lem side n).0 (t2.0 (t3.0 e).0).0;
        squared = (costs_fill_lem n n costs).0 (t2.0 (t3.0 e).0).1;
        long = (lists_long_lem n a b c d).0 (t3.0 e).1;
      },
      λ h. t3.1 (t2.1 ((side_within_lem side n).1 h.small, (costs_fill_lem n n costs).1 h.squared), (lists_long_lem n a b c d).1 h.long),
    )

pub list_short_lem : (n length : ℕ) → Passes (list_short n length) ↔ (length ≤ n)
list_short_lem n length = let t = fails_if_iff _ _ _ in (λ e. ltb-false n length (t.0 e), λ h. t.1 (le-ltb n length h))

pub rooms_long_lem : (n indices numbers : ℕ) → Passes (rooms_long n indices numbers) ↔ ((4 * n ≤ indices) × (n ≤ numbers))
rooms_long_lem n indices numbers =
    let b = then_iff _ _ in
    let s = fails_if_iff _ _ _ in
    let t = fails_if_iff _ _ _ in (
      λ e. (ltb-false indices (4 * n) (s.0 (b.0 e).0), ltb-false numbers n (t.0 (b.0 e).1)),
      λ h. b.1 (s.1 (le-ltb indices (4 * n) h.0), t.1 (le-ltb numbers n h.1)),
    )

pub costs_in_lem : (limit : ℕ) (costs : List ℤ) → Passes (costs_in (pos limit) costs) ↔ ((k : ℕ) → k < length costs → Within limit (signed_at costs k))
costs_in_lem limit costs =
    let t = fails_at_iff _ _ _ _ in
    (λ e k l. (outside_within limit (signed_at costs k)).0 (t.0 e k l), λ h. t.1 (λ k l. (outside_within limit (signed_at costs k)).1 (h k l)))

pub costs_within_lem : (costs : List ℤ) → Passes (costs_within costs) ↔ ((k : ℕ) → k < length costs → Within K (signed_at costs k))
costs_within_lem costs = costs_in_lem K costs

pub columns_inside_lem : (count n : ℕ) (cols : List ℕ) → Passes (columns_inside count n cols) ↔ ((i : ℕ) → i < count → at cols i < n)
columns_inside_lem count n cols =
    let t = fails_at_iff _ _ _ _ in
    (λ e i l. leb-false n (at cols i) (t.0 e i l), λ h. t.1 (λ i l. lt-leb n (at cols i) (h i l)))

pub prices_in_lem : (reason : Reason) (limit m n : ℕ) (us vs : List ℤ) → Passes (prices_in reason (pos limit) m n us vs)
    ↔ (((i : ℕ) → i < m → Within limit (signed_at us i)) × ((j : ℕ) → j < n → Within limit (signed_at vs j)))
prices_in_lem reason limit m n us vs =
    let b = then_iff _ _ in
    let s = fails_at_iff _ _ _ _ in
    let t = fails_at_iff _ _ _ _ in (
      λ e. (λ i l. (outside_within limit (signed_at us i)).0 (s.0 (b.0 e).0 i l), λ j l. (outside_within limit (signed_at vs j)).0 (t.0 (b.0 e).1 j l)),
      λ h. b.1 (s.1 (λ i l. (outside_within limit (signed_at us i)).1 (h.0 i l)), t.1 (λ j l. (outside_within limit (signed_at vs j)).1 (h.1 j l))),
    )

pub prices_within_lem : (m n : ℕ) (us vs : List ℤ) → Passes (prices_within m n us vs)
    ↔ (((i : ℕ) → i < m → Within (10 * K) (signed_at us i)) × ((j : ℕ) → j < n → Within (10 * K) (signed_at vs j)))
prices_within_lem m n us vs = prices_in_lem PriceOutside (10 * K) m n us vs
