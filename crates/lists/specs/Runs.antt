-- Counted loops: one turn for each number of a range, upward or downward; a loop that may be left before its range ends; and the
-- first number that passes a test.
use Rattle.std.specs.Prelude.{◌≡◌, Bool, true, false, cond, Option, Some, None, ℕ, ◌<◌, ◌≤◌, zero, suc, ◌+◌, ◌-◌, ltb}

-- The turns of f at a, a + 1, .., in that order, m of them.
unfoldable pub turns : {S : Type 0} → ℕ → ℕ → (ℕ → S → S) → S → S
turns a zero f s = s
turns a (suc m) f s = f (a + m) (turns a m f s)

-- For each k from a up to, not including, b: s becomes f k s.
unfoldable pub upward : {S : Type 0} → ℕ → ℕ → (ℕ → S → S) → S → S
upward a b f s = turns a (b - a) f s

-- For each k from n - 1 down to 0: s becomes f k s.
unfoldable pub downward : {S : Type 0} → ℕ → (ℕ → S → S) → S → S
downward zero f s = s
downward (suc n) f s = downward n f (f n s)

-- How a turn ends: the loop goes on with a state, or is left with a result.
pub data Turn (S R : Type 0) : Type 0 where
  on : S → Turn S R
  left : R → Turn S R

-- What follows a turn: nothing, where the loop was left.
abbrev pub and_then : {S R : Type 0} → Turn S R → (S → Turn S R) → Turn S R
and_then (on s) f = f s
and_then (left r) f = left r

-- For each k from a up to, not including, b, until a turn leaves: s becomes f k s.
unfoldable pub until : {S R : Type 0} → ℕ → ℕ → (ℕ → S → Turn S R) → S → Turn S R
until a b f s = upward a b (λ k t. and_then t (f k)) (on s)

-- The first k below n at which the test holds; n where it holds at none. (Before turn k the number is k where the test has held at none, else below k.)
unfoldable pub first : ℕ → (ℕ → Bool) → ℕ
first n test = upward 0 n (λ k found. cond (ltb found k) found (cond (test k) k (suc k))) 0

-- The same as an answer: a number is the first below n at which the test holds, and none says that it holds at none.
abbrev pub Finds : ℕ → (ℕ → Bool) → Option ℕ → Type 0
Finds n test None = (k : ℕ) → k < n → test k ≡ false
Finds n test (Some i) = (i < n) × (test i ≡ true) × ((k : ℕ) → k < i → test k ≡ false)

-- The one answer that `Finds` allows.
abbrev pub found : ℕ → (ℕ → Bool) → Option ℕ
found n test = cond (ltb (first n test) n) (Some (first n test)) None

-- The same of the numbers from a on, and below b, where `answers k t` says that the test at k answers t.
abbrev pub FindsFrom : ℕ → ℕ → (ℕ → Bool → Type 0) → Option ℕ → Type 0
FindsFrom a b answers None = (k : ℕ) → a ≤ k → k < b → answers k false
FindsFrom a b answers (Some i) = (a ≤ i) × (i < b) × answers i true × ((k : ℕ) → a ≤ k → k < i → answers k false)
