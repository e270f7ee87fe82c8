-- Lists of numbers in which no number stands twice.
use Rattle.std.specs.Prelude.{◌≡◌, List, [], ◌∷◌, ◌++◌, ℕ, zero, suc, ◌<◌, length, get_or, set}

-- What stands at i in a list of numbers: 0 past its end.
abbrev pub at : List ℕ → ℕ → ℕ
at l i = get_or l i 0

-- f sends each number below m to one below n, and no two of them to the same.
pub record Injective (m n : ℕ) (f : ℕ → ℕ) : Type 0 where
  pub below : (i : ℕ) → i < m → f i < n
  pub once : (i k : ℕ) → i < m → k < m → f i ≡ f k → i ≡ k

-- A list of n numbers in which each number below n stands once.
pub record Permutation (n : ℕ) (l : List ℕ) : Type 0 where
  pub size : length l ≡ n
  pub injective : Injective n n (at l)

-- The list with its places a and b exchanged.
abbrev pub exchange : List ℕ → ℕ → ℕ → List ℕ
exchange l a b = set (set l a (at l b)) b (at l a)

-- The list f 0, f 1, .., f (n - 1).
unfoldable pub table : {A : Type 0} → ℕ → (ℕ → A) → List A
table zero f = []
table (suc n) f = table n f ++ (f n ∷ [])
