-- Parts of one list, as code lends them.
use Rattle.std.specs.Prelude.{List, [], ◌∷◌, ◌++◌, ℕ, ◌+◌, length, take, drop}

-- The part of a list from a on, m long.
abbrev pub part : {A : Type 0} → ℕ → ℕ → List A → List A
part a m l = take m (drop a l)

-- The list with p written over it from a on.
abbrev pub replaced : {A : Type 0} → ℕ → List A → List A → List A
replaced a p l = take a l ++ (p ++ drop (a + length p) l)

-- Lists one behind the other: the whole that they were cut from.
unfoldable pub joined : {A : Type 0} → List (List A) → List A
joined [] = []
joined (l ∷ rest) = l ++ joined rest
