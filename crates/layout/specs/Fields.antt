-- Fields of one width, one after the other.
use Rattle.std.specs.Prelude.{List, ℕ, ◌+◌, ◌*◌}
use Rattle.lists.specs.Parts.{part}
use Rattle.lists.specs.Permutations.{table}

-- The n fields of a width each, from the place `base` on.
unfoldable pub fields : {A : Type 0} → (List ℕ → A) → ℕ → ℕ → ℕ → List ℕ → List A
fields decode base width n bytes = table n (λ i. decode (part (base + i * width) width bytes))
