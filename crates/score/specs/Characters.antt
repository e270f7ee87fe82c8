-- The characters of a reference, and what two of them cost.
use Rattle.std.specs.Prelude.{◌≡◌, Bool, true, cond, not, ◌&&◌, ◌||◌, List, ℕ, ◌+◌, ◌/◌, ◌%◌, ◌<◌, leb, ltb, eqb, length}
use Rattle.lists.specs.Permutations.{at, table}

-- From low to high, both included.
abbrev pub between : ℕ → ℕ → ℕ → Bool
between low high byte = leb low byte && leb byte high

-- A byte is "from 0-9 and A-Z": 48 to 57, 65 to 90.
abbrev pub known : ℕ → Bool
known byte = between 48 57 byte || between 65 90 byte

-- "a wrong character".
abbrev pub foreign : ℕ → Bool
foreign byte = not (known byte)

-- A list of so many characters.
pub record Known (count : ℕ) (list : List ℕ) : Type 0 where
  pub size : length list ≡ count
  pub known : (p : ℕ) → p < count → known (at list p) ≡ true

-- "references of exactly 12 characters from 0-9 and A-Z".
abbrev pub Reference : List ℕ → Type 0
Reference list = Known 12 list

-- Two bytes are x and y, in either order.
abbrev pub pair_is : ℕ → ℕ → ℕ → ℕ → Bool
pair_is x y a b = (eqb a x && eqb b y) || (eqb a y && eqb b x)

-- "the look-alikes 0/O, 1/I, 2/Z, 5/S and 8/B".
abbrev pub look_alike : ℕ → ℕ → Bool
look_alike a b = pair_is 48 79 a b || (pair_is 49 73 a b || (pair_is 50 90 a b || (pair_is 53 83 a b || pair_is 56 66 a b)))

-- "Equal characters cost 0; the look-alikes [..] cost 2; all others cost 9."
unfoldable pub character_cost : ℕ → ℕ → ℕ
character_cost a b = cond (eqb a b) 0 (cond (look_alike a b) 2 9)

-- The characters in order, numbered from 0 to 35.
abbrev pub character_at : ℕ → ℕ
character_at k = cond (ltb k 10) (48 + k) (55 + k)

-- "The costs stand in a table of 1,296 numbers": what stands at each of its places, 36 to a row.
unfoldable pub place_cost : ℕ → ℕ
place_cost place = character_cost (character_at (place / 36)) (character_at (place % 36))

unfoldable pub cost_table : List ℕ
cost_table = table 1296 place_cost
