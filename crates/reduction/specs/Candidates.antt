-- What is kept of a row: three of its columns, and a limit that no other column is below. Columns stand in the order by value, then place.
use Rattle.std.specs.Prelude.{◌≡◌, Bool, true, false, cond, ◌≢◌, List, ℕ, ◌+◌, ◌*◌, ◌<◌, ℤ, pos, length, ◌≤ℤ◌, ltb}
use Rattle.std.specs.Int.Signed.{lt_z}
use Rattle.lists.specs.Permutations.{at}
use Rattle.assignment.specs.Pairings.{signed_at}
use Rattle.rules.specs.declared.Low.{Low}
use Rattle.rules.specs.declared.TwoLowest.{TwoLowest}
use Rattle.rules.specs.declared.TwoLowest.TheVariants.{One, Two}
use Rattle.rules.specs.Lowest.{low, reduced, two_lowest}
use Rattle.reduction.specs.declared.candidates.Three.{Three}

-- ---- the order of a row's columns

-- Place a comes before place b: by value, then place.
pub record Before (f : ℕ → ℤ) (a b : ℕ) : Type 0 where
  pub no_more : f a ≤ℤ f b
  pub tie : f b ≤ℤ f a → a < b

-- Of the places below n, a is the first and b the second.
pub record FirstTwo (f : ℕ → ℤ) (n a b : ℕ) : Type 0 where
  pub first_inside : a < n
  pub second_inside : b < n
  pub apart : a ≢ b
  pub first : (k : ℕ) → k < n → k ≢ a → Before f a k
  pub second : (k : ℕ) → k < n → k ≢ a → k ≢ b → Before f b k

-- Three columns of a row, and a limit that no other column is below.
pub record Candidates (f : ℕ → ℤ) (n p q r : ℕ) (limit : ℤ) : Type 0 where
  pub p_inside : p < n
  pub q_inside : q < n
  pub r_inside : r < n
  pub p_q : p ≢ q
  pub p_r : p ≢ r
  pub q_r : q ≢ r
  pub others : (k : ℕ) → k < n → k ≢ p → k ≢ q → k ≢ r → limit ≤ℤ f k

-- ---- the three found while a row is read

-- Of the places below n, p, q and r are the first three, in that order; and no other is below the limit.
pub record FirstThree (f : ℕ → ℤ) (n p q r : ℕ) (limit : ℤ) : Type 0 where
  pub kept : Candidates f n p q r limit
  pub first : Before f p q
  pub second : Before f q r
  pub rest : (k : ℕ) → k < n → k ≢ p → k ≢ q → k ≢ r → Before f r k
  pub bound : f r ≤ℤ limit

-- The same of values at their places, as code holds them.
pub record FoundThree (f : ℕ → ℤ) (n : ℕ) (t : Three) : Type 0 where
  pub first_is : t.first.value ≡ f t.first.place
  pub second_is : t.second.value ≡ f t.second.place
  pub third_is : t.third.value ≡ f t.third.place
  pub places : FirstThree f n t.first.place t.second.place t.third.place t.limit

abbrev pub three : Low → Low → Low → ℤ → Three
three a b c limit = record { first = a; second = b; third = c; limit = limit }

-- No number of 64 bits is above it.
abbrev pub far : ℤ
far = pos 9223372036854775807

-- The first three columns, of which x comes before y and y stands before z. There is no other yet.
abbrev pub start_three : Low → Low → Low → Three
start_three x y z =
    cond (lt_z z.value y.value) (cond (lt_z z.value x.value) (three z x y far) (three x z y far)) (three x y z far)

-- A value below the limit, at a later place: what it pushes out is the limit from then on, or it is the limit itself.
abbrev pub insert : Three → Low → Three
insert t h =
    cond (lt_z h.value t.third.value)
    (cond (lt_z h.value t.second.value)
    (cond (lt_z h.value t.first.value) (three h t.first t.second t.third.value) (three t.first h t.second t.third.value))
    (three t.first t.second h t.third.value))
    (three t.first t.second t.third h.value)

-- ---- the first two of the three

-- Its column stands to the left.
abbrev pub stands_before : Low → Low → Bool
stands_before x y = ltb x.place y.place

-- By value, then place.
abbrev pub comes_before : Low → Low → Bool
comes_before x y = cond (lt_z x.value y.value) true (cond (lt_z y.value x.value) false (stands_before x y))

-- The first two of x, y and z, where x comes before y.
abbrev pub beside_two : Low → Low → Low → TwoLowest
beside_two x y z = cond (comes_before z y) (cond (comes_before z x) (Two z x) (Two x z)) (Two x y)

-- The first two of three.
abbrev pub first_two : Low → Low → Low → TwoLowest
first_two x y z = cond (comes_before y x) (beside_two y x z) (beside_two x y z)

-- Whether the second is below a limit.
abbrev pub settled : TwoLowest → ℤ → Bool
settled (One a) limit = false
settled (Two a b) limit = lt_z b.value limit

-- What a recall asks: three columns in range at 3i.
pub record Recallable (n i : ℕ) (kept : List ℕ) : Type 0 where
  pub fits : 3 * i + 2 < length kept
  pub p_inside : at kept (3 * i) < n
  pub q_inside : at kept (3 * i + 1) < n
  pub r_inside : at kept (3 * i + 2) < n

-- The first two of the columns kept of row i.
abbrev pub recalled : (ℕ → ℤ) → ℕ → List ℕ → TwoLowest
recalled f i kept =
    let p = at kept (3 * i) in
    let q = at kept (3 * i + 1) in
    let r = at kept (3 * i + 2) in
    first_two (low (f p) p) (low (f q) q) (low (f r) r)

-- ---- what the room holds

-- A limit from here on is a mark: nothing is kept of the row. This mark says that the row was looked at once, the next one that it was not.
abbrev pub seen : ℤ
seen = pos 4611686018427387904

abbrev pub unseen : ℤ
unseen = pos 4611686018427387905

-- A room of three columns and a limit for each of n rows.
pub record Roomy (n : ℕ) (kept : List ℕ) (limits : List ℤ) : Type 0 where
  pub kept_size : length kept ≡ n + n + n
  pub limits_size : length limits ≡ n

-- Where the limit of row i is no mark, its candidates stand at 3i.
abbrev pub Keeps : (ℕ → ℤ) → ℕ → ℕ → List ℕ → List ℤ → Type 0
Keeps f n i kept limits =
    lt_z (signed_at limits i) seen ≡ true → Candidates f n (at kept (3 * i)) (at kept (3 * i + 1)) (at kept (3 * i + 2)) (signed_at limits i)

-- The two lowest of row i are told, and the room still keeps what is true: of row i at today's prices, of the others what it kept.
pub record Told (f : ℕ → ℤ) (n i : ℕ) (kept : List ℕ) (limits : List ℤ) (kept' : List ℕ) (limits' : List ℤ) (two : TwoLowest) : Type 0 where
  pub two_are : two ≡ two_lowest n f
  pub own : Keeps f n i kept' limits'
  pub others : (g : ℕ → ℤ) (k : ℕ) → k ≢ i → Keeps g n k kept limits → Keeps g n k kept' limits'

-- Every row's candidates are true at prices v.
pub record AllKept (n : ℕ) (cost : ℕ → ℕ → ℤ) (v : List ℤ) (kept : List ℕ) (limits : List ℤ) : Type 0 where
  pub rows : (i : ℕ) → i < n → Keeps (reduced cost (signed_at v) i) n i kept limits

-- No price of u is above the price of v there.
pub record Fell (v u : List ℤ) : Type 0 where
  pub fell : (k : ℕ) → signed_at u k ≤ℤ signed_at v k
