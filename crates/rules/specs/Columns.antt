-- Rule 3, column reduction and transfer.
use Rattle.std.specs.Prelude.{cond, List, ℕ, ◌+◌, ℤ, ◌-ℤ◌, set, eqb, Option, Some, None}
use Rattle.lists.specs.Runs.{upward, downward}
use Rattle.lists.specs.Permutations.{at, table}
use Rattle.assignment.specs.Pairings.{signed_at}
use Rattle.rules.specs.declared.Low.{Low}
use Rattle.rules.specs.Lowest.{reduced, lowest, least_but}

-- The row of a free column: the free mark, which is no row.
unfoldable pub free : ℕ
free = 4294967295

-- A pairing under way: the column of each row, and the row of each column. A column is free where its row is n or more.
pub record Pairs : Type 0 where
  pub cols : List ℕ
  pub rows : List ℕ

-- A stage's end: pairs, column prices, and the rows that are free, which are the first `count` of the list.
pub record Stage : Type 0 where
  pub pairs : Pairs
  pub prices : List ℤ
  pub frees : List ℕ
  pub count : ℕ

-- ---- "v[j] is the column minimum, ties to the lowest row."

-- The minimum of column j and its row.
abbrev pub minimum : ℕ → (ℕ → ℕ → ℤ) → ℕ → Low
minimum n cost j = lowest n (λ i. cost i j)

-- ---- "Columns claim their row from last to first; a loser is free and marks that row not unique."

-- Pairs, and the mark of each row: 0 unclaimed, 1 unique, 2 not unique.
pub record Claims : Type 0 where
  pub cols : List ℕ
  pub rows : List ℕ
  pub marks : List ℕ

-- Column j claims its row.
abbrev pub claim : ℕ → Claims → Claims
claim j s =
    let i = at s.rows j in
    cond (eqb (at s.marks i) 0)
    (record { cols = set s.cols i j; rows = s.rows; marks = set s.marks i 1 })
    (record { cols = s.cols; rows = set s.rows j free; marks = set s.marks i 2 })

-- Before the claims: each column has the row of its minimum.
abbrev pub unclaimed : ℕ → (ℕ → ℕ → ℤ) → Claims
unclaimed n cost = record { cols = table n (λ i. 0); rows = table n (λ j. (minimum n cost j).place); marks = table n (λ i. 0) }

-- From last to first.
unfoldable pub claims : ℕ → (ℕ → ℕ → ℤ) → Claims
claims n cost = downward n claim (unclaimed n cost)

-- ---- "Then rows upward: an unclaimed row joins the free list; a unique row lowers its column's v by the least reduced cost over the
-- other columns, using prices already lowered."

-- Prices, and the free list with its count.
pub record Transfer : Type 0 where
  pub prices : List ℤ
  pub frees : List ℕ
  pub count : ℕ

-- A price, lowered by a least value. Side 1 has no other column, and there the price stays.
abbrev pub less_least : ℤ → Option ℤ → ℤ
less_least v None = v
less_least v (Some h) = v -ℤ h

-- A unique row i lowers the price of its column j.
abbrev pub lower_column : ℕ → (ℕ → ℕ → ℤ) → ℕ → ℕ → List ℤ → List ℤ
lower_column n cost i j v = set v j (less_least (signed_at v j) (least_but n (reduced cost (signed_at v) i) j))

-- Row i joins the free list, lowers its column's price, or does nothing.
abbrev pub transfer : ℕ → (ℕ → ℕ → ℤ) → Claims → ℕ → Transfer → Transfer
transfer n cost s i x =
    cond (eqb (at s.marks i) 0) (record { prices = x.prices; frees = set x.frees x.count i; count = x.count + 1 })
    (cond (eqb (at s.marks i) 1)
    (record { prices = lower_column n cost i (at s.cols i) x.prices; frees = x.frees; count = x.count })
    x)

-- Before the transfer: each column's price is its minimum.
abbrev pub untransferred : ℕ → (ℕ → ℕ → ℤ) → Transfer
untransferred n cost = record { prices = table n (λ j. (minimum n cost j).value); frees = table n (λ i. 0); count = 0 }

-- Rows upward.
unfoldable pub transfers : ℕ → (ℕ → ℕ → ℤ) → Claims → Transfer
transfers n cost s = upward 0 n (transfer n cost s) (untransferred n cost)

-- Claims and transfer, put together.
abbrev pub stage_of : Claims → Transfer → Stage
stage_of s x = record { pairs = record { cols = s.cols; rows = s.rows }; prices = x.prices; frees = x.frees; count = x.count }

-- Rule 3.
unfoldable pub column_reduction : ℕ → (ℕ → ℕ → ℤ) → Stage
column_reduction n cost = let s = claims n cost in stage_of s (transfers n cost s)
