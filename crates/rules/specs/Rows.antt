-- Rule 4, row reduction.
use Rattle.std.specs.Prelude.{Bool, true, false, cond, List, ℕ, ◌+◌, ◌*◌, ℤ, ◌-ℤ◌, set, ltb}
use Rattle.std.specs.Int.Signed.{lt_z}
use Rattle.lists.specs.Runs.{upward}
use Rattle.lists.specs.Permutations.{at}
use Rattle.assignment.specs.Pairings.{signed_at}
use Rattle.rules.specs.declared.TwoLowest.{TwoLowest}
use Rattle.rules.specs.declared.TwoLowest.TheVariants.{One, Two}
use Rattle.rules.specs.declared.Choice.{Choice}
use Rattle.rules.specs.declared.Pass.{Pass}
use Rattle.rules.specs.Lowest.{reduced, two_lowest}
use Rattle.rules.specs.Columns.{Pairs, Stage}

-- Row i takes column j.
abbrev pub take_column : Pairs → ℕ → ℕ → Pairs
take_column p i j = record { cols = set p.cols i j; rows = set p.rows j i }

-- A pass under way, with all that it changes.
pub record Passing : Type 0 where
  pub pairs : Pairs
  pub prices : List ℤ
  pub frees : List ℕ
  pub pass : Pass

-- ---- "If counter < current*n: lower v[j1] by second minus lowest if that is positive; otherwise, if j1 is taken, use j2. [..] If counter
-- >= current*n: v stays, no swap to j2, [..]."

-- Column j at the price that it has.
abbrev pub keep_price : List ℤ → ℕ → Choice
keep_price v j = record { column = j; price = signed_at v j; back = false }

-- Column j at a price lowered by second minus lowest.
abbrev pub lower_price : List ℤ → ℕ → ℤ → ℤ → Choice
lower_price v j lowest second = record { column = j; price = signed_at v j -ℤ (second -ℤ lowest); back = true }

-- What a row takes, from its two lowest. `early`: the counter is below current*n.
abbrev pub choose : ℕ → Bool → List ℤ → List ℕ → TwoLowest → Choice
choose n early v rows (One a) = keep_price v a.place
choose n early v rows (Two a b) =
    cond early
    (cond (lt_z a.value b.value) (lower_price v a.place a.value b.value)
    (keep_price v (cond (ltb (at rows a.place) n) b.place a.place)))
    (keep_price v a.place)

-- ---- "A displaced row goes back to `current` if v was lowered, otherwise to the next pass's list. [..] a displaced row goes to the next
-- list."

-- The free list and where the pass goes on.
pub record Placed : Type 0 where
  pub frees : List ℕ
  pub pass : Pass

-- A pass that goes on.
abbrev pub pass_at : ℕ → ℕ → ℕ → Pass
pass_at current left looks = record { current = current; left = left; looks = looks }

-- Row h held the column; where h is n or more, none did.
abbrev pub displace : ℕ → List ℕ → Pass → Bool → ℕ → Placed
displace n frees p back h =
    cond (ltb h n)
    (cond back (record { frees = set frees p.current h; pass = pass_at p.current p.left (p.looks + 1) })
    (record { frees = set frees p.left h; pass = pass_at (p.current + 1) (p.left + 1) (p.looks + 1) }))
    (record { frees = frees; pass = pass_at (p.current + 1) p.left (p.looks + 1) })

-- ---- "A look raises both the look counter and `current`. [..] Then the row takes the column."

-- Row i takes what was chosen.
abbrev pub settle : ℕ → Passing → ℕ → Choice → Passing
settle n x i w =
    let placed = displace n x.frees x.pass w.back (at x.pairs.rows w.column) in
    record {
      pairs = take_column x.pairs i w.column;
      prices = set x.prices w.column w.price;
      frees = placed.frees;
      pass = placed.pass;
    }

-- The counter, raised by this look, is below `current`, raised by it too, times n.
abbrev pub is_early : ℕ → Pass → Bool
is_early n p = ltb (p.looks + 1) ((p.current + 1) * n)

-- A look at the free row at `current`.
abbrev pub look : ℕ → (ℕ → ℕ → ℤ) → Passing → Passing
look n cost x =
    let i = at x.frees x.pass.current in
    settle n x i (choose n (is_early n x.pass) x.prices x.pairs.rows (two_lowest n (reduced cost (signed_at x.prices) i)))

-- At most m looks, at the first `count` rows of the list.
unfoldable pub looks : ℕ → (ℕ → ℕ → ℤ) → ℕ → ℕ → Passing → Passing
looks n cost count m x = upward 0 m (λ k y. cond (ltb y.pass.current count) (look n cost y) y) x

-- Before the first look of a pass.
abbrev pub pass_start : Stage → Passing
pass_start s = record { pairs = s.pairs; prices = s.prices; frees = s.frees; pass = pass_at 0 0 0 }

-- After the last.
abbrev pub pass_end : Passing → Stage
pass_end x = record { pairs = x.pairs; prices = x.prices; frees = x.frees; count = x.pass.left }

-- A pass over the free rows. "A pass over F rows makes F to F*n looks": so F*n turns are enough. Over no rows it makes no look.
unfoldable pub row_reduction : ℕ → (ℕ → ℕ → ℤ) → Stage → Passing
row_reduction n cost s = looks n cost s.count (s.count * n) (pass_start s)
