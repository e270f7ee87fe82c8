-- The nights on paper: document 01's starred nights N0 to N8, further nights that tell each slip of the hand from the rule, and a surcharge on a row.
use Rattle.std.specs.Prelude.{List, [], ◌∷◌, map, ℕ, ◌*◌, ℤ, pos, neg_ℤ}
use Rattle.lists.specs.Permutations.{table}
use Rattle.rules.specs.declared.Counts.{Counts}
use Rattle.rules.specs.Run.{run}

-- "Columns by row; v; row prices; total; counts."
pub record Line : Type 0 where
  pub side : ℕ
  pub costs : List ℤ
  pub cols : List ℕ
  pub v : List ℤ
  pub prices_of_rows : List ℤ
  pub total : ℤ
  pub counts : Counts

-- The line that the rules make of a line's costs.
abbrev pub computed : Line → Line
computed l =
    let a = run l.side l.costs in
    record { side = l.side; costs = l.costs; cols = a.cols; v = a.prices_of_columns; prices_of_rows = a.prices_of_rows; total = a.total; counts = a.counts }

-- Numbers that are not negative.
abbrev pub nats : List ℕ → List ℤ
nats l = map pos l

-- A negative number.
abbrev pub minus : ℕ → ℤ
minus k = neg_ℤ (pos k)

-- Document 01's K, which `matrix` defines above this crate.
abbrev pub K : ℕ
K = 1000000000

-- Six counts.
abbrev pub six : ℕ → ℕ → ℕ → ℕ → ℕ → ℕ → Counts
six a b c d e f = record { free_rows = a; looks_one = b; left_one = c; looks_two = d; rows_left = e; columns_scanned = f }

-- A line.
abbrev pub line : ℕ → List ℤ → List ℕ → List ℤ → List ℤ → ℤ → Counts → Line
line n costs cols v rows total counts = record { side = n; costs = costs; cols = cols; v = v; prices_of_rows = rows; total = total; counts = counts }

-- N8: [3 1 0 / 0 0 2 / 4 1 0], whose prices N9 and N10 take.
abbrev pub n8 : Line
n8 = line 3 (nats (3 ∷ 1 ∷ 0 ∷ 0 ∷ 0 ∷ 2 ∷ 4 ∷ 1 ∷ 0 ∷ [])) (2 ∷ 0 ∷ 1 ∷ []) (pos 0 ∷ pos 0 ∷ minus 1 ∷ []) (nats (1 ∷ 0 ∷ 1 ∷ [])) (pos 1) (six 1 1 1 1 1 1)

-- A surcharge on a row: a night whose costs are all 0, and the same with 1 on row 0. The same pairings are least, and another is chosen.
abbrev pub even : Line
even = line 2 (nats (0 ∷ 0 ∷ 0 ∷ 0 ∷ [])) (1 ∷ 0 ∷ []) (nats (0 ∷ 0 ∷ [])) (nats (0 ∷ 0 ∷ [])) (pos 0) (six 1 1 0 0 0 0)

abbrev pub row_dearer : Line
row_dearer = line 2 (nats (1 ∷ 1 ∷ 0 ∷ 0 ∷ [])) (0 ∷ 1 ∷ []) (nats (0 ∷ 0 ∷ [])) (nats (1 ∷ 0 ∷ [])) (pos 1) (six 1 1 0 0 0 0)

-- N0 to N8, then eight nights that between them tell every slip that can be told, then the surcharge on a row.
abbrev pub nights : List Line
nights =
    -- N0: side 0.
    line 0 [] [] [] [] (pos 0) (six 0 0 0 0 0 0)
    -- N1: [7].
    ∷ line 1 (nats (7 ∷ [])) (0 ∷ []) (nats (7 ∷ [])) (nats (0 ∷ [])) (pos 7) (six 0 0 0 0 0 0)
    -- N2: [1 2 / 3 4].
    ∷ line 2 (nats (1 ∷ 2 ∷ 3 ∷ 4 ∷ [])) (1 ∷ 0 ∷ []) (nats (1 ∷ 2 ∷ [])) (nats (0 ∷ 2 ∷ [])) (pos 5) (six 1 1 0 0 0 0)
    -- N3: 3 by 3 zeros.
    ∷ line 3 (nats (table 9 (λ k. 0))) (2 ∷ 0 ∷ 1 ∷ []) (nats (0 ∷ 0 ∷ 0 ∷ [])) (nats (0 ∷ 0 ∷ 0 ∷ [])) (pos 0) (six 2 2 0 0 0 0)
    -- N4: [1 5 / 6 2].
    ∷ line 2 (nats (1 ∷ 5 ∷ 6 ∷ 2 ∷ [])) (0 ∷ 1 ∷ []) (minus 2 ∷ minus 6 ∷ []) (nats (3 ∷ 8 ∷ [])) (pos 3) (six 0 0 0 0 0 0)
    -- N5: [-K K / K -K].
    ∷ line 2 (minus K ∷ pos K ∷ pos K ∷ minus K ∷ []) (0 ∷ 1 ∷ []) (minus (3 * K) ∷ minus (5 * K) ∷ []) (pos (2 * K) ∷ pos (4 * K) ∷ []) (minus (2 * K)) (six 0 0 0 0 0 0)
    -- N6: [1 2 / 1 5].
    ∷ line 2 (nats (1 ∷ 2 ∷ 1 ∷ 5 ∷ [])) (1 ∷ 0 ∷ []) (minus 2 ∷ pos 2 ∷ []) (nats (0 ∷ 3 ∷ [])) (pos 3) (six 1 1 0 0 0 0)
    -- N7: [3 1 0 / 0 0 2 / 9 9 0].
    ∷ line 3 (nats (3 ∷ 1 ∷ 0 ∷ 0 ∷ 0 ∷ 2 ∷ 9 ∷ 9 ∷ 0 ∷ [])) (1 ∷ 0 ∷ 2 ∷ []) (pos 0 ∷ minus 2 ∷ minus 9 ∷ []) (nats (3 ∷ 0 ∷ 9 ∷ [])) (pos 1) (six 1 3 0 0 0 0)
    -- N8.
    ∷ n8
    -- A fresh block with two free columns: the last is taken. And free rows in list order; an equal distance joins the block.
    ∷ line 5 (nats (1 ∷ 1 ∷ 1 ∷ 0 ∷ 0 ∷ 1 ∷ 1 ∷ 1 ∷ 0 ∷ 0 ∷ 1 ∷ 1 ∷ 1 ∷ 0 ∷ 0 ∷ 1 ∷ 1 ∷ 1 ∷ 0 ∷ 0 ∷ 1 ∷ 1 ∷ 1 ∷ 0 ∷ 0 ∷ [])) (4 ∷ 0 ∷ 2 ∷ 1 ∷ 3 ∷ []) (nats (1 ∷ 1 ∷ 1 ∷ 0 ∷ 0 ∷ [])) (nats (0 ∷ 0 ∷ 0 ∷ 0 ∷ 0 ∷ [])) (pos 3) (six 4 4 2 2 2 0)
    -- A hit in a scan: lo keeps its value, so v[2] and v[3] fall by 1 and not by 2. And a predecessor changes only on a lower distance.
    ∷ line 5 (nats (1 ∷ 2 ∷ 0 ∷ 0 ∷ 1 ∷ 0 ∷ 0 ∷ 0 ∷ 0 ∷ 0 ∷ 1 ∷ 2 ∷ 0 ∷ 0 ∷ 1 ∷ 2 ∷ 2 ∷ 0 ∷ 0 ∷ 1 ∷ 0 ∷ 1 ∷ 1 ∷ 1 ∷ 1 ∷ [])) (3 ∷ 1 ∷ 2 ∷ 4 ∷ 0 ∷ []) (minus 1 ∷ pos 0 ∷ minus 1 ∷ minus 1 ∷ pos 0 ∷ []) (nats (1 ∷ 0 ∷ 1 ∷ 1 ∷ 1 ∷ [])) (pos 1) (six 3 3 1 1 1 3)
    -- A go-back compared with n, not current*n, would send the last displaced row to a second pass.
    ∷ line 3 (nats (0 ∷ 0 ∷ 0 ∷ 0 ∷ 0 ∷ 0 ∷ 1 ∷ 1 ∷ 0 ∷ [])) (1 ∷ 0 ∷ 2 ∷ []) (pos 0 ∷ pos 0 ∷ minus 1 ∷ []) (nats (0 ∷ 0 ∷ 1 ∷ [])) (pos 0) (six 2 3 0 0 0 0)
    -- In the late branch there is no swap to j2.
    ∷ line 4 (nats (3 ∷ 1 ∷ 0 ∷ 3 ∷ 3 ∷ 0 ∷ 0 ∷ 2 ∷ 0 ∷ 0 ∷ 0 ∷ 0 ∷ 2 ∷ 0 ∷ 1 ∷ 2 ∷ [])) (2 ∷ 1 ∷ 3 ∷ 0 ∷ []) (pos 0 ∷ minus 2 ∷ minus 3 ∷ pos 0 ∷ []) (nats (3 ∷ 2 ∷ 0 ∷ 2 ∷ [])) (pos 2) (six 1 4 1 1 0 0)
    -- In the late branch v stays.
    ∷ line 2 (nats (0 ∷ 0 ∷ 1 ∷ 0 ∷ [])) (0 ∷ 1 ∷ []) (pos 0 ∷ minus 1 ∷ []) (nats (0 ∷ 1 ∷ [])) (pos 0) (six 1 2 0 0 0 0)
    -- The transfer uses prices already lowered.
    ∷ line 2 (nats (0 ∷ 1 ∷ 0 ∷ 0 ∷ [])) (0 ∷ 1 ∷ []) (minus 1 ∷ minus 1 ∷ []) (nats (1 ∷ 1 ∷ [])) (pos 0) (six 0 0 0 0 0 0)
    -- A scan is left only at a free column that lies at the block's minimum.
    ∷ line 4 (nats (0 ∷ 0 ∷ 0 ∷ 0 ∷ 0 ∷ 1 ∷ 0 ∷ 0 ∷ 0 ∷ 1 ∷ 0 ∷ 0 ∷ 0 ∷ 2 ∷ 0 ∷ 0 ∷ [])) (1 ∷ 0 ∷ 2 ∷ 3 ∷ []) (nats (0 ∷ 0 ∷ 0 ∷ 0 ∷ [])) (nats (0 ∷ 0 ∷ 0 ∷ 0 ∷ [])) (pos 0) (six 3 3 1 1 1 3)
    -- A column that a scan lowers to the minimum joins the block.
    ∷ line 5 (nats (0 ∷ 1 ∷ 2 ∷ 2 ∷ 1 ∷ 0 ∷ 0 ∷ 0 ∷ 0 ∷ 1 ∷ 0 ∷ 2 ∷ 2 ∷ 2 ∷ 1 ∷ 0 ∷ 1 ∷ 1 ∷ 0 ∷ 0 ∷ 0 ∷ 0 ∷ 0 ∷ 0 ∷ 0 ∷ [])) (1 ∷ 3 ∷ 0 ∷ 4 ∷ 2 ∷ []) (minus 1 ∷ pos 0 ∷ pos 0 ∷ pos 0 ∷ pos 0 ∷ []) (nats (1 ∷ 0 ∷ 1 ∷ 0 ∷ 0 ∷ [])) (pos 1) (six 2 2 1 1 1 3)
    ∷ even
    ∷ row_dearer
    ∷ []
