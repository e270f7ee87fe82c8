-- Nights on paper: document 01's N8 and N4, and small ones with bars and with spare columns. Which second is given, or that there is only one.
use Rattle.std.specs.Prelude.{List, [], ◌∷◌, ℕ, ℤ, pos, negsuc}
use Rattle.bars.specs.Barred.{night_of}
use Rattle.swaps.specs.Second.{Answer, only, also, second}

-- Rows and columns, costs, bars, the pairing, row prices, column prices, and what is answered.
pub record Line : Type 0 where
  pub row_count : ℕ
  pub column_count : ℕ
  pub costs : List ℤ
  pub bars : List ℕ
  pub cols : List ℕ
  pub prices_of_rows : List ℤ
  pub prices_of_columns : List ℤ
  pub answer : Answer

abbrev pub line : ℕ → ℕ → List ℤ → List ℕ → List ℕ → List ℤ → List ℤ → Answer → Line
line m n costs bars cols us vs answer = record {
  row_count = m;
  column_count = n;
  costs = costs;
  bars = bars;
  cols = cols;
  prices_of_rows = us;
  prices_of_columns = vs;
  answer = answer;
}

-- The line that the walk makes of a line's night, pairing and prices.
abbrev pub answered : Line → Line
answered l =
    line l.row_count l.column_count l.costs l.bars l.cols l.prices_of_rows l.prices_of_columns
    (second (night_of l.row_count l.column_count l.costs l.bars) l.prices_of_rows l.prices_of_columns l.cols)

abbrev pub nights : List Line
nights =
    -- "N8 must show columns 1 0 2": [3 1 0 / 0 0 2 / 4 1 0].
    line 3 3 (pos 3 ∷ pos 1 ∷ pos 0 ∷ pos 0 ∷ pos 0 ∷ pos 2 ∷ pos 4 ∷ pos 1 ∷ pos 0 ∷ []) [] (2 ∷ 0 ∷ 1 ∷ []) (pos 1 ∷ pos 0 ∷ pos 1 ∷ [])
    (pos 0 ∷ pos 0 ∷ negsuc 0 ∷ []) (also (1 ∷ 0 ∷ 2 ∷ []))
    -- "N4 has only one": [1 5 / 6 2].
    ∷ line 2 2 (pos 1 ∷ pos 5 ∷ pos 6 ∷ pos 2 ∷ []) [] (0 ∷ 1 ∷ []) (pos 3 ∷ pos 8 ∷ []) (negsuc 1 ∷ negsuc 5 ∷ []) only
    -- No row.
    ∷ line 0 0 [] [] [] [] [] only
    -- Six rows and six columns of zeros: the first two rows change. Its prices are 0, as what stands past the end of a list is.
    ∷ line 6 6 [] [] (0 ∷ 1 ∷ 2 ∷ 3 ∷ 4 ∷ 5 ∷ []) [] [] (also (1 ∷ 0 ∷ 2 ∷ 3 ∷ 4 ∷ 5 ∷ []))
    -- Row 0 leads nowhere; rows 1 and 2 change.
    ∷ line 3 3 (pos 0 ∷ pos 1 ∷ pos 1 ∷ []) [] (0 ∷ 1 ∷ 2 ∷ []) [] [] (also (0 ∷ 2 ∷ 1 ∷ []))
    -- Two rows and two columns of zeros, of which row 0 may not have column 1.
    ∷ line 2 2 [] (2 ∷ 0 ∷ []) (0 ∷ 1 ∷ []) [] [] only
    -- One row and two columns: the spare column costs the same; or more, and its price is higher too.
    ∷ line 1 2 (pos 5 ∷ pos 5 ∷ []) [] (0 ∷ []) (pos 5 ∷ []) (pos 0 ∷ pos 0 ∷ []) (also (1 ∷ []))
    ∷ line 1 2 (pos 5 ∷ pos 6 ∷ []) [] (0 ∷ []) (pos 5 ∷ []) (pos 0 ∷ pos 1 ∷ []) only
    -- Row 0, which may not have column 1, moves to the spare column 2; that asks for one of the dearest used columns to become spare, column 1 of
    -- row 1, which moves to column 0.
    ∷ line 2 3 (pos 0 ∷ pos 1 ∷ pos 1 ∷ pos 0 ∷ pos 1 ∷ pos 1 ∷ []) (2 ∷ 0 ∷ []) (0 ∷ 1 ∷ []) (pos 0 ∷ pos 0 ∷ []) (pos 0 ∷ pos 1 ∷ pos 1 ∷ [])
    (also (2 ∷ 0 ∷ []))
    ∷ []
