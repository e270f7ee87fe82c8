-- What functions that the entries call leave in the state.
use Rattle.std.specs.Prelude.{cond, List, ◌++◌, ℕ, ◌*◌, ltb, ℤ, pos, take, drop, Result, Ok, Err}
use lib.Seq.{sets}
use Rattle.layout.specs.Editions.{named}
use Rattle.layout.specs.Sheets.{costs_at, bars_at}
use Rattle.bars.specs.Barred.{first_barred, filled_costs}
use Rattle.bars.specs.Masks.{shown_rows}
use Rattle.bars.specs.Tests.{bars_clear}
use Rattle.matrix.specs.Limits.{K}
use Rattle.matrix.specs.Verdicts.{Verdict, ◌then◌}
use Rattle.matrix.specs.Tests.{costs_in}
use Rattle.matrix.specs.declared.refusals.Refusal.{Refusal}
use Rattle.lapjv.specs.declared.Sums.{Sums}
use Rattle.lapjv.specs.Solve.{solve}
use Rattle.sheet.specs.declared.State.{State}
use Rattle.sheet.specs.declared.Unpaired.{Unpaired}
use Rattle.sheet.specs.declared.Unpaired.TheVariants.{Refused, Blocked}
use Rattle.sheet.specs.Reading.{has_bars, cost_most}
use Rattle.sheet.specs.Settle.{lent, state_of, Outcome}

-- So many costs, the first at a distance before the trailer, are read over the front of the state's costs.
abbrev pub read_into : ℕ → ℕ → List ℕ → State → State
read_into distance count sheet s = state_of (sets s.costs 0 (costs_at distance count sheet)) s.bars (lent s)

-- The bars of n rows are read over the front of the state's bars, where the edition has some.
abbrev pub bars_into : ℕ → ℕ → List ℕ → State → State
bars_into edition n sheet s = state_of s.costs (cond (has_bars edition) (sets s.bars 0 (bars_at n sheet)) s.bars) (lent s)

-- The first n*n costs have K on barred places.
abbrev pub filled_in : ℕ → State → State
filled_in n s = state_of (filled_costs n (pos K) s.costs s.bars ++ drop (n * n) s.costs) s.bars (lent s)

-- Of the pairs that the solver left in a state none is barred, and then this is answered; or rows are shown.
abbrev pub unbarred : {A : Type 0} → A → ℕ → State → Result A Unpaired
unbarred a n s = cond (ltb (first_barred n s.bars s.cols) n) (Err (Blocked (shown_rows n s.bars s.cols))) (Ok a)

-- What is settled with a total and the state that it was found in.
abbrev pub settled_with : ℕ → ℕ → ℕ → Result ℤ Unpaired → State → Outcome
settled_with edition m n (Ok total) s = Ok (record { edition = named edition; row_count = m; side = n; total = total; state = s })
settled_with edition m n (Err unpaired) s = Err unpaired

-- What is settled by the solver's answer and the state that it worked in: its pairs are those of the night, or one is barred.
abbrev pub settled_by : ℕ → ℕ → ℕ → Result Sums Refusal → State → Outcome
settled_by edition m n (Err refusal) s = Err (Refused refusal)
settled_by edition m n (Ok found) s = settled_with edition m n (unbarred found.total n s) s

-- The solver on the first n*n costs of a state, in its other arrays.
abbrev pub solved_in : ℕ → ℕ → ℕ → State → Outcome
solved_in edition m n s =
    let o = solve n (take (n * n) s.costs) (lent s) in
    settled_by edition m n o.answer (state_of s.costs s.bars o.lent)

-- 5 and 22, of the first m*n costs and n bars of a state.
abbrev pub state_tests : ℕ → ℕ → ℕ → State → Verdict
state_tests edition m n s = costs_in (pos (cost_most edition)) (take (m * n) s.costs) then bars_clear n s.bars

-- A night that was read into a state: refused, or filled and solved.
abbrev pub settled_if : ℕ → ℕ → ℕ → State → Verdict → Outcome
settled_if edition m n s (Ok _) = solved_in edition m n (filled_in n s)
settled_if edition m n s (Err refusal) = Err (Refused refusal)

abbrev pub settled_in : ℕ → ℕ → ℕ → State → Outcome
settled_in edition m n s = settled_if edition m n s (state_tests edition m n s)
