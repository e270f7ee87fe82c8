-- What a C caller gets about a second pairing: "refusal", "total", "slack" and "also 0 or 1".
use Rattle.std.specs.Prelude.{Bool, cond, List, ℕ, ◌+◌, ◌*◌, ◌-◌, ◌^◌, ltb, ℤ}
use Rattle.swaps.specs.Entries.{Lent, lent_of, Outcome, SecondValues, second_values}
use Rattle.face.specs.declared.Second.{Second}

-- A truth as a number.
abbrev pub flag : Bool → ℕ
flag b = cond b 1 0

-- A total and whether there is another, or a refusal with its slack.
abbrev pub seconded : SecondValues → Second
seconded v = record { refusal = v.number + 256 * v.place; total = v.total; slack = v.slack; also = flag v.also }

-- The same whatever the place: "where number + 256*place would not fit 64 bits, the C face tells the place as 2^56 - 1".
abbrev pub seconded_any : SecondValues → Second
seconded_any v =
    record { refusal = v.number + 256 * cond (ltb v.place (2 ^ 56)) v.place (2 ^ 56 - 1); total = v.total; slack = v.slack; also = flag v.also }

-- The three lists that may be written.
abbrev pub three : List ℕ → List ℕ → List ℤ → Lent
three list indices numbers = lent_of list indices numbers

-- What a C caller gets and finds in the lent lists.
pub record HandedSecond : Type 0 where
  pub second : Second
  pub lent : Lent

abbrev pub handed_second : Outcome → HandedSecond
handed_second o = record { second = seconded (second_values o.answer); lent = o.lent }

abbrev pub handed_second_any : Outcome → HandedSecond
handed_second_any o = record { second = seconded_any (second_values o.answer); lent = o.lent }
