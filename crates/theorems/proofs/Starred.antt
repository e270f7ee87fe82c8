-- The scope's starred table, N0 to N10, in one theorem: the rules make every line of theirs, and the checker every line of its; N9 and N10 take N8's
-- prices from N8's own line. Assumes nothing.
use mathlib.Core.Path.{◌≡◌, refl}
use mathlib.Core.Bool.{true, false}
use mathlib.Core.List.{List, [], ◌∷◌, map}
use Prim.Native.Nat.{ℕ}
use lib.IntN.{pos}
use Rattle.lists.specs.Runs.{turns, upward, first}
use Rattle.lists.specs.Sums.{sum}
use Rattle.matrix.specs.Limits.{side, K}
use Rattle.matrix.specs.Verdicts.{fails_by, fails_at_by}
use Rattle.matrix.specs.Answers.{Values, values_of, totalled}
use Rattle.rules.specs.Nights as rules
use Rattle.rules.proofs.AllNights.{all_computed}
use Rattle.checker.specs.Check.{checks, check}
use Rattle.checker.specs.Nights as checker
use Rattle.checker.proofs.Nights.{all_checked}

-- What the checker says of N8's costs and prices with these columns, which name each other both ways.
abbrev pub of_n8 : List ℕ → Values
of_n8 cols = values_of (check 3 (rules.n8).costs cols cols (rules.n8).prices_of_rows (rules.n8).v)

pub starred : (map rules.computed rules.nights ≡ rules.nights)
    × (of_n8 (1 ∷ 0 ∷ 2 ∷ []) ≡ record { accepted = true; number = 0; place = 0; slack = pos 0; total = pos 1 })
    × (of_n8 (0 ∷ 1 ∷ 2 ∷ []) ≡ record { accepted = false; number = 10; place = 0; slack = pos 2; total = pos 0 })
    × (map checker.checked checker.nights ≡ checker.nights)
unfolding check checks totalled fails_by fails_at_by first upward turns sum side K
starred = (all_computed, refl, refl, all_checked)
