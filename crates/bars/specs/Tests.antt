-- The tests of bars, each under its number.
use Rattle.std.specs.Prelude.{List, ℕ, ℤ, pos}
use Rattle.lists.specs.Permutations.{at}
use Rattle.lists.specs.Counts.{bit_of}
use Rattle.matrix.specs.Verdicts.{fails_at}
use Rattle.matrix.specs.Tests.{costs_in}
use Rattle.matrix.specs.declared.refusals.Reason.TheVariants.{BarsPastSide, BarredPair}
use Rattle.matrix.specs.Verdicts.{Verdict}
use Rattle.bars.specs.Barred.{bits_above}

-- "its costs, barred ones too, lie within 1,000,000 of zero": far below K, which stands on barred places when such a night is solved.
unfoldable pub barred_most : ℕ
barred_most = 1000000

-- 5, of costs with bars.
abbrev pub costs_small : List ℤ → Verdict
costs_small costs = costs_in (pos barred_most) costs

-- 22, "bits from n up must be clear (22, place the row)".
abbrev pub bars_clear : ℕ → List ℕ → Verdict
bars_clear n bars = fails_at BarsPastSide (λ i. i) n (λ i. bits_above n (at bars i))

-- 26, "refuses a barred pair with 26, place the first row".
abbrev pub unbarred : ℕ → List ℕ → List ℕ → Verdict
unbarred n bars cols = fails_at BarredPair (λ i. i) n (λ i. bit_of (at bars i) (at cols i))
