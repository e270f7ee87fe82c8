-- The checker makes every line of its table of nights, by computation over the definition. Assumes nothing.
use mathlib.Core.Path.{◌≡◌, refl}
use mathlib.Core.List.{[], ◌∷◌, map}
use Rattle.lists.specs.Runs.{turns, upward, first}
use Rattle.lists.specs.Sums.{sum}
use Rattle.matrix.specs.Limits.{side, sheet_side, K}
use Rattle.matrix.specs.Verdicts.{fails_by, fails_at_by}
use Rattle.matrix.specs.Answers.{totalled}
use Rattle.bars.specs.Tests.{barred_most}
use Rattle.checker.specs.Check.{checks, check, checks_barred, check_barred, checks_oblong, check_oblong}
use Rattle.checker.specs.Nights.{checked, nights, checked_barred, barred_nights, past_side, bars_short, none_barred, checked_oblong, oblong_nights}

pub all_checked : map checked nights ≡ nights
unfolding check checks totalled fails_by fails_at_by first upward turns sum side K
all_checked = refl

pub all_barred : map (checked_barred (1 ∷ 0 ∷ [])) barred_nights ≡ barred_nights
unfolding check_barred checks_barred totalled fails_by fails_at_by first upward turns sum sheet_side barred_most K
all_barred = refl

pub bars_refused : (checked_barred (1 ∷ 4 ∷ []) past_side ≡ past_side) × (checked_barred (1 ∷ []) bars_short ≡ bars_short) × (checked_barred (0 ∷ 0 ∷ []) none_barred ≡ none_barred)
unfolding check_barred checks_barred totalled fails_by fails_at_by first upward turns sum sheet_side barred_most K
bars_refused = (refl, refl, refl)

pub all_oblong : map checked_oblong oblong_nights ≡ oblong_nights
unfolding check_oblong checks_oblong totalled fails_by fails_at_by first upward turns sum sheet_side K
all_oblong = refl
