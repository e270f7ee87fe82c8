-- The limits. Laws cite them by name; proofs/SmallLimits.antt, the function that answers each, and computed examples open them.
use Rattle.std.specs.Prelude.{ℕ, ◌^◌}

-- "Side n: 0 to" 4,096.
unfoldable pub side : ℕ
side = 4096

-- "on a sheet, 0 to 64."
unfoldable pub sheet_side : ℕ
sheet_side = 64

-- "K = 1,000,000,000. Costs are 32-bit signed, in -K..K".
unfoldable pub K : ℕ
K = 1000000000

-- How near to 0 prices and distances are: loosely, far above any multiple of K that occurs and far below 2 ^ 63, so that no sum or
-- difference of a few of them wraps.
abbrev pub near : ℕ
near = 2 ^ 40
