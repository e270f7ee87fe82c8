-- Rule 1, the two lowest; and the two least values that rule 3 needs.
use Rattle.std.specs.Prelude.{cond, ℕ, ℤ, ◌-ℤ◌, eqb, Option, Some, None}
use Rattle.std.specs.Int.Signed.{lt_z, le_z}
use Rattle.lists.specs.Runs.{upward}
use Rattle.rules.specs.declared.Low.{Low}
use Rattle.rules.specs.declared.TwoLowest.{TwoLowest}
use Rattle.rules.specs.declared.TwoLowest.TheVariants.{One, Two}

-- "Reduced cost of (i, j) is cost minus column price v[j]."
abbrev pub reduced : (ℕ → ℕ → ℤ) → (ℕ → ℤ) → ℕ → ℕ → ℤ
reduced cost v i j = cost i j -ℤ v j

-- A value at its place.
abbrev pub low : ℤ → ℕ → Low
low x j = record { value = x; place = j }

-- Rule 1: "Start with column 0 as lowest, no second. From column 1 on, a value h counts only if below the second. If h >= lowest it becomes
-- second; otherwise the old lowest becomes second and h lowest. Only side 1 has no second; no row look occurs there."

-- A value that counts becomes second; or the old lowest becomes second and it lowest.
abbrev pub beside : Low → Low → TwoLowest
beside lowest h = cond (le_z lowest.value h.value) (Two lowest h) (Two h lowest)

-- A value counts only if below the second, where there is one.
abbrev pub two_step : TwoLowest → Low → TwoLowest
two_step (One lowest) h = beside lowest h
two_step (Two lowest second) h = cond (lt_z h.value second.value) (beside lowest h) (Two lowest second)

-- The two lowest of f 0, f 1, .., f (n - 1).
unfoldable pub two_lowest : ℕ → (ℕ → ℤ) → TwoLowest
two_lowest n f = upward 1 n (λ j found. two_step found (low (f j) j)) (One (low (f 0) 0))

-- For rule 3: a value below the lowest takes its place.
abbrev pub lower : Low → Low → Low
lower lowest h = cond (lt_z h.value lowest.value) h lowest

-- The lowest of f 0, f 1, .., f (n - 1), ties to the first.
unfoldable pub lowest : ℕ → (ℕ → ℤ) → Low
lowest n f = upward 1 n (λ i found. lower found (low (f i) i)) (low (f 0) 0)

-- A value beside the least so far.
abbrev pub least : Option ℤ → ℤ → Option ℤ
least None h = Some h
least (Some a) h = Some (cond (lt_z h a) h a)

-- The least of f 0, f 1, .., f (n - 1) but f j.
unfoldable pub least_but : ℕ → (ℕ → ℤ) → ℕ → Option ℤ
least_but n f j = upward 0 n (λ k found. cond (eqb k j) found (least found (f k))) None
