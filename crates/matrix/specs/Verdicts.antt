-- A hall of tests: each says that an input passes or why it fails, and the first that fails decides.
use Rattle.std.specs.Prelude.{◌≡◌, Bool, cond, ℕ, ltb, ℤ, pos, Option, Some, None, Result, Ok, Err}
use Rattle.lists.specs.Runs.{first}
use Rattle.matrix.specs.Refusals.{place_of}
use Rattle.matrix.specs.declared.refusals.Reason.{Reason}
use Rattle.matrix.specs.declared.refusals.Refusal.{Refusal}

infixl 20 ◌then◌
-- What a test says of an input: that it passes, or why it fails.
abbrev pub Verdict : Type 0
Verdict = Result (Unit {0}) Refusal

-- An input passes: no test has refused it.
abbrev pub Passes : Verdict → Type 0
Passes verdict = verdict ≡ Ok tt

-- "Where several apply, the first in its entry's order is given."
abbrev pub ◌then◌ : {A : Type 0} → Verdict → Result A Refusal → Result A Refusal
(Ok _) then next = next
(Err refusal) then next = Err refusal

-- What is refused, and at which place: a verdict but for its slack.
unfoldable pub bare : Verdict → Verdict
bare (Ok _) = Ok tt
bare (Err refusal) = Err (record { reason = refusal.reason; place = place_of refusal; slack = pos 0 })

-- Refused where the test holds, with a slack.
unfoldable pub fails_by : Reason → ℕ → ℤ → Bool → Verdict
fails_by reason place slack test = cond test (Err (record { reason = reason; place = place; slack = slack })) (Ok tt)

-- "all other refusals carry 0".
abbrev pub fails_if : Reason → ℕ → Bool → Verdict
fails_if reason place test = fails_by reason place (pos 0) test

-- Refused at the first of n places at which the test holds, with the slack of that place.
unfoldable pub fails_at_by : Reason → (ℕ → ℕ) → (ℕ → ℤ) → ℕ → (ℕ → Bool) → Verdict
fails_at_by reason place slack n test = fails_by reason (place (first n test)) (slack (first n test)) (ltb (first n test) n)

-- The same, with slack 0.
abbrev pub fails_at : Reason → (ℕ → ℕ) → ℕ → (ℕ → Bool) → Verdict
fails_at reason place n test = fails_at_by reason place (λ k. pos 0) n test

-- Refused at what was found, where something was.
abbrev pub fails_found : Reason → (ℕ → ℕ) → Option ℕ → Verdict
fails_found reason place None = Ok tt
fails_found reason place (Some k) = Err (record { reason = reason; place = place k; slack = pos 0 })
