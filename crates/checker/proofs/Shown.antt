-- For any night: what prices show to be least is least; prices that show one pairing show exactly the least ones; and a checker whose pass
-- shows it refuses what is not least. Assumes nothing.
use mathlib.Core.Path.{◌≡◌, refl, sym}
use mathlib.Core.Logic.{◌↔◌}
use mathlib.Core.List.{List}
use Prim.Native.Nat.{ℕ}
use lib.IntN.{ℤ}
use lib.ListN.{take}
use Rattle.assignment.specs.Pairings.{Night, Pairing, Least}
use Rattle.assignment.proofs.Duality.{prices_least, least_iff}
use Rattle.assignment.proofs.Longer.{tight_first, spares_first}
use Rattle.matrix.specs.Verdicts.{Passes}
use Rattle.matrix.specs.Answers.{totalled}
use Rattle.matrix.specs.declared.refusals.Refusal.{Refusal}
use Rattle.matrix.specs.Verdicts.{Verdict}
use Rattle.std.specs.Prelude.{Ok, Err}
use Rattle.matrix.proofs.Verdicts.{totalled_iff, fails_totalled}
use Rattle.checker.specs.Proven.{Accepts, Shown}

module _ (night : Night) (us vs : List ℤ) where
  pub shown_least : (cols : List ℕ) → Shown night cols us vs → Least night (take night.row_count cols)
  shown_least cols s =
      prices_least night us vs s.feasible (take night.row_count cols) s.pairing ((tight_first night cols us vs).1 s.tight)
      ((spares_first night cols vs).1 s.spares)

  -- With prices that show one pairing held fixed: another is shown exactly if it is least.
  pub shown_iff_least : (cols : List ℕ) → Shown night cols us vs → (other : List ℕ) → Pairing night (take night.row_count other)
      → Shown night other us vs ↔ Least night (take night.row_count other)
  shown_iff_least cols s other p = (
    shown_least other,
    λ least.
        let h = (least_iff night us vs s.feasible (take night.row_count cols) s.pairing ((tight_first night cols us vs).1 s.tight) ((spares_first night cols vs).1 s.spares) (take night.row_count other) p).0 least in
        record { pairing = p; feasible = s.feasible; tight = (tight_first night other us vs).0 h.0; spares = (spares_first night other vs).0 h.1 },
  )

  -- What is not least fails, in any hall of tests whose pass shows a pairing.
  pub not_least_fails : (cols : List ℕ) (verdict : Verdict) → (Passes verdict → Shown night cols us vs) → ¬ Least night (take night.row_count cols)
      → (refusal : Refusal) × (verdict ≡ Err refusal)
  not_least_fails cols (Ok _) shows not_least = absurd (not_least (shown_least cols (shows refl)))
  not_least_fails cols (Err refusal) shows not_least = (refusal, refl)

  -- ---- a checker: an answer that gives a total where a hall of tests is passed, and its refusal where not

  module _ (cols : List ℕ) (verdict : Verdict) (total : ℤ) where
    -- A pass shows the pairing: what is accepted is least, and what is not least is refused.
    pub answer-least : (Passes verdict → Shown night cols us vs) → {t : ℤ} → totalled verdict total ≡ Ok t → Least night (take night.row_count cols)
    answer-least shows accepted = shown_least cols (shows ((totalled_iff verdict total).0 accepted).0)

    pub answer-refused : (Passes verdict → Shown night cols us vs) → ¬ Least night (take night.row_count cols) → (refusal : Refusal) × (totalled verdict total ≡ Err refusal)
    answer-refused shows not_least =
        let r = not_least_fails cols verdict shows not_least in
        (r.0, sym (fails_totalled total r.1))

    -- Where it is passed exactly if the pairing is shown, with prices that show some pairing: accepted is least.
    pub answer_iff_least : (some : List ℕ) → Shown night some us vs → Pairing night (take night.row_count cols) → (Passes verdict ↔ Shown night cols us vs)
        → Accepts (totalled verdict total) ↔ Least night (take night.row_count cols)
    answer_iff_least some s p passes =
        let i = shown_iff_least some s cols p in (
          λ a. i.0 (passes.0 ((totalled_iff verdict total).0 a.1).0),
          λ least. (total, (totalled_iff verdict total).1 (passes.1 (i.1 least), refl)),
        )
