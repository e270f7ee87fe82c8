-- From what an entry about a second pairing answers to what a C caller gets and finds. Assumes nothing.
use mathlib.Core.Path.{◌≡◌, refl, sym, ap, ap₂, ◌∙◌, subst}
use Prim.Native.Nat.{ℕ, ◌<◌}
use lib.IntN.{pos}
use Rattle.matrix.specs.Asked.{Tellable}
use Rattle.matrix.specs.Refusals.{slack_of}
use Rattle.matrix.specs.declared.refusals.Refusal.{Refusal}
use Rattle.matrix.proofs.Codes.{capped_same}
use Rattle.swaps.specs.Entries.{Lent, Outcome, outcome_of, second_values, Found, told_of}
use Rattle.swaps.specs.declared.Pairings.{Pairings}
use Rattle.std.specs.Prelude.{Result, Ok, Err}
use Rattle.swaps.proofs.Determined.{second_values_determine}
use Rattle.face.specs.declared.Second.{Second}
use Rattle.face.specs.Seconds.{seconded, seconded_any, HandedSecond, handed_second, handed_second_any}

-- Where every place is far below 2^48, it is told as it is.
told_plain : (answer : Result Pairings Refusal) → ((refusal : Refusal) → answer ≡ Err refusal → Tellable refusal) → seconded_any (second_values answer) ≡ seconded (second_values answer)
told_plain (Ok pairings) h = refl
told_plain (Err q) h =
    ap (λ (code : ℕ). let s : Second = record { refusal = code; total = pos 0; slack = slack_of q; also = 0 } in s) (capped_same q (h q refl))

-- An answer and lists that are those of an outcome.
module _ (o : Outcome) (answer : Result Pairings Refusal) (lent : Lent) (e : told_of (outcome_of answer lent) ≡ told_of o) where
  module _ (s : Second) (d : s ≡ seconded_any (second_values answer)) where
    pub second_handed_any : ◌≡◌ {A = HandedSecond} (record { second = s; lent = lent }) (handed_second_any o)
    second_handed_any =
        ap₂ (λ (s : Second) (l : Lent). let h : HandedSecond = record { second = s; lent = l } in h)
        (d ∙ ap (λ (f : Found). seconded_any f.values) e) (ap (λ (f : Found). f.lent) e)

    pub second_handed : ((refusal : Refusal) → o.answer ≡ Err refusal → Tellable refusal) → ◌≡◌ {A = HandedSecond} (record { second = s; lent = lent }) (handed_second o)
    second_handed h =
        second_handed_any ∙ ap (λ (s : Second). let h : HandedSecond = record { second = s; lent = o.lent } in h) (told_plain o.answer h)
