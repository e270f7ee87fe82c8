-- The promises of `pair` and `settle` determine what a caller gets and finds: the values of what is settled determine it. Assumes nothing.
use mathlib.Core.Path.{◌≡◌, sym, ap, ap₂, ◌∙◌}
use mathlib.Core.Bool.{true≢false}
use mathlib.Core.List.{List}
use Prim.Native.Nat.{ℕ}
use lib.IntN.{ℤ}
use Rattle.std.specs.Prelude.{Ok, Err}
use Rattle.layout.specs.Editions.{named}
use Rattle.layout.specs.declared.edition.Edition.{Edition}
use Rattle.matrix.proofs.Determined.{refusal_determined}
use Rattle.sheet.specs.declared.State.{State}
use Rattle.sheet.specs.declared.Unpaired.{Unpaired}
use Rattle.sheet.specs.declared.Unpaired.TheVariants.{Refused, Blocked}
use Rattle.sheet.specs.Settle.{Outcome, settled, Delivery, pair}
use Rattle.sheet.specs.Values.{SettledValues, settled_values}
use Rattle.sheet.proofs.Editions.{named_number}

pub pair_determined : (sheet room : List ℕ) (outcome other : Delivery) → outcome ≡ pair sheet room → other ≡ pair sheet room → outcome ≡ other
pair_determined sheet room outcome other e f = e ∙ sym f

pub settled_values_determine : (a b : Outcome) → settled_values a ≡ settled_values b → a ≡ b
settled_values_determine (Ok s) (Ok t) same =
    let edition = sym (named_number s.edition) ∙ ap (λ (v : SettledValues). named v.values.edition) same ∙ named_number t.edition in
    ap₂ (λ (e : Edition) (m : ℕ). Ok (record { edition = e; row_count = m; side = s.side; total = s.total; state = s.state })) edition (ap (λ (v : SettledValues). v.values.row_count) same)
    ∙ ap₂ (λ (n : ℕ) (z : ℤ). Ok (record { edition = t.edition; row_count = t.row_count; side = n; total = z; state = s.state })) (ap (λ (v : SettledValues). v.values.side) same) (ap (λ (v : SettledValues). v.values.total) same)
    ∙ ap (λ (a : State). Ok (record { edition = t.edition; row_count = t.row_count; side = t.side; total = t.total; state = a })) (ap (λ (v : SettledValues). v.state) same)
settled_values_determine (Ok s) (Err (Refused r)) same = absurd (true≢false (ap (λ (v : SettledValues). v.values.accepted) same))
settled_values_determine (Ok s) (Err (Blocked rows)) same = absurd (true≢false (ap (λ (v : SettledValues). v.values.accepted) same))
settled_values_determine (Err (Refused q)) (Ok t) same = absurd (true≢false (sym (ap (λ (v : SettledValues). v.values.accepted) same)))
settled_values_determine (Err (Refused q)) (Err (Refused r)) same =
    ap (λ (z : Unpaired). Err z)
    (ap Refused
    (refusal_determined q r (ap (λ (v : SettledValues). v.values.number) same) (ap (λ (v : SettledValues). v.values.place) same) (ap (λ (v : SettledValues). v.values.slack) same)))
settled_values_determine (Err (Refused q)) (Err (Blocked rows)) same = absurd (true≢false (sym (ap (λ (v : SettledValues). v.values.shown) same)))
settled_values_determine (Err (Blocked rows)) (Err (Refused r)) same = absurd (true≢false (ap (λ (v : SettledValues). v.values.shown) same))
settled_values_determine (Err (Blocked rows)) (Ok t) same = absurd (true≢false (sym (ap (λ (v : SettledValues). v.values.accepted) same)))
settled_values_determine (Err (Blocked rows)) (Err (Blocked others)) same = ap (λ (z : Unpaired). Err z) (ap Blocked (ap (λ (v : SettledValues). v.values.rows) same))

pub settle_determined : (room : ℕ) (sheet : List ℕ) (answer other : Outcome)
    → settled_values answer ≡ settled_values (settled room sheet) → settled_values other ≡ settled_values (settled room sheet) → answer ≡ other
settle_determined room sheet answer other e f = settled_values_determine answer other (e ∙ sym f)
