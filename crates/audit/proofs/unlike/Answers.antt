-- `unlike` answers what its definition says, one test after another. Assumes nothing.
use Rattle.std.proofs.Common.{◌≡◌, ℕ, List, ◌+◌, ◌-◌, sym, ap, refl, ◌∙◌, arith, Bool, true, false, length, eqb, not}
use mathlib.Core.Bool.{◌&&◌}
use borrow.Author.Tests.{ne_eqb}
use Rattle.layout.specs.Editions.{number}
use Rattle.layout.specs.Values.{value_of}
use Rattle.layout.specs.Trailers.{slip_mark, has_row_count, row_count_of, unmarked}
use Rattle.layout.specs.Slips.{slip_distance, slip_length}
use Rattle.layout.specs.declared.edition.Edition.{Edition}
use Rattle.layout.specs.declared.edition.Edition.TheVariants.{Square, Barred, Oblong}
use Rattle.audit.proofs.Form.{unlike_long, unlike_mark, unlike_distance, unlike_side, unlike_edition, unlike_rows}
use Rattle.audit.proofs.unlike.Goals as goal

due : (edition m n result : ℕ) → result ≡ slip_length edition m n → result - 12 ≡ slip_distance edition m n
due edition m n result e = omega (arith, e)

whole : (edition m n result size : ℕ) → result ≡ slip_length edition m n → size ≡ result - 12 + 12 → size ≡ slip_length edition m n
whole edition m n result size e f = omega (arith, e, f)

marked : (slip : List ℕ) (b : Bool) → b ≡ unmarked 1346980947 slip → b ≡ unmarked (value_of slip_mark) slip
unfolding value_of
marked slip b e = e

uncounted : (edition : Edition) → (edition ≡ Oblong → ⊥) → has_row_count (number edition) ≡ false
uncounted Square h = refl
uncounted Barred h = refl
uncounted Oblong h = absurd (h refl)

pub returns-then-slip-distance : goal.returns-then-slip-distance
returns-then-slip-distance c =
    let s = c.args.shape in
    let d = c.slip_length-distance in
    unlike_long (number s.edition) s.row_count s.side c.args.slip.now (λ e. c.if-slip-distance.true (omega (arith, e, d.ensures)))

pub returns-then-unmarked : goal.returns-then-unmarked
returns-then-unmarked c =
    let s = c.args.shape in
    let d = c.slip_length-distance in
    let slip = c.args.slip.now in
    unlike_mark (number s.edition) s.row_count s.side slip (whole (number s.edition) s.row_count s.side d.result (length slip) d.ensures c.if-slip-distance.false)
    (sym (marked slip c.unmarked.result c.unmarked.ensures) ∙ c.if-unmarked.true)

pub returns-then-distance_of-distance : goal.returns-then-distance_of-distance
returns-then-distance_of-distance c =
    let s = c.args.shape in
    let d = c.slip_length-distance in
    let slip = c.args.slip.now in
    unlike_distance (number s.edition) s.row_count s.side slip (whole (number s.edition) s.row_count s.side d.result (length slip) d.ensures c.if-slip-distance.false)
    (sym (marked slip c.unmarked.result c.unmarked.ensures) ∙ c.if-unmarked.false)
    (λ e. c.if-distance_of-distance.true (c.distance_of.ensures.0 ∙ e ∙ sym (due (number s.edition) s.row_count s.side d.result d.ensures)))

pub returns-then-side_of-shape : goal.returns-then-side_of-shape
returns-then-side_of-shape c =
    let s = c.args.shape in
    let d = c.slip_length-distance in
    let slip = c.args.slip.now in
    unlike_side (number s.edition) s.row_count s.side slip (whole (number s.edition) s.row_count s.side d.result (length slip) d.ensures c.if-slip-distance.false)
    (sym (marked slip c.unmarked.result c.unmarked.ensures) ∙ c.if-unmarked.false)
    (sym c.distance_of.ensures.0 ∙ c.if-distance_of-distance.false ∙ due (number s.edition) s.row_count s.side d.result d.ensures)
    (λ e. c.if-side_of-shape.true (c.side_of.ensures.0 ∙ e))

pub returns-then-edition_of-number : goal.returns-then-edition_of-number
returns-then-edition_of-number c =
    let s = c.args.shape in
    let d = c.slip_length-distance in
    let slip = c.args.slip.now in
    unlike_edition (number s.edition) s.row_count s.side slip (whole (number s.edition) s.row_count s.side d.result (length slip) d.ensures c.if-slip-distance.false)
    (sym (marked slip c.unmarked.result c.unmarked.ensures) ∙ c.if-unmarked.false)
    (sym c.distance_of.ensures.0 ∙ c.if-distance_of-distance.false ∙ due (number s.edition) s.row_count s.side d.result d.ensures)
    (sym c.side_of.ensures.0 ∙ c.if-side_of-shape.false)
    (λ e. c.if-edition_of-number.true (c.edition_of.ensures ∙ e ∙ sym c.number.ensures))

pub returns-in-Oblong : goal.returns-in-Oblong
returns-in-Oblong c =
    let s = c.args.shape in
    let d = c.slip_length-distance in
    let slip = c.args.slip.now in
    unlike_rows (number s.edition) s.row_count s.side slip (whole (number s.edition) s.row_count s.side d.result (length slip) d.ensures c.if-slip-distance.false)
    (sym (marked slip c.unmarked.result c.unmarked.ensures) ∙ c.if-unmarked.false)
    (sym c.distance_of.ensures.0 ∙ c.if-distance_of-distance.false ∙ due (number s.edition) s.row_count s.side d.result d.ensures)
    (sym c.side_of.ensures.0 ∙ c.if-side_of-shape.false)
    (sym c.edition_of.ensures ∙ c.if-edition_of-number.false ∙ c.number.ensures)
    _ (ap (λ (k : ℕ). not (eqb k s.row_count)) c.row_count_of.ensures.0
    ∙ sym (ap (λ (e : Edition). has_row_count (number e) && not (eqb (row_count_of slip) s.row_count)) c.in-Oblong.is))

pub returns-in_default : goal.returns-in_default
returns-in_default c =
    let s = c.args.shape in
    let d = c.slip_length-distance in
    let slip = c.args.slip.now in
    unlike_rows (number s.edition) s.row_count s.side slip (whole (number s.edition) s.row_count s.side d.result (length slip) d.ensures c.if-slip-distance.false)
    (sym (marked slip c.unmarked.result c.unmarked.ensures) ∙ c.if-unmarked.false)
    (sym c.distance_of.ensures.0 ∙ c.if-distance_of-distance.false ∙ due (number s.edition) s.row_count s.side d.result d.ensures)
    (sym c.side_of.ensures.0 ∙ c.if-side_of-shape.false)
    (sym c.edition_of.ensures ∙ c.if-edition_of-number.false ∙ c.number.ensures)
    _ (sym (ap (λ (b : Bool). b && not (eqb (row_count_of slip) s.row_count)) (uncounted s.edition c.in_default.not-Oblong)))
