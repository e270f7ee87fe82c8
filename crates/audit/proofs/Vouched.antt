-- What the auditor's tool accepts: a slip whose pairing is least and whose total is its total; a slip with another total is refused. Assumes nothing.
use mathlib.Core.Path.{◌≡◌, refl, sym, ap, ◌∙◌, subst}
use mathlib.Core.List.{List}
use Prim.Native.Nat.{ℕ}
use native.Mathlib.Omega.{arith}
use lib.IntN.{ℤ, pos}
use Rattle.ints.proofs.Ranges.{zarith}
use Rattle.layout.specs.Slips.{slip_length, slip_columns, slip_total}
use Rattle.assignment.specs.Pairings.{Night, Least, total}
use Rattle.bars.specs.Barred.{night_of}
use Rattle.matrix.specs.Limits.{sheet_side}
use Rattle.matrix.specs.Verdicts.{Passes}
use Rattle.matrix.specs.declared.refusals.Refusal.{Refusal}
use Rattle.matrix.specs.Verdicts.{Verdict}
use Rattle.std.specs.Prelude.{Ok, Err}
use Rattle.matrix.proofs.Verdicts.{then_iff, fails_if_iff}
use Rattle.checker.proofs.Places.{differ_false}
use Rattle.sheet.specs.Reading.{Laid, Read, refused, night, read}
use Rattle.audit.specs.Audit.{audit_tests, audited_by, audited_as, audit}
use Rattle.audit.specs.Audit.{Audited}
use Rattle.audit.specs.Audit.{holds}
use Rattle.audit.proofs.Checking.{slip_least}

-- A sheet's night.
abbrev pub night_on : Laid → Night
night_on laid = night_of laid.row_count laid.side laid.costs laid.bars

-- How a sheet is read: for a slip room that is long enough for every edition and side.
abbrev pub Reads : List ℕ → Laid → Type 0
Reads sheet laid = read (slip_length 3 sheet_side sheet_side) sheet ≡ night laid

-- What is vouched for: the sheet reads as a night, the slip's columns are a least pairing of it, and the total is what the slip says and what they cost.
pub record Vouched (sheet slip : List ℕ) (n : ℕ) (t : ℤ) : Type 0 where
  pub laid : Laid
  pub reads : Reads sheet laid
  pub side_is : n ≡ laid.side
  pub said : t ≡ slip_total laid.row_count laid.side slip
  pub least : Least (night_on laid) (slip_columns laid.row_count slip)
  pub totals : t ≡ total (night_on laid) (slip_columns laid.row_count slip)

refused_not_holds : {refusal : Refusal} {n : ℕ} {t : ℤ} → Err refusal ≡ holds n t → ⊥
refused_not_holds e = let z : ◌≡◌ {A = ℕ} 0 1 = cc e in omega arith

-- the side and the total that are told
abbrev side_told : Audited → ℕ
side_told (Ok held) = held.side
side_told (Err refusal) = 0

abbrev total_told : Audited → ℤ
total_told (Ok held) = held.total
total_told (Err refusal) = pos 0

tests_right : (laid : Laid) (slip : List ℕ) → Passes (audit_tests laid slip)
    → Least (night_on laid) (slip_columns laid.row_count slip) × (slip_total laid.row_count laid.side slip ≡ total (night_on laid) (slip_columns laid.row_count slip))
unfolding audit_tests
tests_right laid slip e =
    let b = (then_iff _ _).0 e in
    let a = (then_iff _ _).0 b.0 in
    (slip_least laid.row_count laid.side laid.costs laid.bars slip a.1, differ_false _ _ ((fails_if_iff _ _ _).0 b.1))

module _ (sheet slip : List ℕ) where
  pub holds_vouched : (n : ℕ) (t : ℤ) → audit sheet slip ≡ holds n t → Vouched sheet slip n t
  unfolding audit
  holds_vouched n t e = by (read (slip_length 3 sheet_side sheet_side) sheet) refl e
    where
      by_tests : (laid : Laid) → Reads sheet laid → (v : Verdict) → audit_tests laid slip ≡ v → audited_by laid.row_count laid.side slip v ≡ holds n t → Vouched sheet slip n t
      by_tests laid r (Err refusal) f g = absurd (refused_not_holds g)
      by_tests laid r (Ok _) f g =
          let w = tests_right laid slip f in
          let said : slip_total laid.row_count laid.side slip ≡ t = ap total_told g in
          record { laid = laid; reads = r; side_is = sym (ap side_told g); said = sym said; least = w.0; totals = sym said ∙ w.1 }

      by : (x : Read) → read (slip_length 3 sheet_side sheet_side) sheet ≡ x → audited_as slip x ≡ holds n t → Vouched sheet slip n t
      by (refused refusal) r f = absurd (refused_not_holds f)
      by (night laid) r f = by_tests laid r (audit_tests laid slip) refl f

  -- "it accepts ⇒ the slip's total is the least total of the sheet's night".
  pub holds_least : (n : ℕ) (t : ℤ) → audit sheet slip ≡ holds n t → (laid : Laid) → Reads sheet laid → (other : List ℕ) → Least (night_on laid) other
      → t ≡ total (night_on laid) other
  holds_least n t e laid r other o =
      let v = holds_vouched n t e in
      let same : v.laid ≡ laid = cc (sym v.reads ∙ r) in
      let cols = slip_columns laid.row_count slip in
      let l : Least (night_on laid) cols = subst (λ (x : Laid). Least (night_on x) (slip_columns x.row_count slip)) same v.least in
      let s : t ≡ total (night_on laid) cols = subst (λ (x : Laid). t ≡ total (night_on x) (slip_columns x.row_count slip)) same v.totals in
      let a = l.least other o.pairing in
      let b = o.least cols l.pairing in
      let z : total (night_on laid) cols ≡ total (night_on laid) other = omega zarith in
      s ∙ z

  -- "a slip with any other total is refused".
  pub other_total_refused : (laid : Laid) → Reads sheet laid → (other : List ℕ) → Least (night_on laid) other
      → (slip_total laid.row_count laid.side slip ≡ total (night_on laid) other → ⊥) → (refusal : Refusal) × (audit sheet slip ≡ Err refusal)
  other_total_refused laid r other o wrong = by (audit sheet slip) refl
    where
      by : (x : Audited) → audit sheet slip ≡ x → (refusal : Refusal) × (audit sheet slip ≡ Err refusal)
      by (Err refusal) e = (refusal, e)
      by (Ok held) e =
          let n = held.side in
          let t = held.total in
          let v = holds_vouched n t e in
          let same : v.laid ≡ laid = cc (sym v.reads ∙ r) in
          absurd (wrong (subst (λ (x : Laid). slip_total x.row_count x.side slip ≡ t) same (sym v.said) ∙ holds_least n t e laid r other o))
