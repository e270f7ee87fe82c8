-- What the tests before the costs say of a sheet that passes them. Assumes nothing.
use mathlib.Core.Path.{◌≡◌, refl, sym, ap, ◌∙◌}
use mathlib.Core.Bool.{Bool, true, false, ◌||◌}
use mathlib.Core.List.{List}
use Prim.Native.Nat.{ℕ, ◌+◌, ◌*◌, ◌-◌, ◌≤◌}
use native.Mathlib.Nat.{mul-le-mul}
use native.Mathlib.Omega.{arith}
use borrow.Author.Tests.{ltb-false, eqb-true, not-false}
use lib.Dec.{ltb}
use lib.ListN.{length}
use Rattle.layout.specs.Editions.{number, named}
use Rattle.layout.specs.declared.edition.Edition.{Edition}
use Rattle.layout.specs.Trailers.{distance_of, side_of, edition_of, unmarked}
use Rattle.layout.specs.Slips.{slip_length}
use Rattle.matrix.specs.Limits.{sheet_side}
use Rattle.matrix.specs.Verdicts.{Verdict, Passes, ◌then◌, fails_if}
use Rattle.matrix.specs.declared.refusals.Reason.TheVariants.{RowsOver}
use Rattle.matrix.proofs.SmallLimits.{sheet_side_small}
use Rattle.matrix.proofs.Verdicts.{then_iff, fails_if_iff}
use Rattle.sheet.specs.Reading.{sheet_most, unknown, rows_of, uncut, distance_due, laid_at, laid_of, trailed, rows_fit, pointed, sheet_tests}
use Rattle.sheet.specs.Asked.{Counted}
use Rattle.sheet.proofs.Editions.{number_named}
use Rattle.std.specs.Prelude.{Ok, Err}

-- A sheet that is not refused by 11 has a trailer.
pub has-trailer : (mark : ℕ) (sheet : List ℕ) → unmarked mark sheet ≡ false → 12 ≤ length sheet
has-trailer mark sheet e = ltb-false (length sheet) 12 (left _ _ e)
  where
    left : (a b : Bool) → a || b ≡ false → a ≡ false
    left true b f = f
    left false b f = refl

-- What follows tests that pass is answered.
pub then_gives : (verdict : Verdict) {A : Type 0} {x a : A} → (verdict then Ok x) ≡ Ok a → Passes verdict × (x ≡ a)
then_gives (Ok _) e = (refl, cc e)
then_gives (Err refusal) e = absurd (cc e)

-- 17, 11, 12, 13.
pub trailed_passed : (sheet : List ℕ) → Passes (trailed sheet) → (12 ≤ length sheet) × (side_of sheet ≤ sheet_side) × (length sheet ≤ sheet_most) × (unknown (edition_of sheet) ≡ false)
trailed_passed sheet p =
    let t13 = (then_iff _ _).0 p in
    let t12 = (then_iff _ _).0 t13.0 in
    let t11 = (then_iff _ _).0 t12.0 in (
      has-trailer _ sheet ((fails_if_iff _ _ _).0 t11.1),
      ltb-false sheet_side (side_of sheet) ((fails_if_iff _ _ _).0 t13.1),
      ltb-false sheet_most (length sheet) ((fails_if_iff _ _ _).0 t11.0),
      (fails_if_iff _ _ _).0 t12.1,
    )

-- 23.
pub rows_passed : (sheet : List ℕ) → Passes (trailed sheet then rows_fit sheet) → Counted sheet
rows_passed sheet p =
    let t23 = (then_iff _ _).0 p in
    let ends = trailed_passed sheet t23.0 in
    let counts = (then_iff _ _).0 t23.1 in
    record {
      ended = record { long = ends.0; counted = (fails_if_iff _ _ _).0 counts.0 };
      small = ends.1;
      fewer = ltb-false (side_of sheet) (rows_of sheet) ((fails_if_iff _ _ _).0 counts.1);
    }

-- 14, 15.
pub pointed_passed : (sheet : List ℕ) → 12 ≤ length sheet → Passes (pointed sheet)
    → (distance_of sheet ≡ distance_due (edition_of sheet) (rows_of sheet) (side_of sheet)) × (distance_of sheet + 12 ≤ length sheet)
pointed_passed sheet long p =
    let t15 = (then_iff _ _).0 p in (
      eqb-true _ _ (not-false _ ((fails_if_iff _ _ _).0 t15.0)),
      omega (arith, ltb-false (length sheet - 12) (distance_of sheet) ((fails_if_iff _ _ _).0 t15.1)),
    )

module _ (room : ℕ) (sheet : List ℕ) where
  abbrev m : ℕ
  m = rows_of sheet

  abbrev n : ℕ
  n = side_of sheet

  pub record SheetPassed : Type 0 where
    pub known : unknown (edition_of sheet) ≡ false
    pub counted : Counted sheet
    pub distance : distance_of sheet ≡ distance_due (edition_of sheet) m n
    pub inside : distance_due (edition_of sheet) m n + 12 ≤ length sheet
    pub roomy : slip_length (edition_of sheet) m n ≤ room

  pub tests_passed : Passes (sheet_tests room sheet) → SheetPassed
  unfolding sheet_tests
  tests_passed p =
      let t16 = (then_iff _ _).0 p in
      let t21 = (then_iff _ _).0 t16.0 in
      let t15 = (then_iff _ _).0 t21.0 in
      let counts = rows_passed sheet t15.0 in
      let points = pointed_passed sheet counts.ended.long t15.1 in
      record {
        known = (trailed_passed sheet ((then_iff _ _).0 t15.0).0).3;
        counted = counts;
        distance = points.0;
        inside = omega (arith, points.0, points.1);
        roomy = ltb-false room (slip_length (edition_of sheet) m n) ((fails_if_iff _ _ _).0 t16.1);
      }

  -- The night lies where edition, rows and side say.
  pub laid_found : SheetPassed → laid_of sheet ≡ laid_at (edition_of sheet) m n (distance_due (edition_of sheet) m n) sheet
  laid_found p = ap (λ (d : ℕ). laid_at (edition_of sheet) m n d sheet) p.distance

-- ---- the shape of a sheet, as code finds it

-- What is found where its tests pass.
pub record Found (sheet : List ℕ) (edition : Edition) (m n : ℕ) : Type 0 where
  pub passes : Passes (trailed sheet then rows_fit sheet)
  pub long : 12 ≤ length sheet
  pub known : number edition ≡ edition_of sheet
  pub rows : m ≡ rows_of sheet
  pub side : n ≡ side_of sheet
  pub fewer : m ≤ n
  pub small : n ≤ 64
  pub few : m * n ≤ 4096

-- A trailer whose tests pass.
pub trailer_found : (sheet : List ℕ) {edition : Edition} → (trailed sheet then Ok (named (edition_of sheet))) ≡ Ok edition → (12 ≤ length sheet) × (number edition ≡ edition_of sheet)
trailer_found sheet e =
    let t = then_gives (trailed sheet) e in
    let p = trailed_passed sheet t.0 in
    (p.0, ap number (sym t.1) ∙ number_named (edition_of sheet) p.3)

pub shape_found : (sheet : List ℕ) {edition : Edition} {m n : ℕ} → (trailed sheet then Ok (named (edition_of sheet))) ≡ Ok edition → (uncut sheet then Ok (rows_of sheet)) ≡ Ok m → n ≡ side_of sheet
    → fails_if RowsOver m (ltb n m) ≡ Ok (tt {0}) → Found sheet edition m n
shape_found sheet {edition} {m} {n} e f g h =
    let t = then_gives (trailed sheet) e in
    let u = then_gives (uncut sheet) f in
    let p = trailed_passed sheet t.0 in
    let last : Passes (fails_if RowsOver (rows_of sheet) (ltb (side_of sheet) (rows_of sheet))) = rw (u.1, sym g) h in
    let fewer : m ≤ n = ltb-false n m ((fails_if_iff RowsOver m _).0 h) in
    let small : n ≤ 64 = omega (arith, p.1, sheet_side_small) in
    let few : m ≤ 64 = omega arith in
    record {
      passes = (then_iff _ _).1 (t.0, (then_iff _ _).1 (u.0, last));
      long = p.0;
      known = (trailer_found sheet e).1;
      rows = sym u.1;
      side = g;
      fewer = fewer;
      small = small;
      few = mul-le-mul few small;
    }
