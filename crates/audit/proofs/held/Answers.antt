-- `held` answers what its definition says: the rooms hold what the slip says, and the tests decide. Assumes nothing.
use Rattle.std.proofs.Common.{rules, ◌≡◌, ℕ, List, ◌+◌, ◌*◌, ◌≤◌, sym, ap, ap₂, subst, ◌∙◌, length, arith}
use Rattle.std.specs.Prelude.{Ok, Err}
use native.Mathlib.Nat.{le_trans}
use lib.IntN.{ℤ}
use lib.Seq.{sets}
use mir.Syntax.{w64}
use Rattle.ints.proofs.Bits.{read_back}
use Rattle.bars.specs.Barred.{night_of}
use Rattle.assignment.specs.Pairings.{total}
use Rattle.layout.specs.Slips.{slip_columns, slip_row_prices, slip_column_prices}
use Rattle.matrix.specs.Asked.{ColumnsListed}
use Rattle.matrix.specs.Cost.{total_of}
use Rattle.matrix.specs.Limits.{side}
use Rattle.matrix.specs.Verdicts.{Verdict, Passes}
use Rattle.matrix.proofs.SmallLimits.{sheet_side_small, sheet_side_within}
use Rattle.audit.specs.Audit.{proof_tests, slip_tests}
use Rattle.audit.proofs.Checking.{said_size, columns_read, row_prices_read, column_prices_read, slip_least, slip_least_total, refused_slip, accepted_slip}
use Rattle.audit.proofs.held.Goals as goal

-- the columns that the room holds
cols_are : (m n : ℕ) (costs : List ℤ) (bars slip cols₀ cols : List ℕ) → length cols₀ ≡ m → cols ≡ sets cols₀ 0 (slip_columns m slip) → cols ≡ slip_columns m slip
cols_are m n costs bars slip cols₀ cols a e = e ∙ columns_read m n costs bars slip cols₀ a

-- what the tests say of what the rooms hold
module _ (m n : ℕ) (costs : List ℤ) (bars slip : List ℕ) (cols₀ cols : List ℕ) (us₀ us vs₀ vs : List ℤ) (verdict : Verdict)
    (a : length cols₀ ≡ m) (b : length us₀ ≡ m) (d : length vs₀ ≡ n)
    (e : cols ≡ sets cols₀ 0 (slip_columns m slip)) (f : us ≡ sets us₀ 0 (slip_row_prices m slip)) (g : vs ≡ sets vs₀ 0 (slip_column_prices m n slip))
    (said : verdict ≡ proof_tests m n costs bars cols us vs) where
  tested : verdict ≡ slip_tests m n costs bars slip
  tested =
      said
      ∙ ap (λ (l : List ℕ). proof_tests m n costs bars l us vs) (cols_are m n costs bars slip cols₀ cols a e)
      ∙ ap₂ (λ (u v : List ℤ). proof_tests m n costs bars (slip_columns m slip) u v) (f ∙ row_prices_read m n costs bars slip us₀ b) (g ∙ column_prices_read m n costs bars slip vs₀ d)

  -- a slip that passes has a column below n for each row
  listed : Passes verdict → ColumnsListed m n cols
  listed p =
      let least = (slip_least m n costs bars slip (sym tested ∙ p)).pairing in
      subst (ColumnsListed m n) (sym (cols_are m n costs bars slip cols₀ cols a e)) (record { listed = omega (arith, said_size m n costs bars slip); inside = least.inside })

pub returns-in_err-proof_tests : goal.returns-in_err-proof_tests
returns-in_err-proof_tests c =
    let u = c.args in
    let r = c.requires.1 in
    let t = tested u.m u.n u.costs.now u.bars.now u.slip.now u.cols.now _ u.us.now _ u.vs.now _ _ r.cols_size r.us_size r.vs_size c.read_fields.ensures c.read_fields-2.ensures c.read_fields-3.ensures c.proof_tests.ensures in
    let e : c.from_residual.result ≡ Err c.in_err-proof_tests.field-0.0 = search rules in
    e ∙ refused_slip u.m u.n u.costs.now u.bars.now u.slip.now (sym t ∙ c.in_err-proof_tests.was)

pub total_of-total-requires : goal.total_of-total-requires
total_of-total-requires c =
    let u = c.args in
    let p = c.requires.0 in
    let r = c.requires.1 in
    let within : u.n ≤ side = le_trans p.small sheet_side_within in
    let l = listed u.m u.n u.costs.now u.bars.now u.slip.now u.cols.now _ u.us.now _ u.vs.now _ _ r.cols_size r.us_size r.vs_size c.read_fields.ensures c.read_fields-2.ensures c.read_fields-3.ensures c.proof_tests.ensures in
    (le_trans p.fewer within, within, omega (arith, p.filled), l c.in_ok-proof_tests.was)

pub compared-requires : goal.compared-requires
compared-requires c =
    let u = c.args in
    let p = c.requires.0 in
    let r = c.requires.1 in
    let h = read_back w64 c.total_of-total.result c.total_of-total.type_inv ∙ c.total_of-total.ensures in
    let t = tested u.m u.n u.costs.now u.bars.now u.slip.now u.cols.now _ u.us.now _ u.vs.now _ _ r.cols_size r.us_size r.vs_size c.read_fields.ensures c.read_fields-2.ensures c.read_fields-3.ensures c.proof_tests.ensures in
    let e = cols_are u.m u.n u.costs.now u.bars.now u.slip.now u.cols.now _ r.cols_size c.read_fields.ensures in (
      slip_least_total u.m u.n u.costs.now u.bars.now u.slip.now (sym t ∙ c.in_ok-proof_tests.was) _ (h ∙ ap (total_of u.n u.costs.now u.m) e),
      p.fewer,
      omega (arith, p.small, sheet_side_small),
      p.filled,
      r.list_size,
      ap length e ∙ said_size u.m u.n u.costs.now u.bars.now u.slip.now,
      c.requires.2,
    )

pub returns : goal.returns
returns c =
    let u = c.args in
    let r = c.requires.1 in
    let h = read_back w64 c.total_of-total.result c.total_of-total.type_inv ∙ c.total_of-total.ensures in
    let t = tested u.m u.n u.costs.now u.bars.now u.slip.now u.cols.now _ u.us.now _ u.vs.now _ _ r.cols_size r.us_size r.vs_size c.read_fields.ensures c.read_fields-2.ensures c.read_fields-3.ensures c.proof_tests.ensures in
    let e = cols_are u.m u.n u.costs.now u.bars.now u.slip.now u.cols.now _ r.cols_size c.read_fields.ensures in
    accepted_slip u.m u.n u.costs.now u.bars.now u.slip.now (sym t ∙ c.in_ok-proof_tests.was) _ (h ∙ ap (total_of u.n u.costs.now u.m) e) c.compared.result c.compared.ensures
