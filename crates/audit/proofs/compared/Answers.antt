-- `compared` answers what its definition says. Assumes nothing.
use Rattle.std.proofs.Common.{rules, ◌≡◌, ℕ, ℤ, ◌<◌, ◌^◌, sym, ap, ap₂, ◌∙◌}
use Rattle.std.specs.Prelude.{Err}
use lib.Dec.{eqb}
use lib.Signed.{mag}
use mathlib.Core.Bool.{not}
use mir.Syntax.{w64}
use mir.Val.{SFits, to_z, of_z}
use mir.Facts.{to_z-of_z}
use Rattle.ints.proofs.Bits.{read_back}
use Rattle.layout.specs.Slips.{slip_total}
use Rattle.matrix.specs.declared.refusals.Reason.TheVariants.{SlipWrong}
use Rattle.matrix.specs.Verdicts.{Verdict, fails_if}
use Rattle.checker.specs.Tests.{differ}
use Rattle.audit.proofs.Slips.{apart_bits, audited_fails, audited_passes}
use Rattle.audit.proofs.compared.Goals as goal

-- what the total's test says, of the total said, the least, and the total as the code holds it
told : (verdict : Verdict) (said least total said-is : ℤ) → mag said < 2 ^ 63 → mag least < 2 ^ 63 → SFits w64 total → said ≡ said-is → least ≡ to_z w64 (of_z w64 total)
    → verdict ≡ fails_if SlipWrong 0 (not (eqb (of_z w64 said) (of_z w64 least))) → verdict ≡ fails_if SlipWrong 0 (differ said-is total)
told verdict said least total said-is a b f e g h =
    h ∙ ap (fails_if SlipWrong 0) (apart_bits said least a b ∙ ap₂ differ e (g ∙ to_z-of_z f))

pub returns-in_err-fails_if : goal.returns-in_err-fails_if
returns-in_err-fails_if c =
    let u = c.args in
    let t = c.total_of-said in
    let s = c.second-least in
    let v = told c.fails_if.result t.result s.result u.total (slip_total u.m u.n u.slip.now) t.type_inv s.type_inv c.ranges.total t.ensures s.ensures c.fails_if.ensures in
    let e : c.from_residual.result ≡ Err c.in_err-fails_if.field-0.0 = search rules in
    e ∙ audited_fails u.m u.n u.slip.now (sym v ∙ c.in_err-fails_if.was)

pub returns : goal.returns
returns c =
    let u = c.args in
    let t = c.total_of-said in
    let s = c.second-least in
    let v = told c.fails_if.result t.result s.result u.total (slip_total u.m u.n u.slip.now) t.type_inv s.type_inv c.ranges.total t.ensures s.ensures c.fails_if.ensures in
    audited_passes u.m u.n u.slip.now (sym v ∙ c.in_ok-fails_if.was) (read_back w64 t.result t.type_inv ∙ t.ensures)
