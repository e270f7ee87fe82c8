-- `prices_near` answers test 24. Assumes nothing.
use mathlib.Core.Path.{◌∙◌, ap}
use native.Mathlib.Omega.{arith}
use lib.IntN.{ℤ}
use mir.Syntax.{w64}
use Rattle.ints.proofs.Bits.{read_back}
use Rattle.matrix.specs.declared.refusals.Reason.TheVariants.{PriceFar}
use Rattle.matrix.specs.Tests.{prices_in}
use Rattle.matrix.proofs.SmallLimits.{K_small}
use Rattle.repair.proofs.prices_near.Goals as goal

pub prices_in-requires : goal.prices_in-requires
prices_in-requires c =
    let b = c.near_bound in
    let p = c.requires in
    (rw (read_back w64 b.result b.type_inv, b.ensures) (omega (arith, K_small)), p.0, p.0, p.1, p.2)

pub returns : goal.returns
returns c =
    let b = c.near_bound in
    let u = c.args in
    c.prices_in.ensures ∙ ap (λ (z : ℤ). prices_in PriceFar z u.n u.n u.us.now u.vs.now) (read_back w64 b.result b.type_inv ∙ b.ensures)
