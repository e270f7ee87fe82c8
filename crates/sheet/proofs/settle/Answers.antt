-- `settle` answers what is settled of a sheet: a refusal of the tests, or what comes of its night. Assumes nothing.
use mathlib.Core.Path.{sym, ap, ap₂, ◌∙◌}
use Prim.Native.Nat.{◌*◌}
use native.Mathlib.Omega.{arith}
use lib.IntN.{ℤ}
use mir.Syntax.{w64}
use Rattle.std.specs.Prelude.{Ok}
use Rattle.std.proofs.lemmas.Result.{err_from_is_err_and}
use Rattle.ints.proofs.Bits.{read_back}
use Rattle.layout.specs.Editions.{number}
use Rattle.layout.specs.declared.edition.Edition.{Edition}
use Rattle.sheet.specs.declared.State.{State}
use Rattle.sheet.specs.Reading.{distance_due}
use Rattle.sheet.specs.Steps.{read_into, bars_into, settled_in}
use Rattle.sheet.specs.Values.{settled_values}
use Rattle.sheet.proofs.Editions.{named_number}
use Rattle.sheet.proofs.Solver.{fails_settles, shape_inside, shape_settles}
use Rattle.sheet.proofs.settle.Goals as goal

pub returns-in_err-shape : goal.returns-in_err-shape
returns-in_err-shape c =
    let p = err_from_is_err_and c.from_residual.result c.from_residual.ensures.1 in
    rw (p.1, p.2) (ap settled_values (fails_settles c.args.room c.args.sheet.now c.in_err-shape.ensures))

pub read-requires : goal.read-requires
read-requires c = shape_inside c.args.room c.args.sheet.now c.in_ok-shape.shape c.in_ok-shape.ensures.0 c.in_ok-shape.ensures.1

pub returns-in_err-total : goal.returns-in_err-total
returns-in_err-total c =
    let p = err_from_is_err_and c.from_residual-in_err-total.result c.from_residual-in_err-total.ensures.1 in
    let u = c.args in
    let s = c.in_ok-shape.shape in
    let e = number s.edition in
    rw (p.1, p.2)
    (ap settled_values (c.in_err-total.ensures ∙ ap (settled_in e s.row_count s.side) (c.read.ensures
    ∙ ap (λ (a : State). bars_into e s.side u.sheet.now (read_into (distance_due e s.row_count s.side) (s.row_count * s.side) u.sheet.now a)) c.fresh-state.ensures)
    ∙ shape_settles u.room u.sheet.now s c.in_ok-shape.ensures.0 c.in_ok-shape.ensures.1))

pub returns : goal.returns
returns c =
    let u = c.args in
    let s = c.in_ok-shape.shape in
    let e = number s.edition in
    ap settled_values
    (ap₂ (λ (d : Edition) (z : ℤ). Ok (record { edition = d; row_count = s.row_count; side = s.side; total = z; state = c.pair.new.self })) (sym (named_number s.edition)) (read_back w64 c.in_ok-total.total (omega arith))
    ∙ c.in_ok-total.ensures ∙ ap (settled_in e s.row_count s.side) (c.read.ensures
    ∙ ap (λ (a : State). bars_into e s.side u.sheet.now (read_into (distance_due e s.row_count s.side) (s.row_count * s.side) u.sheet.now a)) c.fresh-state.ensures)
    ∙ shape_settles u.room u.sheet.now s c.in_ok-shape.ensures.0 c.in_ok-shape.ensures.1)
