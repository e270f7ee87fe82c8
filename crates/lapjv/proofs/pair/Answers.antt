-- `pair` leaves the answer of the run: each stage on what the one before it left, then prices, total and cleared rooms. Assumes nothing.
use mathlib.Core.Path.{◌∙◌}
use native.Mathlib.Omega.{arith}
use mir.Syntax.{w64}
use Rattle.ints.proofs.Bits.{read_back}
use Rattle.lapjv.proofs.Pairing as pairing
use Rattle.lapjv.proofs.pair.Goals as goal

pub ca_dense-columns_scanned-requires : goal.ca_dense-columns_scanned-requires
ca_dense-columns_scanned-requires c =
    let a = c.reduce-reduced in
    pairing.can_augment c.args.n c.args.costs.now c.requires.0 _ _ _ _ a.result a.ensures a.new.numbers (omega (arith, a.auto, c.requires.3))

pub write_row_prices-requires : goal.write_row_prices-requires
write_row_prices-requires c =
    let a = c.reduce-reduced in
    let b = c.ca_dense-columns_scanned in
    pairing.can_price c.args.n c.args.costs.now c.requires.0 _ _ _ _ a.result a.ensures _ _ _ _ b.result b.ensures
    c.args.row_prices.now c.requires.2

pub total-total-requires : goal.total-total-requires
total-total-requires c =
    let a = c.reduce-reduced in
    let b = c.ca_dense-columns_scanned in
    pairing.can_total c.args.n c.args.costs.now c.requires.0 _ _ _ _ a.result a.ensures _ _ _ _ b.result b.ensures

pub returns : goal.returns
returns c =
    let a = c.reduce-reduced in
    let b = c.ca_dense-columns_scanned in
    let t = c.total-total in
    pairing.paired_by c.args.n c.args.costs.now c.requires.0 _ _ _ _ a.result a.ensures _ _ _ b.new.room b.result b.ensures
    _ _ b.new.d _ _ c.write_row_prices.ensures (read_back w64 t.result t.type_inv ∙ t.ensures) (c.fill.ensures.after (λ y h. h))
    (omega (arith, b.auto, a.ensures.room_size)) (c.fill-2.ensures.after (λ y h. h)) (omega (arith, b.auto, a.auto, c.requires.3))
