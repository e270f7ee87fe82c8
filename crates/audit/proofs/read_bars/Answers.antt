-- `read_bars` reads what the definition says, where the edition has bars. Assumes nothing.
use Rattle.std.proofs.Common.{◌≡◌, ℕ, List, ◌*◌, Bool, true, cond, refl, sym, ap, ◌∙◌, length}
use denote.Enum.Bare.{sameb}
use lib.ListN.{replicate, length-replicate}
use Rattle.layout.specs.Editions.{number}
use Rattle.layout.specs.Sheets.{bars_at}
use Rattle.layout.specs.Values.{value_of}
use Rattle.layout.specs.contracts.edition.Edition.{the_type}
use Rattle.layout.specs.declared.edition.Edition.{Edition}
use Rattle.layout.specs.declared.edition.Edition.TheVariants.{Square, Barred, Oblong}
use Rattle.layout.proofs.Fields.{length_fields}
use Rattle.sheet.specs.Reading.{has_bars}
use Rattle.audit.proofs.Checking.{read_whole}
use Rattle.audit.proofs.read_bars.Goals as goal

barred : (edition : Edition) → sameb the_type edition Barred ≡ true → has_bars (number edition) ≡ true
barred Square e = e
barred Barred e = refl
barred Oblong e = e

pub returns-then-eq : goal.returns-then-eq
returns-then-eq c =
    let u = c.args in
    let n = u.shape.side in
    let sheet = u.sheet.now in
    c.read_fields.ensures
    ∙ read_whole n (bars_at n sheet) u.bars.now (length_fields value_of _ 8 n sheet) (ap length c.requires.1 ∙ length-replicate {A = ℕ} n 0)
    ∙ sym (ap (λ (b : Bool). cond b (bars_at n sheet) (replicate n 0)) (barred u.shape.edition (sym c.eq.ensures ∙ c.if-eq.true)))
