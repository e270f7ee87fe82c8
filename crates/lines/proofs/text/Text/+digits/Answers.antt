-- `digits` writes the digits of x / 10, where there are any, and then the last. Assumes nothing.
use mathlib.Core.Path.{sym, ap, ◌∙◌}
use mathlib.Core.List.{List, [], ◌∷◌, ◌++◌, append_assoc}
use Prim.Native.Nat.{ℕ, ◌+◌, ◌/◌, ◌%◌}
use native.Mathlib.Omega.{arith}
use Rattle.lines.specs.Decimal.{decimal}
use Rattle.lines.proofs.Decimal.{decimal_more, length_more}
use Rattle.lines.proofs.text.Text.+digits.Goals as goal

pub byte-requires-2 : goal.byte-requires-2
byte-requires-2 t c = omega (arith, length_more c.args.x c.ranges.x.fits c.if-x-lt10.false)

pub returns-clause-text : goal.returns-clause-text
returns-clause-text t c =
    let x = c.args.x in
    let last = (48 + x % 10) ∷ [] in
    c.byte-2.ensures.text ∙ ap (λ (l : List ℕ). l ++ last) c.digits.ensures.text ∙ append_assoc c.args.self.now (decimal (x / 10)) last
    ∙ ap (λ (l : List ℕ). c.args.self.now ++ l) (sym (decimal_more x c.ranges.x.fits c.if-x-lt10.false))
