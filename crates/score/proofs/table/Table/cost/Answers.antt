-- `cost` reads the table at the place of two characters. Assumes nothing.
use mathlib.Core.Path.{◌≡◌, ap, ◌∙◌}
use mathlib.Core.List.{List}
use Prim.Native.Nat.{ℕ, ◌+◌, ◌*◌}
use native.Mathlib.Omega.{arith}
use lib.IntN.{pos}
use lib.ListN.{length, get_or}
use mir.Syntax.{w32}
use Rattle.ints.proofs.Bits.{read_back}
use Rattle.lists.proofs.Tables.{length-table}
use Rattle.score.specs.Characters.{place_cost, cost_table}
use Rattle.score.specs.Asked.{numbered}
use Rattle.score.proofs.CharacterCosts.{numbered_below, cost-at}
use Rattle.score.proofs.table.Table.cost.Goals as goal

-- the table is 1,296 long
size : length cost_table ≡ 1296
unfolding cost_table
size = length-table 1296 place_cost

pub bounds-self-number : goal.bounds-self-number
bounds-self-number c =
    let a = numbered_below c.args.a c.requires.0 in
    let b = numbered_below c.args.b c.requires.1 in
    omega (arith, a, b, size, ap length c.args.self.now.right)

pub returns : goal.returns
returns c =
    let u = c.args in
    let place : 36 * c.number.result + c.number-2.result ≡ 36 * numbered u.a + numbered u.b = omega arith in
    read_back w32 c.from.result c.from.type_inv ∙ c.from.ensures
    ∙ ap pos
    (ap (λ (k : ℕ). get_or u.self.now.costs k 0) place
    ∙ ap (λ (l : List ℕ). get_or l (36 * numbered u.a + numbered u.b) 0) c.args.self.now.right
    ∙ cost-at u.a u.b c.requires.0 c.requires.1)
