use mathlib.Core.Path.{◌≡◌, sym, ap, ap₂, ◌∙◌}
use mathlib.Core.List.{List, [], ◌∷◌}
use Prim.Native.Nat.{ℕ, ◌+◌, ◌*◌, ◌<◌}
use native.Mathlib.Numerals.{add-one}
use native.Mathlib.Omega.{arith}
use lib.IntN.{ℤ, pos, ◌+ℤ◌}
use lib.ListN.{length, get_or, length-append}
use mir.Syntax.{w32}
use mir.Val.{SFits}
use mir.Facts.{to_z-of_z}
use Rattle.std.proofs.Common.{rules}
use Rattle.std.proofs.lemmas.Slice.Zip.{zip_turn, zip_end}
use Rattle.ints.specs.Parts.{Within}
use Rattle.ints.proofs.Bits.{read_back}
use Rattle.ints.proofs.Shapes.{zlin}
use Rattle.lists.specs.Permutations.{at}
use Rattle.lists.specs.Sums.{sum}
use Rattle.lists.proofs.Sums.{sum_none, sum-last, sum_within}
use Rattle.score.specs.Characters.{character_cost}
use Rattle.score.specs.Score.{score_of}
use Rattle.score.proofs.CharacterCosts.{cost_small}
use Rattle.score.proofs.table.Table.score.Invariants.{costs}
use Rattle.score.proofs.table.Table.score.Goals as goal

-- one cost more, which fits: a and b stand at k
module _ (x y : List ℕ) (k a b : ℕ) {total cost : ℤ} (at_turn : (k < length x) × (k < length y) × ((d : ℕ) → a ≡ get_or x k d) × ((d : ℕ) → b ≡ get_or y k d))
    (so_far : total ≡ sum k (costs x y)) (e : cost ≡ pos (character_cost a b)) where
  here : cost ≡ pos (character_cost (at x k) (at y k))
  here = e ∙ ap₂ (λ (i j : ℕ). pos (character_cost i j)) (at_turn.2 0) (at_turn.3 0)

  more : total +ℤ cost ≡ sum (k + 1) (costs x y)
  more = rw (add-one k, sum-last k (costs x y)) (omega (zlin, so_far, here))

  fits : length x ≡ 12 → SFits w32 (total +ℤ cost)
  fits h =
      let w : Within (k * 9) (sum k (costs x y)) = sum_within k 9 (costs x y) (λ i l. omega (zlin, cost_small (at x i) (at y i))) in
      omega (zlin, so_far, here, w, at_turn.0, h, cost_small (at x k) (at y k))

pub loop-a-init : goal.loop-a-init
loop-a-init c = ((tt, tt), tt, sym (sum_none _))

pub overflow_add-total : goal.overflow_add-total
overflow_add-total c =
    let u = c.args in
    let l = c.loop-a in
    let turn = zip_turn u.first.now u.second.now l.yielded c.into_iter-a-iterator.result l.a-iterator c.next.new.self c.next.result (search rules) (search rules) l.yielded_by (c.in-Some.field-0-0, c.in-Some.field-0-1) c.in-Some.is c.next.ensures.steps in
    fits u.first.now u.second.now _ _ _ turn l.invariant.2 (read_back w32 c.cost-total.result c.cost-total.type_inv ∙ c.cost-total.ensures) c.requires.0.size

pub loop-a-preserved : goal.loop-a-preserved
loop-a-preserved c =
    let u = c.args in
    let l = c.loop-a in
    let turn = zip_turn u.first.now u.second.now l.yielded c.into_iter-a-iterator.result l.a-iterator c.next.new.self c.next.result (search rules) (search rules) l.yielded_by (c.in-Some.field-0-0, c.in-Some.field-0-1) c.in-Some.is c.next.ensures.steps in
    let cost = read_back w32 c.cost-total.result c.cost-total.type_inv ∙ c.cost-total.ensures in
    let longer = length-append l.yielded ((c.in-Some.field-0-0, c.in-Some.field-0-1) ∷ []) in (
      (tt, tt),
      tt,
      to_z-of_z (fits u.first.now u.second.now _ _ _ turn l.invariant.2 cost c.requires.0.size) ∙ more u.first.now u.second.now _ _ _ turn l.invariant.2 cost
          ∙ ap (λ (k : ℕ). sum k (costs u.first.now u.second.now)) (sym longer),
    )

pub returns : goal.returns
unfolding score_of
returns c =
    let u = c.args in
    let l = c.loop-a in
    let end = zip_end u.first.now u.second.now l.yielded c.into_iter-a-iterator.result l.a-iterator c.next.new.self c.next.result (search rules) (search rules) l.yielded_by c.in-None.is c.next.ensures.steps in
    let e : length l.yielded ≡ 12 = omega (arith, end, c.requires.0.size, c.requires.1.size) in
    l.invariant.2 ∙ ap (λ (k : ℕ). sum k (costs u.first.now u.second.now)) e
