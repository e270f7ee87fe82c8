-- `look` does what its definition says, and what is kept of the rows stays true. Assumes nothing.
use Rattle.std.proofs.Common.{rules, refl, w64, to_z, of_z, ◌≡◌, sym, ap, ap₂, ◌∙◌, subst, ℕ, ◌<◌, ℤ, List, ◌++◌, Bool, length, set, arith}
use lib.Seq.{take_at}
use Rattle.lists.specs.Parts.{part}
use Rattle.lists.specs.Permutations.{at}
use Rattle.assignment.specs.Pairings.{square, signed_at}
use Rattle.rules.specs.Lowest.{reduced, two_lowest}
use Rattle.rules.specs.Rows.{choose, displace, is_early, look}
use Rattle.reduction.specs.Rows.{Inside, passing_at}
use Rattle.reduction.proofs.Nearness.{two_lowest-near}
use Rattle.reduction.proofs.Looks.{choice_of, look_is}
use Rattle.reduction.proofs.Lasting.{two_told, keeping_look}
use Rattle.reduction.proofs.rows.look.Goals as goal

pub choose-j1-requires : goal.choose-j1-requires
choose-j1-requires c =
    let u = c.args in
    let p = c.requires.0 in
    let split = c.split_at_mut-frees in
    let i = at split.result.0.now u.pass.current in
    let inside : i < u.n = omega (arith, ap (λ (l : List ℕ). at l u.pass.current) split.ensures.front, p.row_below) in
    let told = two_told u.n i u.costs.now c.row.result.now u.v.now inside p.squared.size c.row.ensures u.room.now _ u.limits.now c.requires.1 split.ensures.back c.two_lowest-two.ensures in
    (p.squared.small, p.prices_size, p.rows_size, p.near_prices, subst (Inside u.n) (sym told) (two_lowest-near u.n u.costs.now u.v.now p.squared p.near_prices i inside))

pub returns : goal.returns
returns c =
    let u = c.args in
    let n = u.n in
    let p = c.requires.0 in
    let cost = (square n u.costs.now).cost in
    let x = passing_at u.cols.now u.rows.now u.v.now (part 0 n u.room.now) u.pass in
    let split = c.split_at_mut-frees in
    let i = at split.result.0.now u.pass.current in
    let row : i ≡ at x.frees u.pass.current = ap (λ (l : List ℕ). at l u.pass.current) split.ensures.front in
    let inside : i < n = omega (arith, row, p.row_below) in
    let told = two_told n i u.costs.now c.row.result.now u.v.now inside p.squared.size c.row.ensures u.room.now _ u.limits.now c.requires.1 split.ensures.back c.two_lowest-two.ensures in
    let w = c.choose-j1.result in
    let choice : w ≡ choice_of n cost x =
    c.choose-j1.ensures.0 ∙ ap (λ (e : Bool). choose n e u.v.now u.rows.now c.two_lowest-two.result) c.is_early.ensures
    ∙ ap (choose n (is_early n u.pass) u.v.now u.rows.now) (told ∙ ap (λ (k : ℕ). two_lowest n (reduced cost (signed_at u.v.now) k)) row) in
    let price : to_z w64 (of_z w64 w.price) ≡ w.price = search rules in
    let frees = c.displace.new.frees in
    let kept = c.two_lowest-two.new.kept in
    let frees_size : length frees ≡ n = omega (arith, c.displace.auto.frees, split.ensures.front_len) in
    let looked : passing_at (set u.cols.now i w.column) (set u.rows.now w.column i) (set u.v.now w.column (to_z w64 (of_z w64 w.price))) (part 0 n (frees ++ kept)) c.displace.result ≡ look n cost x =
    ap₂ (λ (z : ℤ) (f : List ℕ). passing_at (set u.cols.now i w.column) (set u.rows.now w.column i) (set u.v.now w.column z) f c.displace.result) price (take_at frees kept n frees_size)
    ∙ look_is n cost x i row w choice frees c.displace.result
    (c.displace.ensures ∙ ap (λ (f : List ℕ). displace n f u.pass w.back (at u.rows.now w.column)) split.ensures.front) in (
      looked,
      keeping_look n i u.costs.now c.row.result.now u.v.now inside p.squared.size c.row.ensures u.room.now _ u.limits.now c.requires.1 split.ensures.back c.two_lowest-two.ensures x _
          refl looked frees frees_size (omega (arith, c.two_lowest-two.auto.kept, split.ensures.back_len, c.requires.1.room_size))
          (omega (arith, c.two_lowest-two.auto.limits, c.requires.1.limits_size)),
    )
