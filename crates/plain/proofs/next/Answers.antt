use mathlib.Core.Path.{◌≡◌, sym, ap, ◌∙◌}
use mathlib.Core.Bool.{true}
use mathlib.Core.List.{List, ◌++◌}
use Prim.Native.Nat.{ℕ, suc, ◌+◌, ◌-◌, ◌≤◌, ◌<◌}
use native.Mathlib.Omega.{arith}
use lib.ListN.{length, drop, set}
use lib.Seq.{get_or-set_other}
use Rattle.lists.specs.Permutations.{at}
use Rattle.plain.proofs.Numbers.{Below}
use Rattle.plain.proofs.Following.{after, more, rise, rise_more, carry, carry_more, none, none_more, after_list, more_lists}
use Rattle.plain.proofs.next.Goals as goal

-- a store at the place before i, counted down: i is not 0
module _ (n : ℕ) (list : List ℕ) (i : ℕ) (h : 0 < i) (l : i ≤ length list) (b : Below n i list) where
  abbrev k : ℕ
  k = i - 1

  back : suc k ≡ i
  back = omega arith

  reach : k < length list
  reach = omega arith

  inner : Below n (suc k) list
  inner x g = b x (omega arith)

  risen : at list k + 1 < n → after n i list ++ drop i list ≡ set list k (at list k + 1)
  risen g =
      let e : suc (at list k) ≡ at list k + 1 = omega arith in
      ap (λ (m : ℕ). after n m list ++ drop m list) (sym back) ∙ rise n list k reach inner (omega arith) ∙ ap (set list k) e

  risen-more : at list k + 1 < n → more n i list ≡ true
  risen-more g = ap (λ (m : ℕ). more n m list) (sym back) ∙ rise_more n list k reach inner (omega arith)

  module _ (full : n ≤ at list k + 1) where
    last : suc (at list k) ≡ n
    last = omega (arith, inner k (omega arith))

    carried : after n k (set list k 0) ++ drop k (set list k 0) ≡ after n i list ++ drop i list
    carried = sym (carry n list k reach last) ∙ ap (λ (m : ℕ). after n m list ++ drop m list) back

    carried-more : more n k (set list k 0) ≡ more n i list
    carried-more = sym (carry_more n list k reach last) ∙ ap (λ (m : ℕ). more n m list) back

    carried-below : Below n k (set list k 0)
    carried-below x g = rw (get_or-set_other list k x 0 0 (λ e. omega arith)) (b x (omega arith))

pub returns-then-j-n : goal.returns-then-j-n
returns-then-j-n c =
    let l = c.loop-i in
    let u = c.args in
    let b : l.i ≤ length l.list = omega arith in
    let t : 0 < l.i = omega arith in
    λ k h e. (
      sym (risen u.n l.list l.i t b l.invariant.below c.if-j-n.true) ∙ l.invariant.list ∙ after_list u.n (length u.list.now) u.list.now k h e,
      sym (risen-more u.n l.list l.i t b l.invariant.below c.if-j-n.true) ∙ l.invariant.following ∙ more_lists u.n (length u.list.now) u.list.now k h e,
    )

pub loop-i-preserved : goal.loop-i-preserved
loop-i-preserved c =
    let l = c.loop-i in
    let n = c.args.n in
    let b : l.i ≤ length l.list = omega arith in
    let t : 0 < l.i = omega arith in record {
      below = carried-below n l.list l.i t b l.invariant.below c.if-j-n.false;
      list = carried n l.list l.i t b l.invariant.below c.if-j-n.false ∙ l.invariant.list;
      following = carried-more n l.list l.i t b l.invariant.below c.if-j-n.false ∙ l.invariant.following;
    }

pub returns : goal.returns
returns c =
    let l = c.loop-i in
    let u = c.args in
    let z : l.i ≡ 0 = omega arith in
    λ k h e. (
      none u.n l.list l.i z ∙ l.invariant.list ∙ after_list u.n (length u.list.now) u.list.now k h e,
      sym (none_more u.n l.list l.i z) ∙ l.invariant.following ∙ more_lists u.n (length u.list.now) u.list.now k h e,
    )
