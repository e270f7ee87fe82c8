-- The table's rules lifted to references: a score is symmetric, 0 for equal references alone, and a detour through a third is never cheaper. Assumes nothing.
use mathlib.Core.Path.{◌≡◌, refl, sym, ap, ◌∙◌}
use mathlib.Core.Logic.{◌↔◌}
use mathlib.Core.List.{List}
use Prim.Native.Nat.{ℕ, ◌<◌}
use native.Mathlib.Omega.{arith}
use lib.IntN.{ℤ, pos, ◌+ℤ◌}
use lib.Seq.{ext_get_or}
use lib.Signed.{◌≤ℤ◌}
use Rattle.ints.specs.Parts.{Within}
use Rattle.ints.proofs.Shapes.{zlin}
use Rattle.lists.specs.Permutations.{at}
use Rattle.lists.specs.Sums.{sum}
use Rattle.lists.proofs.Sums.{sum_cong, sum_zero, sum_add, sum_le, sum_le_tight, sum_within}
use Rattle.std.specs.Prelude.{Ok}
use Rattle.score.specs.Characters.{Reference, character_cost}
use Rattle.score.specs.Score.{score_of, score}
use Rattle.score.proofs.CharacterCosts.{cost_small, cost-same, cost_symmetric, cost_zero, cost_detour}
use Rattle.score.proofs.Scores.{score_iff}

-- What the characters at k cost.
abbrev costs : List ℕ → List ℕ → ℕ → ℤ
costs x y k = pos (character_cost (at x k) (at y k))

-- ---- the sum

pub sum_small : (x y : List ℕ) → Within 108 (score_of x y)
unfolding score_of
sum_small x y = sum_within 12 9 (costs x y) (λ k l. omega (arith, cost_small (at x k) (at y k)))

sum_same : (x : List ℕ) → score_of x x ≡ pos 0
unfolding score_of
sum_same x = sum_zero 12 (costs x x) (λ k l. ap pos (cost-same (at x k)))

module _ (x y : List ℕ) (rx : Reference x) (ry : Reference y) where
  sum_symmetric : score_of x y ≡ score_of y x
  unfolding score_of
  sum_symmetric = sum_cong 12 (costs x y) (costs y x) (λ k l. ap pos (cost_symmetric (at x k) (at y k) (rx.known k l) (ry.known k l)))

  -- No cost is below 0: where they come to 0, each is 0.
  sum_equal : score_of x y ≡ pos 0 → x ≡ y
  unfolding score_of
  sum_equal e = ext_get_or 0 x y (rx.size ∙ sym ry.size) (λ k l. same k (omega (arith, rx.size)))
    where
      same : (k : ℕ) → k < 12 → at x k ≡ at y k
      same k l =
          let none : sum 12 (λ i. pos 0) ≡ pos 0 = sum_zero 12 (λ i. pos 0) (λ i h. refl) in
          let zero : pos 0 ≡ costs x y k = sum_le_tight 12 (λ i. pos 0) (costs x y) (λ i h. omega zlin) (omega (zlin, e, none)) k l in
          cost_zero (at x k) (at y k) (rx.known k l) (ry.known k l) (omega (zlin, zero))

  sum_detour : (z : List ℕ) → Reference z → score_of x z ≤ℤ (score_of x y +ℤ score_of y z)
  unfolding score_of
  sum_detour z rz =
      let each = sum_le 12 (costs x z) (λ k. costs x y k +ℤ costs y z k) (λ k l. omega (zlin, cost_detour (at x k) (at y k) (at z k) (rx.known k l) (ry.known k l) (rz.known k l))) in
      omega (zlin, each, sum_add 12 (costs x y) (costs y z))

-- ---- the entry

pub score_symmetric : (x y : List ℕ) {t : ℤ} → score x y ≡ Ok t → score y x ≡ Ok t
score_symmetric x y e =
    let s = (score_iff x y).0 e in
    (score_iff y x).1 ((s.0.1, s.0.0), s.1 ∙ sum_symmetric x y s.0.0 s.0.1)

pub score_zero : (x y : List ℕ) → (score x y ≡ Ok (pos 0)) ↔ (Reference x × (x ≡ y))
score_zero x y = (
  λ e. let s = (score_iff x y).0 e in (s.0.0, sum_equal x y s.0.0 s.0.1 (sym s.1)),
  λ h. ap (λ (z : List ℕ). score x z) (sym h.1) ∙ (score_iff x x).1 ((h.0, h.0), sym (sum_same x)),
)

pub score_detour : (x y z : List ℕ) {s t : ℤ} → score x y ≡ Ok s → score y z ≡ Ok t → (score x z ≡ Ok (score_of x z)) × (score_of x z ≤ℤ (s +ℤ t))
score_detour x y z e f =
    let a = (score_iff x y).0 e in
    let b = (score_iff y z).0 f in
    ((score_iff x z).1 ((a.0.0, b.0.1), refl), omega (zlin, a.1, b.1, sum_detour x y a.0.0 a.0.1 z b.0.1))
