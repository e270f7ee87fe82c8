-- What two references that have a score are like. Assumes nothing.
use mathlib.Core.Path.{◌≡◌, ap}
use mathlib.Core.Bool.{not}
use mathlib.Core.Logic.{◌↔◌}
use mathlib.Core.List.{List}
use Prim.Native.Nat.{ℕ, ◌+◌, ◌<◌}
use native.Mathlib.Nat.{div-eq_of_lt, mod-eq_of_lt}
use native.Mathlib.Omega.{arith}
use borrow.Author.Tests.{eqb-true, eq-eqb, not-false}
use lib.IntN.{ℤ}
use lib.ListN.{length}
use Rattle.matrix.specs.Verdicts.{Passes}
use Rattle.std.specs.Prelude.{Ok}
use Rattle.matrix.proofs.Verdicts.{then_iff, fails_if_iff, fails_at_iff, totalled_iff}
use Rattle.score.specs.Characters.{Known, Reference}
use Rattle.score.specs.Score.{lengths_twelve, pair_place, characters_known, score_tests, score_of, score}

-- ---- the tests

-- In a single reference a position is counted on over both.
pub single_place : (start p : ℕ) → p < 12 → pair_place start p ≡ start + p
single_place start p l = omega (arith, div-eq_of_lt {n = p} {m = 12} l, mod-eq_of_lt {n = p} {m = 12} l)

pub lengths_twelve_lem : (first second : List ℕ) → Passes (lengths_twelve first second) ↔ ((length first ≡ 12) × (length second ≡ 12))
lengths_twelve_lem first second =
    let b = then_iff _ _ in
    let s = fails_if_iff _ _ _ in
    let t = fails_if_iff _ _ _ in (
      λ e. (eqb-true (length first) 12 (not-false _ (s.0 (b.0 e).0)), eqb-true (length second) 12 (not-false _ (t.0 (b.0 e).1))),
      λ h. b.1 (s.1 (ap not (eq-eqb (length first) 12 h.0)), t.1 (ap not (eq-eqb (length second) 12 h.1))),
    )

-- A list whose length was tested passes 19 exactly if all its characters are known.
pub characters_known_lem : (start count : ℕ) (list : List ℕ) → length list ≡ count → Passes (characters_known start list) ↔ Known count list
characters_known_lem start count list size =
    let t = fails_at_iff _ (pair_place start) (length list) _ in (
      λ e. record { size = size; known = λ p l. not-false _ (t.0 e p (omega (arith, size))) },
      λ h. t.1 (λ p l. ap not (h.known p (omega (arith, size)))),
    )

pub tests_iff : (first second : List ℕ) → Passes (score_tests first second) ↔ (Reference first × Reference second)
unfolding score_tests
tests_iff first second =
    let b = then_iff _ _ in
    let a = then_iff _ _ in (
      λ e.
          let l = (lengths_twelve_lem first second).0 (a.0 (b.0 e).0).0 in
          ((characters_known_lem 0 12 first l.0).0 (a.0 (b.0 e).0).1, (characters_known_lem 12 12 second l.1).0 (b.0 e).1),
      λ h.
          b.1 (a.1 ((lengths_twelve_lem first second).1 (h.0.size, h.1.size), (characters_known_lem 0 12 first h.0.size).1 h.0), (characters_known_lem 12 12 second h.1.size).1 h.1),
    )

-- Two references, and only they, have a score.
pub score_iff : (first second : List ℕ) {t : ℤ} → (score first second ≡ Ok t) ↔ ((Reference first × Reference second) × (t ≡ score_of first second))
unfolding score
score_iff first second =
    let s = totalled_iff (score_tests first second) (score_of first second) in
    let t = tests_iff first second in
    (λ e. (t.0 (s.0 e).0, (s.0 e).1), λ h. s.1 (t.1 h.0, h.1))
