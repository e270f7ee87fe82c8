-- The rules of the table, each tested once at all of its places, by computation, and what stands at a place. Assumes nothing.
use mathlib.Core.Path.{◌≡◌, refl, ap₂, ◌∙◌}
use mathlib.Core.Bool.{Bool, true, false, not, ◌||◌}
use Prim.Native.Nat.{ℕ, ◌+◌, ◌*◌, ◌/◌, ◌≤◌, ◌<◌}
use native.Mathlib.Nat.{mul-add-div, mul-add-mod_self_left, div-eq_of_lt, mod-eq_of_lt}
use native.Mathlib.Omega.{arith}
use borrow.Author.Tests.{leb-true, eqb-true, eq-eqb}
use lib.Dec.{leb, eqb}
use lib.ListN.{get_or}
use Rattle.lists.proofs.Tables.{get_d_table}
use Rattle.score.specs.Characters.{character_cost, character_at, place_cost, cost_table}
use Rattle.score.proofs.Everywhere.{everywhere, everywhere_at}

-- What the characters with these numbers cost.
cost : ℕ → ℕ → ℕ
cost a b = character_cost (character_at a) (character_at b)

-- It stands in row a, column b.
pub table_at : (a b : ℕ) → a < 36 → b < 36 → get_or cost_table (36 * a + b) 0 ≡ character_cost (character_at a) (character_at b)
unfolding cost_table place_cost
table_at a b la lb =
    let row : (36 * a + b) / 36 ≡ a = omega (arith, mul-add-div {m = 36} (omega arith) a b, div-eq_of_lt {n = b} {m = 36} lb) in
    get_d_table 1296 place_cost 0 (36 * a + b) (omega arith)
    ∙ ap₂ (λ (x y : ℕ). character_cost (character_at x) (character_at y)) row (mul-add-mod_self_left 36 a b ∙ mod-eq_of_lt lb)

-- ---- symmetric

mirrored : ℕ → ℕ → Bool
mirrored a b = eqb (cost a b) (cost b a)

mirrored_everywhere : everywhere 36 (λ a. everywhere 36 (mirrored a)) ≡ true
unfolding cost character_cost mirrored
mirrored_everywhere = refl

pub table_symmetric : (a b : ℕ) → a < 36 → b < 36 → character_cost (character_at a) (character_at b) ≡ character_cost (character_at b) (character_at a)
unfolding cost mirrored
table_symmetric a b la lb =
    eqb-true (cost a b) (cost b a) (everywhere_at 36 (mirrored a) (everywhere_at 36 (λ a. everywhere 36 (mirrored a)) mirrored_everywhere a la) b lb)

-- ---- zero only on the diagonal

costly : ℕ → ℕ → Bool
costly a b = eqb a b || not (eqb (cost a b) 0)

costly_everywhere : everywhere 36 (λ a. everywhere 36 (costly a)) ≡ true
unfolding cost character_cost costly
costly_everywhere = refl

pub table_zero : (a b : ℕ) → a < 36 → b < 36 → character_cost (character_at a) (character_at b) ≡ 0 → a ≡ b
unfolding cost costly
table_zero a b la lb e =
    eqb-true a b (first (eqb a b) (eqb (cost a b) 0) (eq-eqb (cost a b) 0 e) (everywhere_at 36 (costly a) (everywhere_at 36 (λ a. everywhere 36 (costly a)) costly_everywhere a la) b lb))
  where
    first : (s t : Bool) → t ≡ true → s || not t ≡ true → s ≡ true
    first true t d h = refl
    first false true d h = h
    first false false d h = d

-- ---- a detour through a third character is never cheaper

straight : ℕ → ℕ → ℕ → Bool
straight a b c = leb (cost a c) (cost a b + cost b c)

straight_everywhere : everywhere 36 (λ a. everywhere 36 (λ b. everywhere 36 (straight a b))) ≡ true
unfolding cost character_cost straight
straight_everywhere = refl

pub table_detour : (a b c : ℕ) → a < 36 → b < 36 → c < 36
    → character_cost (character_at a) (character_at c) ≤ character_cost (character_at a) (character_at b) + character_cost (character_at b) (character_at c)
unfolding cost straight
table_detour a b c la lb lc =
    leb-true (cost a c) (cost a b + cost b c)
    (everywhere_at 36 (straight a b)
    (everywhere_at 36 (λ b. everywhere 36 (straight a b)) (everywhere_at 36 (λ a. everywhere 36 (λ b. everywhere 36 (straight a b))) straight_everywhere a la) b lb) c lc)
