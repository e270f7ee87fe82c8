-- Characters as bytes: each has a number, and its costs are the table's. Assumes nothing.
use mathlib.Core.Path.{◌≡◌, refl, sym, ap, ap₂, ◌∙◌}
use mathlib.Core.Bool.{Bool, true, false, ◌||◌}
use mathlib.Core.Logic.{◌⊎◌, inl, inr}
use Prim.Native.Nat.{ℕ, ◌+◌, ◌*◌, ◌-◌, ◌≤◌, ◌<◌}
use native.Mathlib.Omega.{arith}
use borrow.Author.Tests.{leb-true, lt-ltb, le-ltb, eq-eqb}
use lib.Dec.{leb, eqb}
use lib.ListN.{get_or}
use Rattle.lists.proofs.Cases.{cond_cases}
use Rattle.score.specs.Characters.{between, known, look_alike, character_cost, character_at, cost_table}
use Rattle.score.specs.Asked.{numbered}
use Rattle.score.proofs.Everywhere.{and_true}
use Rattle.score.proofs.TableRules.{table_at, table_symmetric, table_zero, table_detour}

-- A character is a digit or a capital letter.
pub known_cases : (b : ℕ) → known b ≡ true → ((48 ≤ b) × (b ≤ 57)) ⊎ ((65 ≤ b) × (b ≤ 90))
known_cases b e = by _ _ e refl refl
  where
    by : (s t : Bool) → s || t ≡ true → between 48 57 b ≡ s → between 65 90 b ≡ t → ((48 ≤ b) × (b ≤ 57)) ⊎ ((65 ≤ b) × (b ≤ 90))
    by true t h d f = let p = and_true (leb 48 b) (leb b 57) d in inl (leb-true 48 b p.0, leb-true b 57 p.1)
    by false t h d f = let p = and_true (leb 65 b) (leb b 90) (f ∙ h) in inr (leb-true 65 b p.0, leb-true b 90 p.1)

module _ (b : ℕ) (e : known b ≡ true) where
  pub numbered_below : numbered b < 36
  numbered_below =
      elim (known_cases b e) [
        | inl d ↦ rw (lt-ltb b 58 (omega (arith, d))) (omega (arith, d))
        | inr d ↦ rw (le-ltb b 58 (omega (arith, d))) (omega (arith, d))
      ]

  pub numbered-at : character_at (numbered b) ≡ b
  numbered-at =
      elim (known_cases b e) [
        | inl d ↦ rw (lt-ltb b 58 (omega (arith, d)), lt-ltb (b - 48) 10 (omega (arith, d))) (omega (arith, d))
        | inr d ↦ rw (le-ltb b 58 (omega (arith, d)), le-ltb (b - 55) 10 (omega (arith, d))) (omega (arith, d))
      ]

-- A cost is at most 9, and 0 for equal bytes.
pub cost_small : (a b : ℕ) → character_cost a b ≤ 9
unfolding character_cost
cost_small a b =
    cond_cases (eqb a b) (λ c. c ≤ 9) 0 _ (λ e. omega arith)
    (λ e. cond_cases (look_alike a b) (λ c. c ≤ 9) 2 9 (λ d. omega arith) (λ d. omega arith))

pub cost-same : (a : ℕ) → character_cost a a ≡ 0
unfolding character_cost
cost-same a = rw (eq-eqb a a refl)

module _ (a b : ℕ) (ka : known a ≡ true) (kb : known b ≡ true) where
  -- The table has it.
  pub cost-at : get_or cost_table (36 * numbered a + numbered b) 0 ≡ character_cost a b
  cost-at =
      table_at (numbered a) (numbered b) (numbered_below a ka) (numbered_below b kb) ∙ ap₂ character_cost (numbered-at a ka) (numbered-at b kb)

  numbers : character_cost (character_at (numbered a)) (character_at (numbered b)) ≡ character_cost a b
  numbers = ap₂ character_cost (numbered-at a ka) (numbered-at b kb)

  pub cost_symmetric : character_cost a b ≡ character_cost b a
  cost_symmetric =
      sym numbers ∙ table_symmetric (numbered a) (numbered b) (numbered_below a ka) (numbered_below b kb) ∙ ap₂ character_cost (numbered-at b kb) (numbered-at a ka)

  pub cost_zero : character_cost a b ≡ 0 → a ≡ b
  cost_zero e =
      sym (numbered-at a ka) ∙ ap character_at (table_zero (numbered a) (numbered b) (numbered_below a ka) (numbered_below b kb) (numbers ∙ e)) ∙ numbered-at b kb

pub cost_detour : (a b c : ℕ) → known a ≡ true → known b ≡ true → known c ≡ true → character_cost a c ≤ character_cost a b + character_cost b c
cost_detour a b c ka kb kc =
    omega (arith, table_detour (numbered a) (numbered b) (numbered c) (numbered_below a ka) (numbered_below b kb) (numbered_below c kc), numbers a b ka kb, numbers a c ka kc, numbers b c kb kc)
