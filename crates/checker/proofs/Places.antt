-- The prices of one place: their sum does not wrap; and what the tests of that place read. Assumes nothing.
use mathlib.Core.Path.{◌≡◌, refl, sym, ap, ap₂, ◌∙◌}
use mathlib.Core.Bool.{Bool, true, false, not, ◌&&◌, ◌||◌, or-true, true≢false}
use mathlib.Core.Logic.{⊎_elim}
use mathlib.Core.List.{List}
use Prim.Native.Nat.{ℕ, ◌+◌, ◌*◌, ◌≤◌, ◌<◌}
use borrow.Author.Tests.{eqb-true, eqb-false}
use lib.Dec.{eqb}
use lib.IntN.{ℤ, pos, ◌+ℤ◌, ◌-ℤ◌}
use lib.ListN.{length}
use lib.Signed.{lt_z, ◌≤ℤ◌, ◌<ℤ◌}
use mir.Syntax.{Width, w32, w64}
use mir.Val.{SFits, of_z}
use Rattle.ints.specs.Parts.{Within}
use Rattle.ints.proofs.Ranges.{zarith}
use Rattle.ints.proofs.Shapes.{zlin}
use Rattle.ints.proofs.Sums.{sum}
use Rattle.ints.proofs.Tests.{lt_lt_z, le_lt_z, le_or_lt}
use Rattle.ints.proofs.Bits.{bits_injective}
use Rattle.lists.specs.Parts.{part}
use Rattle.lists.specs.Permutations.{at}
use Rattle.lists.specs.Counts.{bit_of}
use Rattle.lists.proofs.BitSets.{bit_none}
use Rattle.assignment.specs.Pairings.{signed_at}
use Rattle.matrix.specs.Limits.{K, near}
use Rattle.matrix.proofs.SmallLimits.{K_small}
use Rattle.matrix.proofs.RowParts.{row_at}
use Rattle.bars.specs.Barred.{night_of}
use Rattle.checker.specs.Tests.{is_over, over, differ}

-- Two prices of 10K add, and a cost minus both is a number of 64 bits.
pub sum_fits : (u v : ℤ) → Within (10 * K) u → Within (10 * K) v → SFits w64 (u +ℤ v)
sum_fits u v near close = omega (zlin, K_small)

pub slack_fits : (c u v : ℤ) → SFits w32 c → Within (10 * K) u → Within (10 * K) v → SFits w64 (c -ℤ (u +ℤ v))
slack_fits c u v f near close = omega (zlin, K_small, sum u v)

pub price_fits : (u : ℤ) → Within (10 * K) u → SFits w64 u
price_fits u h = omega (zlin, K_small)

pub price_near : (u : ℤ) → Within (10 * K) u → Within near u
price_near u h = omega (zlin, K_small)

-- ---- one number is not another

pub differ_same : (a b : ℤ) → a ≡ b → differ a b ≡ false
differ_same a b e = rw (le_lt_z a b (omega zarith), le_lt_z b a (omega zarith))

pub differ_apart : (a b : ℤ) → (a ≡ b → ⊥) → differ a b ≡ true
differ_apart a b apart =
    ⊎_elim (λ h. rw (lt_lt_z b a (strict h)) (or-true (lt_z a b))) (λ l. rw (lt_lt_z a b l)) (le_or_lt b a)
  where
    strict : b ≤ℤ a → b <ℤ a
    strict h = ⊎_elim (λ k. absurd (apart (omega zarith))) (λ l. l) (le_or_lt a b)

pub differ_false : (a b : ℤ) → differ a b ≡ false → a ≡ b
differ_false a b = by (lt_z a b) (lt_z b a) refl refl
  where
    by : (s t : Bool) → lt_z a b ≡ s → lt_z b a ≡ t → (s || t) ≡ false → a ≡ b
    by false false below above e = omega zarith
    by false true below above e = absurd (true≢false e)
    by true t below above e = absurd (true≢false e)

-- The same, as two signed locals are compared: by their bits.
pub differ_bits : {w : Width} (a b : ℤ) → SFits w a → SFits w b → not (eqb (of_z w a) (of_z w b)) ≡ differ a b
differ_bits {w} a b f g = by (eqb (of_z w a) (of_z w b)) refl
  where
    by : (t : Bool) → eqb (of_z w a) (of_z w b) ≡ t → not (eqb (of_z w a) (of_z w b)) ≡ differ a b
    by true e = ap not e ∙ sym (differ_same a b (bits_injective f g (eqb-true _ _ e)))
    by false e = ap not e ∙ sym (differ_apart a b (λ same. eqb-false _ _ e (ap (of_z w) same)))

-- ---- one row of the costs

-- The prices are over the cost in one row of costs with its price, at column j.
abbrev pub over_at : List ℤ → ℤ → List ℤ → ℕ → Bool
over_at row u vs j = is_over (signed_at row j) u (signed_at vs j)

-- The same, where the bits of the row do not bar the column.
abbrev pub over_bits : List ℤ → ℤ → List ℤ → ℕ → ℕ → Bool
over_bits row u vs bits j = not (bit_of bits j) && over_at row u vs j

-- A row without bars.
pub none_barred : (row : List ℤ) (u : ℤ) (vs : List ℤ) (bits : ℕ) → bits ≡ 0 → (j : ℕ) → over_at row u vs j ≡ over_bits row u vs bits j
none_barred row u vs bits e j = ap (λ (t : Bool). not t && over_at row u vs j) (sym (ap (λ (b : ℕ). bit_of b j) e ∙ bit_none j))

-- What holds in the part that holds row i, with its price and its bits, holds in row i of the night.
pub row_over : (m n : ℕ) (costs us vs : List ℤ) (bars : List ℕ) (i : ℕ) → i * n + n ≤ length costs → (row : List ℤ) → row ≡ part (i * n) n costs → (u : ℤ) → u ≡ signed_at us i
    → (bits : ℕ) → bits ≡ at bars i → (j : ℕ) → j < n → over_bits row u vs bits j ≡ over (night_of m n costs bars) us vs i j
unfolding is_over
row_over m n costs us vs bars i h row same u price bits e j l =
    ap₂ (λ (b : ℕ) (z : ℤ). not (bit_of b j) && lt_z z (pos 0)) e
    (ap₂ ◌-ℤ◌ (ap (λ (p : List ℤ). signed_at p j) same ∙ row_at n costs i j l) (ap (λ (z : ℤ). z +ℤ signed_at vs j) price))
