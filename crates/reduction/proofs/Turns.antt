-- The runs of rule 1 and of the least values of rule 3, turn by turn, as code goes through them. Assumes nothing.
use mathlib.Core.Path.{◌≡◌, refl, sym, ap, ◌∙◌}
use mathlib.Core.Bool.{Bool, true, false, cond}
use Prim.Native.Nat.{ℕ, ◌+◌, ◌-◌, ◌≤◌, ◌<◌}
use native.Mathlib.Omega.{arith}
use native.Mathlib.Numerals.{add-one}
use borrow.Author.Tests.{eq-eqb, ne_eqb}
use lib.Dec.{eqb}
use lib.IntN.{ℤ}
use lib.Signed.{lt_z}
use Rattle.std.specs.Prelude.{Option, Some, None}
use Rattle.lists.specs.Runs.{FindsFrom}
use Rattle.lists.proofs.Runs.{upward_none, upward-last, upward_stays}
use Rattle.lists.proofs.Cases.{cond_cases}
use Rattle.rules.specs.declared.Low.{Low}
use Rattle.rules.specs.declared.TwoLowest.{TwoLowest}
use Rattle.rules.specs.declared.TwoLowest.TheVariants.{One, Two}
use Rattle.rules.specs.Lowest.{low, beside, two_step, two_lowest, lower, lowest, least, least_but}
use Rattle.reduction.specs.Columns.{NextLeast}

-- The lowest so far beside a value at place i, by equal numbers.
pub lower_cong : (i : ℕ) {a b h g : ℤ} {p q : ℕ} → a ≡ b → p ≡ q → h ≡ g → lower (low a p) (low h i) ≡ lower (low b q) (low g i)
lower_cong i e f k = cc

module _ (f : ℕ → ℤ) where
  pub two_lowest_one : two_lowest 1 f ≡ One (low (f 0) 0)
  unfolding two_lowest
  two_lowest_one = upward_none 1 1 (λ j found. two_step found (low (f j) j)) (One (low (f 0) 0)) (omega arith)

  pub two_lowest_more : (j : ℕ) → 1 ≤ j → two_lowest (j + 1) f ≡ two_step (two_lowest j f) (low (f j) j)
  unfolding two_lowest
  two_lowest_more j h = rw add-one (upward-last 1 j (λ j found. two_step found (low (f j) j)) (One (low (f 0) 0)) h)

  pub two_lowest_two : two_lowest 2 f ≡ beside (low (f 0) 0) (low (f 1) 1)
  two_lowest_two = two_lowest_more 1 (omega arith) ∙ ap (λ (t : TwoLowest). two_step t (low (f 1) 1)) two_lowest_one

  -- A pair of columns stays the two lowest past columns that do not count.
  pub two_lowest_pass : (a b : Low) (j r : ℕ) → 1 ≤ j → j ≤ r → Two a b ≡ two_lowest j f → ((k : ℕ) → k < r → j ≤ k → lt_z (f k) b.value ≡ false)
      → Two a b ≡ two_lowest r f
  unfolding two_lowest
  two_lowest_pass a b j r h l e passed =
      upward_stays 1 j r (λ k found. two_step found (low (f k) k)) (One (low (f 0) 0)) (Two a b) h l e
      (λ k m n. ap (λ (t : Bool). cond t (beside a (low (f k) k)) (Two a b)) (passed k n m))

  -- A column that counts, beside the two lowest so far.
  pub two_lowest-count : (a b : Low) (j : ℕ) → 1 ≤ j → Two a b ≡ two_lowest j f → lt_z (f j) b.value ≡ true → beside a (low (f j) j) ≡ two_lowest (j + 1) f
  two_lowest-count a b j h e counts =
      ap (λ (t : Bool). cond t (beside a (low (f j) j)) (Two a b)) (sym counts) ∙ ap (λ (t : TwoLowest). two_step t (low (f j) j)) e
      ∙ sym (two_lowest_more j h)

  pub lowest_one : lowest 1 f ≡ low (f 0) 0
  unfolding lowest
  lowest_one = upward_none 1 1 (λ i found. lower found (low (f i) i)) (low (f 0) 0) (omega arith)

  pub lowest_more : (i : ℕ) → 1 ≤ i → lowest (i + 1) f ≡ lower (lowest i f) (low (f i) i)
  unfolding lowest
  lowest_more i h = rw add-one (upward-last 1 i (λ i found. lower found (low (f i) i)) (low (f 0) 0) h)

  pub least_but_none : (j : ℕ) → least_but 0 f j ≡ None
  unfolding least_but
  least_but_none j = upward_none 0 0 (λ k found. cond (eqb k j) found (least found (f k))) None (omega arith)

  least_but_more : (j k : ℕ) → least_but (k + 1) f j ≡ cond (eqb k j) (least_but k f j) (least (least_but k f j) (f k))
  unfolding least_but
  least_but_more j k = rw add-one (upward-last 0 k (λ k found. cond (eqb k j) found (least found (f k))) None (omega arith))

  pub least_but-same : (j k : ℕ) → k ≡ j → least_but (k + 1) f j ≡ least_but k f j
  least_but-same j k e = least_but_more j k ∙ ap (λ (t : Bool). cond t (least_but k f j) (least (least_but k f j) (f k))) (eq-eqb k j e)

  pub least_but_other : (j k : ℕ) → (k ≡ j → ⊥) → least_but (k + 1) f j ≡ least (least_but k f j) (f k)
  least_but_other j k d = least_but_more j k ∙ ap (λ (t : Bool). cond t (least_but k f j) (least (least_but k f j) (f k))) (ne_eqb k j d)

  -- What was found stays the least past values that leave it.
  pub least_but_pass : (found : Option ℤ) (j k r : ℕ) → k ≤ r → found ≡ least_but k f j → ((i : ℕ) → i < r → k ≤ i → least found (f i) ≡ found)
      → found ≡ least_but r f j
  unfolding least_but
  least_but_pass found j k r l e passed =
      upward_stays 0 k r (λ i x. cond (eqb i j) x (least x (f i))) None found (omega arith) l e
      (λ i m n. cond_cases (eqb i j) (λ x. x ≡ found) found (least found (f i)) (λ t. refl) (λ t. passed i n m))

-- ---- the next column that counts, as code finds it

-- How many columns there are from it on.
abbrev pub ahead : ℕ → Option ℕ → ℕ
ahead n None = 0
ahead n (Some j) = n - j

-- It comes nearer to the end.
pub nearer : (n : ℕ) (answers : ℕ → Bool → Type 0) (j : ℕ) → j < n → (r : Option ℕ) → FindsFrom (j + 1) n answers r → ahead n r < ahead n (Some j)
nearer n answers j h None q = omega arith
nearer n answers j h (Some r) q = omega (arith, q.0, q.1)

-- a and b are the two lowest of the columns before it; of all where there is none.
abbrev pub NextTwo : (ℕ → ℤ) → ℕ → Low → Low → Option ℕ → Type 0
NextTwo f n a b None = Two a b ≡ two_lowest n f
NextTwo f n a b (Some j) = (2 ≤ j) × (j < n) × (Two a b ≡ two_lowest j f) × (lt_z (f j) b.value ≡ true)

-- What was found is the least but that of column i, of the columns before it; of all where there is none.
abbrev pub NextBut : (ℕ → ℤ) → ℕ → ℕ → Option ℤ → Option ℕ → Type 0
NextBut f n i found None = found ≡ least_but n f i
NextBut f n i found (Some j) = (j < n) × (found ≡ least_but j f i)

module _ (f : ℕ → ℤ) (n : ℕ) where
  pub next_two : (a b : Low) (j : ℕ) → 2 ≤ j → j ≤ n → Two a b ≡ two_lowest j f → (r : Option ℕ) → FindsFrom j n (λ k t. t ≡ lt_z (f k) b.value) r
      → NextTwo f n a b r
  next_two a b j h l e None q = two_lowest_pass f a b j n (omega arith) l e (λ k m i. sym (q k i m))
  next_two a b j h l e (Some r) q = (omega (arith, q.0), q.1, two_lowest_pass f a b j r (omega arith) q.0 e (λ k m i. sym (q.3 k i m)), sym q.2)

  pub next_but : (i : ℕ) (found : Option ℤ) (j : ℕ) → j ≤ n → found ≡ least_but j f i → (r : Option ℕ) → NextLeast f found j n r → NextBut f n i found r
  next_but i found j l e None q = least_but_pass f found i j n l e (λ k m h. q k h m)
  next_but i found j l e (Some r) q = (q.1, least_but_pass f found i j r q.0 e (λ k m h. q.2 k h m))
