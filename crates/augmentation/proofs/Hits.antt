-- A direct hit, over plain variables: the least value as a loop finds it, the last place of a test as a loop finds it from the end, and what code
-- reads of a reduced cost. Assumes nothing.
use mathlib.Core.Path.{◌≡◌, refl, ap, ◌∙◌}
use mathlib.Core.Bool.{Bool, true, false, cond}
use Prim.Native.Nat.{ℕ, ◌+◌, ◌≤◌}
use native.Mathlib.Numerals.{add-one}
use native.Mathlib.Omega.{arith}
use lib.IntN.{ℤ}
use lib.Signed.{lt_z, ◌≤ℤ◌}
use Rattle.ints.proofs.Ranges.{zarith}
use Rattle.lists.proofs.Runs.{upward_none, upward-last}
use Rattle.lists.proofs.Cases.{cond_cases}
use Rattle.rules.specs.declared.Low.{Low}
use Rattle.rules.specs.Lowest.{low, lower, lowest}
use Rattle.augmentation.specs.DirectHit.{lesser, least_of_four}

-- ---- the least value

lesser-first : (a h : ℤ) → lesser a h ≤ℤ a
lesser-first a h = cond_cases (lt_z h a) (λ z. z ≤ℤ a) h a (λ t. omega zarith) (λ t. omega zarith)

lesser_second : (a h : ℤ) → lesser a h ≤ℤ h
lesser_second a h = cond_cases (lt_z h a) (λ z. z ≤ℤ h) h a (λ t. omega zarith) (λ t. omega zarith)

lesser_greatest : (z a h : ℤ) → z ≤ℤ a → z ≤ℤ h → z ≤ℤ lesser a h
lesser_greatest z a h p q = cond_cases (lt_z h a) (λ y. z ≤ℤ y) h a (λ t. q) (λ t. p)

lesser_assoc : (a b c : ℤ) → lesser (lesser a b) c ≡ lesser a (lesser b c)
lesser_assoc a b c =
    let l = lesser (lesser a b) c in
    let r = lesser a (lesser b c) in
    let x : l ≤ℤ r = lesser_greatest l a (lesser b c) (omega (zarith, lesser-first (lesser a b) c, lesser-first a b))
    (lesser_greatest l b c (omega (zarith, lesser-first (lesser a b) c, lesser_second a b)) (lesser_second (lesser a b) c)) in
    let y : r ≤ℤ l = lesser_greatest r (lesser a b) c (lesser_greatest r a b (lesser-first a (lesser b c)) (omega (zarith, lesser_second a (lesser b c), lesser-first b c)))
    (omega (zarith, lesser_second a (lesser b c), lesser_second b c)) in
    omega (zarith, x, y)

module _ (f : ℕ → ℤ) where
  pub least_first : (lowest 1 f).value ≡ f 0
  unfolding lowest
  least_first = ap (λ (a : Low). a.value) (upward_none 1 1 (λ i found. lower found (low (f i) i)) (low (f 0) 0) (omega arith))

  value_of : (t : Bool) (h a : Low) → (cond t h a).value ≡ cond t h.value a.value
  value_of true h a = refl
  value_of false h a = refl

  pub least_more : (j : ℕ) → 1 ≤ j → (lowest (j + 1) f).value ≡ lesser (lowest j f).value (f j)
  unfolding lowest
  least_more j l =
      ap (λ (m : ℕ). (lowest m f).value) (add-one j)
      ∙ ap (λ (a : Low). a.value) (upward-last 1 j (λ i found. lower found (low (f i) i)) (low (f 0) 0) l)
      ∙ value_of (lt_z (f j) (lowest j f).value) (low (f j) j) (lowest j f)

  -- Four values at once.
  pub least_four_more : (j : ℕ) → 1 ≤ j → (lowest (j + 4) f).value ≡ lesser (lowest j f).value (least_of_four f j)
  least_four_more j l =
      let m = (lowest j f).value in
      let a = f j in
      let b = f (j + 1) in
      let c = f (j + 2) in
      let d = f (j + 3) in
      let s2 : j + 2 ≡ j + 1 + 1 = omega arith in
      let s3 : j + 3 ≡ j + 2 + 1 = omega arith in
      let s4 : j + 4 ≡ j + 3 + 1 = omega arith in
      let e2 : (lowest (j + 2) f).value ≡ lesser (lesser m a) b =
      ap (λ (k : ℕ). (lowest k f).value) s2 ∙ least_more (j + 1) (omega arith) ∙ ap (λ (z : ℤ). lesser z b) (least_more j l) in
      let e3 : (lowest (j + 3) f).value ≡ lesser (lesser (lesser m a) b) c =
      ap (λ (k : ℕ). (lowest k f).value) s3 ∙ least_more (j + 2) (omega arith) ∙ ap (λ (z : ℤ). lesser z c) e2 in
      let e4 : (lowest (j + 4) f).value ≡ lesser (lesser (lesser (lesser m a) b) c) d =
      ap (λ (k : ℕ). (lowest k f).value) s4 ∙ least_more (j + 3) (omega arith) ∙ ap (λ (z : ℤ). lesser z d) e3 in
      e4 ∙ lesser_assoc (lesser (lesser m a) b) c d ∙ ap (λ (z : ℤ). lesser z (lesser c d)) (lesser_assoc m a b) ∙ lesser_assoc m (lesser a b) (lesser c d)
