-- What the editions say, edition by edition. Assumes nothing.
use mathlib.Core.Path.{◌≡◌, refl, sym, ap, ◌∙◌}
use mathlib.Core.Bool.{Bool, true, false, cond, true≢false}
use Prim.Native.Nat.{ℕ, ◌+◌, ◌*◌, ◌≤◌}
use native.Mathlib.Decide.{ℕ_discrete}
use native.Mathlib.Nat.{mul-le-mul}
use native.Mathlib.Omega.{arith}
use borrow.Author.Tests.{eq-eqb, ne_eqb, eqb-true}
use Rattle.layout.specs.Editions.{number, named}
use Rattle.layout.specs.Trailers.{has_row_count}
use Rattle.layout.specs.declared.edition.Edition.{Edition}
use Rattle.layout.specs.declared.edition.Edition.TheVariants.{Square, Barred, Oblong}
use Rattle.layout.specs.Slips.{row_count_length}
use Rattle.matrix.specs.Limits.{K}
use Rattle.sheet.specs.Reading.{has_bars, unknown, distance_due, cost_most}
use Rattle.bars.specs.Tests.{barred_most}
use Rattle.bars.proofs.Passed.{barred_most_small}

-- Of two numbers the one or the other.
either : (B : ℕ → Type 0) (t : Bool) (a b : ℕ) → B a → B b → B (cond t a b)
either B true a b x y = x
either B false a b x y = y

pub cost_most_within : (edition : ℕ) → cost_most edition ≤ K
cost_most_within edition = either (λ (m : ℕ). m ≤ K) (has_bars edition) barred_most K barred_most_small (omega arith)

-- What an edition adds to the costs is short, and so is the whole distance.
pub bars_short_lem : (edition n : ℕ) → cond (has_bars edition) (8 * n) 0 ≤ 8 * n
bars_short_lem edition n = either (λ (k : ℕ). k ≤ 8 * n) (has_bars edition) (8 * n) 0 (omega arith) (omega arith)

pub count-short : (edition : ℕ) → row_count_length edition ≤ 2
count-short edition = either (λ (k : ℕ). k ≤ 2) (has_row_count edition) 2 0 (omega arith) (omega arith)

pub due_short : (edition m n : ℕ) → m ≤ n → n ≤ 64 → distance_due edition m n ≤ 16384 + 514
due_short edition m n f h =
    let fewer : m ≤ 64 = omega (arith, f, h) in
    let few : m * n ≤ 4096 = mul-le-mul fewer h in
    omega (arith, bars_short_lem edition n, count-short edition)

-- No edition has both bars and a row count.
pub barred_uncounted : (edition : ℕ) → has_bars edition ≡ true → has_row_count edition ≡ false
barred_uncounted edition e = ne_eqb edition 3 (λ f. absurd (omega (arith, eqb-true edition 2 e)))

pub counted_unbarred : (edition : ℕ) → has_row_count edition ≡ true → has_bars edition ≡ false
counted_unbarred edition e = ne_eqb edition 2 (λ f. absurd (omega (arith, eqb-true edition 3 e)))

-- The edition with bars, and any other.
pub with_bars : {edition : ℕ} → edition ≡ 2 → has_bars edition ≡ true
with_bars {edition} e = eq-eqb edition 2 e

pub without_bars : {edition : ℕ} → ((edition ≡ 2) → ⊥) → has_bars edition ≡ false
without_bars {edition} h = ne_eqb edition 2 h

-- The edition that a number names has it, where one does; and each is named by its own.
pub named_number : (edition : Edition) → named (number edition) ≡ edition
named_number Square = refl
named_number Barred = refl
named_number Oblong = refl

pub known_number : (edition : Edition) → unknown (number edition) ≡ false
known_number Square = refl
known_number Barred = refl
known_number Oblong = refl

pub number_named : (n : ℕ) → unknown n ≡ false → number (named n) ≡ n
number_named n e = by (ℕ_discrete n 1) (ℕ_discrete n 2) (ℕ_discrete n 3)
  where
    by : Dec (n ≡ 1) → Dec (n ≡ 2) → Dec (n ≡ 3) → number (named n) ≡ n
    by (yes f) two three = ap (λ (k : ℕ). number (named k)) f ∙ sym f
    by (no one) (yes f) three = ap (λ (k : ℕ). number (named k)) f ∙ sym f
    by (no one) (no two) (yes f) = ap (λ (k : ℕ). number (named k)) f ∙ sym f
    by (no one) (no two) (no three) = absurd (true≢false (sym (rw (ne_eqb n 1 one, ne_eqb n 2 two, ne_eqb n 3 three) refl) ∙ e))

pub known_here : (n : ℕ) (edition : Edition) → number edition ≡ n → unknown n ≡ false
known_here n edition e = ap unknown (sym e) ∙ known_number edition

-- No edition has this number.
pub unnamed : (n : ℕ) → ((edition : Edition) → ¬ (number edition ≡ n)) → unknown n ≡ true
unnamed n h = rw (ne_eqb n 1 (λ e. h Square (sym e)), ne_eqb n 2 (λ e. h Barred (sym e)), ne_eqb n 3 (λ e. h Oblong (sym e)))
