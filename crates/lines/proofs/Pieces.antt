-- A text to which pieces are added, one after another: the laws of its loops. Assumes nothing.
use mathlib.Core.Path.{◌≡◌, refl, sym, ap, ◌∙◌}
use mathlib.Core.Bool.{Bool, true, false, cond}
use mathlib.Core.List.{List, [], ◌++◌, append_assoc, append-nil}
use Prim.Native.Nat.{ℕ, ◌+◌, ◌*◌}
use native.Mathlib.Numerals.{add-one}
use lib.IntN.{ℤ}
use Rattle.lists.specs.Permutations.{at}
use Rattle.assignment.specs.Pairings.{signed_at}
use Rattle.lines.specs.Decimal.{decimal}
use Rattle.lines.specs.Lines.{blank, row_line, row_lines, used, spare_at, spare_line, spare_lines, columns_text}

-- Two pieces are one.
pub joined : (old a b : List ℕ) {text new : List ℕ} → text ≡ old ++ a → new ≡ text ++ b → new ≡ old ++ (a ++ b)
joined old a b e f = f ∙ ap (λ (l : List ℕ). l ++ b) e ∙ append_assoc old a b

nothing : (old : List ℕ) {a : List ℕ} → a ≡ [] → old ≡ old ++ a
nothing old e = sym (append-nil old) ∙ ap (λ (l : List ℕ). old ++ l) (sym e)

-- The lines of rows.
pub rows_start : (old : List ℕ) (n : ℕ) (costs : List ℤ) (cols : List ℕ) → old ≡ old ++ row_lines n costs cols 0
unfolding row_lines
rows_start old n costs cols = nothing old refl

pub rows_more : (old : List ℕ) (n : ℕ) (costs : List ℤ) (cols : List ℕ) (k : ℕ) {text new : List ℕ} → text ≡ old ++ row_lines n costs cols k
    → new ≡ text ++ row_line k (at cols k) (signed_at costs (k * n + at cols k)) → new ≡ old ++ row_lines n costs cols (k + 1)
unfolding row_lines
rows_more old n costs cols k e f = rw add-one (joined old (row_lines n costs cols k) _ e f)

-- Those of spare columns.
pub spares_begin : (old : List ℕ) (m : ℕ) (cols : List ℕ) → old ≡ old ++ spare_lines m cols 0
unfolding spare_lines
spares_begin old m cols = nothing old refl

pub spares_next : (old : List ℕ) (m : ℕ) (cols : List ℕ) (k : ℕ) {text new : List ℕ} → text ≡ old ++ spare_lines m cols k → new ≡ text ++ spare_at m cols k
    → new ≡ old ++ spare_lines m cols (k + 1)
unfolding spare_lines
spares_next old m cols k e f = rw add-one (joined old (spare_lines m cols k) (spare_at m cols k) e f)

-- A column's line, if it has one.
pub spare_there : (m : ℕ) (cols : List ℕ) (k : ℕ) (text : List ℕ) {new : List ℕ} → used m cols k ≡ false → new ≡ text ++ spare_line k → new ≡ text ++ spare_at m cols k
spare_there m cols k text e f = rw e f

pub spare_absent : (m : ℕ) (cols : List ℕ) (k : ℕ) (text : List ℕ) → used m cols k ≡ true → text ≡ text ++ spare_at m cols k
spare_absent m cols k text e = nothing text (ap (λ (t : Bool). cond t [] (spare_line k)) e)

-- Columns.
pub columns_start : (old cols : List ℕ) → old ≡ old ++ columns_text cols 0
unfolding columns_text
columns_start old cols = nothing old refl

pub columns_more : (old cols : List ℕ) (k : ℕ) {text with new : List ℕ} → text ≡ old ++ columns_text cols k → with ≡ text ++ blank → new ≡ with ++ decimal (at cols k)
    → new ≡ old ++ columns_text cols (k + 1)
unfolding columns_text
columns_more old cols k {text} e f g = rw add-one (joined old (columns_text cols k) (blank ++ decimal (at cols k)) e (joined text blank (decimal (at cols k)) f g))
