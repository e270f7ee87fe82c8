-- The editions by number.
use Rattle.std.specs.Prelude.{◌≡◌, cond, ℕ, eqb, Result, Ok, Err}
use Rattle.layout.specs.declared.edition.Edition.{Edition}
use Rattle.layout.specs.declared.edition.Edition.TheVariants.{Square, Barred, Oblong}
use Rattle.layout.specs.declared.edition.Unknown.{Unknown}

-- The number of an edition.
abbrev pub number : Edition → ℕ
number Square = 1
number Barred = 2
number Oblong = 3

-- The edition with a number; the first where none has it.
abbrev pub named : ℕ → Edition
named n = cond (eqb n 2) Barred (cond (eqb n 3) Oblong Square)

-- What is found of a number: the edition that has it, or that none has.
abbrev pub Numbered : ℕ → Result Edition Unknown → Type 0
Numbered n (Ok edition) = number edition ≡ n
Numbered n (Err _) = (edition : Edition) → ¬ (number edition ≡ n)
