-- From what is settled of a sheet to its lines: a refusal's line, 20's, or those of the state in which the night ended. Assumes nothing.
use mathlib.Core.Path.{◌≡◌, refl, ap, subst}
use mathlib.Core.Bool.{Bool, true, false, cond}
use mathlib.Core.List.{List}
use Prim.Native.Nat.{ℕ}
use borrow.Author.Tests.{ltb-false}
use lib.Dec.{ltb}
use Rattle.std.specs.Prelude.{Ok, Err}
use Rattle.matrix.specs.declared.refusals.Refusal.{Refusal}
use Rattle.sheet.specs.declared.Settled.{Settled}
use Rattle.sheet.specs.declared.Unpaired.TheVariants.{Refused, Blocked}
use Rattle.sheet.specs.Reading.{Laid, Read, refused, night, read}
use Rattle.sheet.specs.Settle.{barred_row, blocked_with, accepted_with, settled_as}
use Rattle.lines.specs.Lines.{refused_line, no_pairing, night_lines, lines_as}
use Rattle.lines.specs.Asked.{settled_lines, Ready}
use Rattle.lines.proofs.Ended.{done, ended_ready, ended_lines}

-- A night ends in no other refusal.
night_refused : (laid : Laid) (t : Bool) (refusal : Refusal) → cond t (blocked_with laid) (accepted_with laid) ≡ Err (Refused refusal) → ⊥
night_refused laid true refusal v = cc
night_refused laid false refusal v = cc

pub refused_lines : (x : Read) (refusal : Refusal) → settled_as x ≡ Err (Refused refusal) → refused_line refusal ≡ lines_as x
refused_lines (refused given) refusal v = let same : refusal ≡ given = cc in ap refused_line same
refused_lines (night laid) refusal v = absurd (night_refused laid (ltb (barred_row laid) laid.side) refusal v)

blocked_by : (laid : Laid) (t : Bool) (rows : ℕ) → cond t (blocked_with laid) (accepted_with laid) ≡ Err (Blocked rows) → refused_line no_pairing ≡ cond t (refused_line no_pairing) (night_lines laid)
blocked_by laid true rows v = refl
blocked_by laid false rows v = absurd cc

pub blocked_lines : (x : Read) (rows : ℕ) → settled_as x ≡ Err (Blocked rows) → refused_line no_pairing ≡ lines_as x
blocked_lines (refused given) rows v = absurd cc
blocked_lines (night laid) rows v = blocked_by laid (ltb (barred_row laid) laid.side) rows v

-- What `put_night` is asked with, and what it then writes.
abbrev pub Written : Settled → List ℕ → Type 0
Written s lines = Ready s × (settled_lines s ≡ lines)

ready_by : (room : ℕ) (sheet : List ℕ) (laid : Laid) → read room sheet ≡ night laid → (t : Bool) → ltb (barred_row laid) laid.side ≡ t → (s : Settled) → cond t (blocked_with laid) (accepted_with laid) ≡ Ok s
    → Written s (cond t (refused_line no_pairing) (night_lines laid))
ready_by room sheet laid q true b s v = absurd cc
ready_by room sheet laid q false b s v =
    let free = ltb-false (barred_row laid) laid.side b in
    let same : done sheet room laid q free ≡ s = cc in
    subst (λ (z : Settled). Written z (night_lines laid)) same (ended_ready sheet room laid q free, ended_lines sheet room laid q free)

pub night_written : (room : ℕ) (sheet : List ℕ) (x : Read) → read room sheet ≡ x → (s : Settled) → settled_as x ≡ Ok s → Written s (lines_as x)
night_written room sheet (refused given) q s v = absurd cc
night_written room sheet (night laid) q s v = ready_by room sheet laid q (ltb (barred_row laid) laid.side) refl s v
