-- `pair` answers the refusal, or writes the slip of what is settled. Assumes nothing.
use mathlib.Core.Path.{◌≡◌, sym, ap, ap₂, ◌∙◌}
use mathlib.Core.List.{List}
use Prim.Native.Nat.{ℕ}
use native.Mathlib.Omega.{arith}
use lib.ListN.{length}
use mir.Syntax.{w8}
use mir.Val.{Fits}
use Rattle.std.specs.Prelude.{Err}
use Rattle.lists.specs.Permutations.{at}
use Rattle.layout.specs.Values.{bytes_of}
use Rattle.layout.proofs.Values.{length-bytes_of}
use Rattle.layout.proofs.Stores.{sets_front}
use Rattle.sheet.specs.declared.Unpaired.{Unpaired}
use Rattle.sheet.specs.Reading.{Read, read}
use Rattle.sheet.specs.Settle.{Outcome, settled_as, settled, pair}
use Rattle.sheet.specs.Values.{settled_values}
use Rattle.sheet.proofs.Determined.{settled_values_determine}
use Rattle.sheet.proofs.Pairing.{Bytes, read_right, refused-outcome, blocked_outcome, paired-outcome}
use Rattle.sheet.proofs.pair.Goals as goal

-- the sheet as it was read
abbrev reading : List ℕ → List ℕ → Read
reading sheet slip = read (length slip) sheet

as_read : (sheet slip : List ℕ) {o settles : Outcome} → settled_values o ≡ settled_values (settled (length slip) sheet) → o ≡ settles → settled_as (reading sheet slip) ≡ settles
unfolding settled
as_read sheet slip e f = sym (settled_values_determine _ _ e) ∙ f

-- its entries are bytes
bytes : (sheet : List ℕ) → ((k : ℕ) → Fits w8 (at sheet k)) → Bytes sheet
bytes sheet fits k l = omega (arith, fits k)

pub write-requires : goal.write-requires
write-requires c =
    let sheet = c.args.sheet.now in
    let slip = c.args.slip.now in
    let o = paired-outcome slip sheet (reading sheet slip) (read_right (length slip) sheet) c.in-Ok.settled (as_read sheet slip c.settle.ensures c.in-Ok.is) in
    (o.0, o.1, o.2)

pub code-requires : goal.code-requires
code-requires c =
    let sheet = c.args.sheet.now in
    let slip = c.args.slip.now in
    let r = c.in-Err-Refused in
    (refused-outcome slip sheet (bytes sheet c.type_inv.sheet) (reading sheet slip) (read_right (length slip) sheet) r.refusal (as_read sheet slip c.settle.ensures (r.is ∙ ap (λ (u : Unpaired). Err u) r.field-0-is))).0

pub write_value-requires : goal.write_value-requires
write_value-requires c =
    let sheet = c.args.sheet.now in
    let slip = c.args.slip.now in
    let b = c.in-Err-Blocked in
    (blocked_outcome slip sheet (reading sheet slip) (read_right (length slip) sheet) b.rows (as_read sheet slip c.settle.ensures (b.is ∙ ap (λ (u : Unpaired). Err u) b.field-0-is))).0

pub returns-in-Ok : goal.returns-in-Ok
unfolding pair
returns-in-Ok c =
    let sheet = c.args.sheet.now in
    let slip = c.args.slip.now in
    ap (λ (l : List ℕ). record { number = 0; slip = l }) c.write.ensures
    ∙ (paired-outcome slip sheet (reading sheet slip) (read_right (length slip) sheet) c.in-Ok.settled (as_read sheet slip c.settle.ensures c.in-Ok.is)).3

pub returns-in-Err-Refused : goal.returns-in-Err-Refused
unfolding pair
returns-in-Err-Refused c =
    let sheet = c.args.sheet.now in
    let slip = c.args.slip.now in
    let r = c.in-Err-Refused in
    ap (λ (k : ℕ). record { number = k; slip = slip }) c.code.ensures
    ∙ (refused-outcome slip sheet (bytes sheet c.type_inv.sheet) (reading sheet slip) (read_right (length slip) sheet) r.refusal (as_read sheet slip c.settle.ensures (r.is ∙ ap (λ (u : Unpaired). Err u) r.field-0-is))).1

pub returns-in-Err-Blocked : goal.returns-in-Err-Blocked
unfolding pair
returns-in-Err-Blocked c =
    let sheet = c.args.sheet.now in
    let slip = c.args.slip.now in
    let b = c.in-Err-Blocked in
    let o = blocked_outcome slip sheet (reading sheet slip) (read_right (length slip) sheet) b.rows (as_read sheet slip c.settle.ensures (b.is ∙ ap (λ (u : Unpaired). Err u) b.field-0-is)) in
    ap₂ (λ (k : ℕ) (l : List ℕ). record { number = k; slip = l }) c.number.ensures (c.write_value.ensures ∙ sets_front (bytes_of 8 b.rows) slip 8 (length-bytes_of 8 b.rows) o.0)
    ∙ o.1
