-- How long a sheet and its note may be: all that proofs need of it. Assumes nothing.
use Prim.Native.Nat.{◌+◌, ◌^◌, ◌≤◌}
use native.Mathlib.Omega.{arith}
use Rattle.sheet.specs.Reading.{sheet_most, note_most}

-- A place on a sheet is told by few bytes.
pub sheet_most_small : sheet_most ≤ 2 ^ 16
unfolding sheet_most
sheet_most_small = omega arith

-- A sheet has room for the longest note, and for the costs and what an edition adds at the largest side.
pub sheet_most_large : note_most + 16384 + 514 + 12 ≤ sheet_most
unfolding sheet_most note_most
sheet_most_large = omega arith
