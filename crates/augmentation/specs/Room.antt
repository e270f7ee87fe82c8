-- The lent room of 4n indices: free rows at 0, the column list at n, the predecessors at n + n, the marks at n + n + n.
use Rattle.std.specs.Prelude.{List, ℕ, ◌+◌}
use Rattle.lists.specs.Parts.{part}

-- The free rows of a room.
abbrev pub frees_in : ℕ → List ℕ → List ℕ
frees_in n room = part 0 n room

-- The marks of a room.
abbrev pub marks_in : ℕ → List ℕ → List ℕ
marks_in n room = part (n + n + n) n room
