-- What a function that writes at a position leaves and answers.
use Rattle.std.specs.Prelude.{◌≡◌, List, ℕ, ◌+◌, length}
use lib.Seq.{sets}

-- The bytes stand in the room from `place` on, all else is as it was, and `next` is the place past them.
pub record Put (before : List ℕ) (place : ℕ) (bytes after : List ℕ) (next : ℕ) : Type 0 where
  pub stored : after ≡ sets before place bytes
  pub past : next ≡ place + length bytes
