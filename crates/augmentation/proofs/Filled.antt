-- A list whose entries are known is a table. Assumes nothing.
use mathlib.Core.Path.{◌≡◌, sym, ◌∙◌}
use mathlib.Core.List.{List}
use Prim.Native.Nat.{ℕ, ◌<◌}
use native.Mathlib.Omega.{arith}
use lib.ListN.{length, get_or}
use lib.Seq.{ext_get_or}
use Rattle.lists.specs.Permutations.{table}
use Rattle.lists.proofs.Tables.{length-table, get_d_table}

pub is_table : {A : Type 0} (l : List A) (n : ℕ) (f : ℕ → A) (d : A) → length l ≡ n → ((k : ℕ) → k < n → get_or l k d ≡ f k) → l ≡ table n f
is_table l n f d e same =
    ext_get_or d l (table n f) (e ∙ sym (length-table n f))
    (λ k h. let b : k < n = omega (arith, e) in same k b ∙ sym (get_d_table n f d k b))
