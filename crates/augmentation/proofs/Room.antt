-- The lent room, from the parts that it was split into. Assumes nothing.
use mathlib.Core.Path.{◌≡◌, sym, ap, ◌∙◌}
use mathlib.Core.List.{List, ◌++◌}
use Prim.Native.Nat.{ℕ, ◌+◌}
use native.Mathlib.Omega.{arith}
use lib.ListN.{length, take, drop}
use lib.Seq.{take_at, drop_at, drop-drop}
use Rattle.augmentation.specs.Room.{frees_in, marks_in}

module _ (n : ℕ) (room frees list predecessors marks : List ℕ) (sf : length frees ≡ n) (sl : length list ≡ n) (sp : length predecessors ≡ n) where
  -- The list and the predecessors came back, and the free rows and the marks stayed.
  abbrev pub whole : List ℕ
  whole = frees ++ (list ++ (predecessors ++ marks))

  thrice : (r : List ℕ) → drop n (drop n (drop n r)) ≡ drop (n + n + n) r
  thrice r =
      let e : n + (n + n) ≡ n + n + n = omega arith in
      drop-drop n n (drop n r) ∙ drop-drop (n + n) n r ∙ ap (λ (k : ℕ). drop k r) e

  pub frees_stay : frees ≡ take n room → frees_in n (frees ++ (list ++ (predecessors ++ marks))) ≡ frees_in n room
  frees_stay e = take_at frees (list ++ (predecessors ++ marks)) n sf ∙ e

  pub marks_stay : marks ≡ drop n (drop n (drop n room)) → marks_in n (frees ++ (list ++ (predecessors ++ marks))) ≡ marks_in n room
  marks_stay e =
      ap (take n)
      (sym (thrice whole) ∙ ap (λ (r : List ℕ). drop n (drop n r)) (drop_at frees (list ++ (predecessors ++ marks)) n sf)
      ∙ ap (drop n) (drop_at list (predecessors ++ marks) n sl) ∙ drop_at predecessors marks n sp ∙ e ∙ thrice room)
