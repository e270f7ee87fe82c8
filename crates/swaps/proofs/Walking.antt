-- The walk, turn by turn, comes to the definition's end. Assumes nothing.
use mathlib.Core.Path.{◌≡◌, sym, ap, ◌∙◌}
use mathlib.Core.List.{List}
use Prim.Native.Nat.{ℕ, suc, ◌+◌, ◌≤◌}
use native.Mathlib.Omega.{arith}
use lib.ListN.{length, length-replicate}
use Rattle.lists.specs.Runs.{Turn, on, left, and_then, until}
use Rattle.lists.proofs.Runs.{until_none, until-last}
use Rattle.lists.proofs.Leaving.{until-longer}
use Rattle.swaps.specs.Walks.{Walk, Closed, unseen, turn, walk}
use Rattle.swaps.specs.Second.{only, answer, second}
use Rattle.swaps.specs.Rooms.{walk_of}
use Rattle.swaps.specs.Turning.{night, node_count, way_of}
use Rattle.swaps.specs.declared.accepted.Accepted.{Accepted}

module _ (a : Accepted) where
  abbrev N : ℕ
  N = node_count a

  abbrev turn_in : ℕ → Walk → Turn Walk Closed
  turn_in k = turn N a.n (way_of a)

  -- As many marks as nodes.
  pub marks_counted : (path marks : List ℕ) → walk_of 0 path marks ≡ unseen N → length marks ≡ N
  marks_counted path marks e = ap (λ (w : Walk). length w.marks) e ∙ length-replicate {A = ℕ} N 0

  -- How the first k turns end.
  abbrev pub after : ℕ → Turn Walk Closed
  after k = until 0 k turn_in (unseen N)

  pub none_made : after 0 ≡ on (unseen N)
  none_made = until_none 0 0 turn_in (unseen N) (omega arith)

  pub one_more : (k : ℕ) (w : Walk) (t : Turn Walk Closed) → after k ≡ on w → t ≡ turn N a.n (way_of a) w → after (k + 1) ≡ t
  one_more k w t e d =
      let q : k + 1 ≡ suc k = omega arith in
      ap after q ∙ until-last 0 k turn_in (unseen N) (omega arith) ∙ ap (λ (x : Turn Walk Closed). and_then x (turn N a.n (way_of a))) e ∙ sym d

  -- All turns are made: all nodes are done.
  pub all_made : (w : Walk) (k : ℕ) → k ≡ N + N → after k ≡ on w → second (night a) a.us.now a.vs.now a.cols.now ≡ only
  unfolding second walk
  all_made w k q e = ap (answer (night a) a.us.now a.vs.now a.cols.now) (sym (ap after q) ∙ e)

  -- A turn has left.
  pub has_left : (z : Closed) (k : ℕ) → k ≤ N + N → after k ≡ left z → walk N a.n (way_of a) ≡ left z
  unfolding walk
  has_left z k h e = until-longer 0 k turn_in (unseen N) z (omega arith) e (N + N) h
