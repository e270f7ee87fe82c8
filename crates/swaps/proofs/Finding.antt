-- The search: what the walk starts with, and what its end makes of the list. Assumes nothing.
use mathlib.Core.Path.{◌≡◌, refl, sym, ap, ap₂, ◌∙◌, subst}
use mathlib.Core.Bool.{true, false, cond}
use mathlib.Core.List.{List}
use Rattle.std.proofs.Common.{Some}
use Prim.Native.Nat.{ℕ, zero, suc, ◌+◌, ◌-◌, ◌≤◌, ◌<◌}
use native.Mathlib.Nat.{sub-zero}
use native.Mathlib.Omega.{arith}
use lib.Dec.{ltb}
use lib.IntN.{ℤ}
use lib.ListN.{length, set, take, drop, replicate, length-replicate, get_or-replicate}
use lib.Seq.{ext_get_or, length-take-le}
use Rattle.lists.specs.Runs.{turns, left, upward}
use Rattle.lists.specs.Permutations.{at}
use Rattle.lists.proofs.Runs.{upward_cong}
use Rattle.lists.proofs.Parts.{part_at, lent_length}
use Rattle.lists.proofs.Tables.{length-table}
use Rattle.lists.proofs.Leaving.{Either, is_left_lem}
use Rattle.lists.proofs.Injections.{pigeonhole}
use Rattle.assignment.specs.Pairings.{Night, signed_at}
use Rattle.bars.specs.Barred.{night_of}
use Rattle.swaps.specs.Walks.{Walk, Closed, place, on_closed, choice, walk}
use Rattle.swaps.specs.Second.{Answer, only, also, nodes, higher, dearest, way, moved, answer, second}
use Rattle.swaps.specs.Rooms.{Fair, walk_of, move_at}
use Rattle.swaps.specs.Turning.{night, node_count, way_of, CanWalk, WalkedTo}
use Rattle.swaps.specs.Found.{another, written_in, SearchedBy}
use Rattle.swaps.specs.declared.accepted.Accepted.{Accepted}
use Rattle.swaps.proofs.Walks.{IsClosed, path_injective}
use Rattle.swaps.proofs.Turns.{walk_ok}
use Rattle.swaps.proofs.Seconds.{second_only_iff}
use Rattle.swaps.proofs.Stores.{store, stored_length, stored_moved}
use Rattle.swaps.proofs.Lowering.{lowered_start}
use Rattle.swaps.proofs.Choosing.{nodes_columns}

-- The highest price of a used column, as it is found row by row.
pub found-dearest : (night : Night) (vs : List ℤ) (cols : List ℕ) → upward 0 night.row_count (higher vs cols) (signed_at vs (at cols 0)) ≡ dearest night vs cols
unfolding dearest
found-dearest night vs cols = refl

-- Where the walk is left, the answer is the moved pairing.
second_left : (night : Night) (us vs : List ℤ) (cols : List ℕ) (z : Closed) → walk (nodes night) night.column_count (way night us vs cols) ≡ left z
    → second night us vs cols ≡ also (moved night us vs cols z)
unfolding second
second_left night us vs cols z e = ap (answer night us vs cols) e

-- A night without rows has one pairing, the empty one.
pub no_rows : (m n : ℕ) (costs : List ℤ) (bars cols : List ℕ) (us vs : List ℤ) → Fair m n costs bars cols us vs → m ≡ 0
    → second (night_of m n costs bars) us vs cols ≡ only
no_rows m n costs bars cols us vs fair none =
    (second_only_iff (night_of m n costs bars) us vs fair.feasible cols fair.pairing fair.tight fair.spares).1
    (λ other p same. ext_get_or 0 other cols (p.size ∙ sym fair.pairing.size) (λ i l. absurd (omega (arith, p.size))))

-- A run of turns on a part of a list.
upward_shift : {S : Type 0} (a b : ℕ) (f : ℕ → S → S) (s : S) → a ≤ b → upward a b f s ≡ upward 0 (b - a) (λ k. f (a + k)) s
unfolding upward turns
upward_shift a b f s h = ap (λ (k : ℕ). turns a k f s) (sym (sub-zero (b - a))) ∙ by (b - a - 0)
  where
    by : (m : ℕ) → turns a m f s ≡ turns 0 m (λ k. f (a + k)) s
    by zero = refl
    by (suc m) = let e : a + m ≡ a + (0 + m) = omega arith in ap (λ (k : ℕ). f k (turns a m f s)) e ∙ ap (f (a + (0 + m))) (by m)

module _ (a : Accepted) where
  abbrev N : ℕ
  N = node_count a

  pub few : N ≤ a.n
  few = nodes_columns (night a) a.cols.now a.fair.pairing

  -- ---- the start

  -- A front of a list, filled with zeros.
  pub zeros : (count : ℕ) → count ≡ N → (l z : List ℕ) → length l ≡ a.n → z ≡ replicate (length (take (count - 0) l)) 0 → z ≡ replicate N 0
  zeros count e l z size q =
      q ∙ ap (λ (k : ℕ). replicate k 0) (ap (λ (k : ℕ). length (take k l)) (sub-zero count) ∙ length-take-le count l (omega (arith, few)) ∙ e)

  pub can_walk : (path marks choices : List ℕ) → path ≡ replicate N 0 → marks ≡ replicate N 0 → choices ≡ replicate N 0 → (ts : List ℤ)
      → ts ≡ take a.n a.vs.now → CanWalk a path marks choices ts
  can_walk path marks choices p q e ts copied = record {
    at_start = ap₂ (walk_of 0) p q;
    beside = record {
      holds = record {
        choices_size = ap length e ∙ length-replicate {A = ℕ} N 0;
        bounded = λ x l. omega (arith, none x l);
        passed = λ x c l b. absurd (omega (arith, none x l));
        went = λ t l. absurd (omega arith);
      };
      lowered = lowered_start (night a) a.vs.now a.cols.now (walk_of 0 path marks) ts copied a.fair.column_prices;
    };
  }
    where
      none : (x : ℕ) → x < N → at choices x ≡ 0
      none x l = ap (λ (r : List ℕ). at r x) e ∙ get_or-replicate {A = ℕ} N x 0 0 l

  -- ---- the end: all nodes are done

  pub none_found : second (night a) a.us.now a.vs.now a.cols.now ≡ only → (list : List ℕ)
      → SearchedBy a.m a.n a.costs.now a.bars.now a.cols.now a.us.now a.vs.now list false list
  none_found q list = record { told = ap another (sym q); written = ap (λ (r : Answer). written_in r list) (sym q) }

  -- ---- the end: the path has come back

  module _ (from size : ℕ) (path marks choices : List ℕ) (h : WalkedTo a (Some (from, size)) path marks choices) where
    abbrev w : Walk
    w = walk_of size path marks

    abbrev z : Closed
    z = record { from = from; walk = w }

    -- A walk that is left is closed.
    abbrev All : Walk → Type 0
    All v = (x : ℕ) → x < N → Unit {0}

    closed : IsClosed N a.n (way_of a) z
    closed = by (subst (Either {S = Walk} {R = Closed} All (IsClosed N a.n (way_of a))) h.0 (walk_ok N a.n (way_of a) (λ x. Unit {0}) (λ x l g. tt)))
      where
        by : Either {S = Walk} {R = Closed} All (IsClosed N a.n (way_of a)) (left z) → IsClosed N a.n (way_of a) z
        by (is_left_lem c) = c

    pub order : from ≤ size
    order = omega (arith, closed.from_below)

    pub size_below : size ≤ N
    size_below = pigeonhole (path_injective N a.n (way_of a) w closed.sound)

    pub path_below : size ≤ length path
    path_below = omega (arith, size_below, closed.sound.path_size)

    abbrev chosen : ℕ → ℕ
    chosen x = choice N a.n (way_of a) w x

    abbrev front : List ℕ
    front = take (size - from) (drop from path)

    front_size : length front ≡ size - from
    front_size = lent_length (size - from) from size path refl (omega (arith, order, path_below))

    -- The stores are those of the laws,
    same_store : (k : ℕ) (l : List ℕ) → k < size - from → move_at a.m front choices k l ≡ store a.m (place w) chosen (from + k) l
    same_store k l b =
        ap (λ (p : ℕ). cond (ltb p a.m) (set l p (at choices p)) l) (part_at from (size - from) path k 0 b)
        ∙ ap (λ (v : ℕ). cond (ltb (place w (from + k)) a.m) (set l (place w (from + k)) v) l) (h.1 (from + k) (omega arith))

    -- and make the moved pairing.
    stores_moved : upward 0 (length front) (move_at a.m front choices) a.cols.now ≡ moved (night a) a.us.now a.vs.now a.cols.now z
    stores_moved =
        ap (λ (k : ℕ). upward 0 k (move_at a.m front choices) a.cols.now) front_size
        ∙ upward_cong 0 (size - from) (move_at a.m front choices) (λ k. store a.m (place w) chosen (from + k)) a.cols.now (λ k l g b. same_store k l b)
        ∙ sym (upward_shift from size (store a.m (place w) chosen) a.cols.now order)
        ∙ ext_get_or 0 (upward from size (store a.m (place w) chosen) a.cols.now) (moved (night a) a.us.now a.vs.now a.cols.now z)
        (size_kept ∙ sym (length-table a.m (λ i. cond (on_closed z i) (chosen i) (at a.cols.now i))))
        (λ i b. stored_moved (night a) a.us.now a.vs.now a.cols.now z closed (omega (arith, a.fair.pairing.size)) i (omega (arith, size_kept)))
      where
        size_kept : length (upward from size (store a.m (place w) chosen) a.cols.now) ≡ a.m
        size_kept = stored_length (night a) a.us.now a.vs.now a.cols.now z closed (omega (arith, a.fair.pairing.size)) ∙ a.fair.pairing.size

    pub one_found : (list after : List ℕ) → after ≡ upward 0 (length front) (move_at a.m front choices) a.cols.now
        → SearchedBy a.m a.n a.costs.now a.bars.now a.cols.now a.us.now a.vs.now list true after
    one_found list after e = record { told = ap another (sym q); written = e ∙ stores_moved ∙ ap (λ (r : Answer). written_in r list) (sym q) }
      where
        q : second (night a) a.us.now a.vs.now a.cols.now ≡ also (moved (night a) a.us.now a.vs.now a.cols.now z)
        q = second_left (night a) a.us.now a.vs.now a.cols.now z h.0
