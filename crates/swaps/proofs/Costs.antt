-- Costs at allowed places are all that counts: nights that differ only in what a place costs that is not allowed have the same second pairing, and
-- the same prices show a pairing to be least. Assumes nothing.
use mathlib.Core.Path.{◌≡◌, refl, sym, ap, ◌∙◌, fun_ext}
use mathlib.Core.Bool.{Bool, true, false, cond, not, ◌&&◌}
use mathlib.Core.List.{List}
use Prim.Native.Nat.{ℕ, ◌+◌, ◌<◌}
use native.Mathlib.Decide.{dec_lt}
use native.Mathlib.Omega.{arith}
use lib.Dec.{ltb, eqb}
use lib.IntN.{ℤ}
use lib.Signed.{le_z}
use lib.ListN.{take}
use borrow.Author.Tests.{le-ltb}
use Rattle.lists.specs.Runs.{Turn, on, left, until}
use Rattle.lists.specs.Permutations.{at}
use Rattle.lists.proofs.Tables.{table_cong}
use Rattle.matrix.proofs.First.{first_cong}
use Rattle.assignment.specs.Pairings.{Night, Pairing}
use Rattle.assignment.specs.Amounts.{with_costs}
use Rattle.assignment.specs.Prices.{priced}
use Rattle.assignment.proofs.Amounts.{pairing_same}
use Rattle.assignment.proofs.Longer.{at_first}
use Rattle.checker.specs.Proven.{Shown}
use Rattle.swaps.specs.Walks.{Walk, Closed, last, on_closed, unseen, live, begin, go_to, finish, choice, go_from, turn, walk}
use Rattle.swaps.specs.Second.{also, nodes, behind, dearest, fits, spare_way, way, answer, second}

-- A test that is asked only where another has passed.
and_same : (t a b rest : Bool) → (t ≡ true → a ≡ b) → (t && a && rest) ≡ (t && b && rest)
and_same true a b rest e = ap (λ (x : Bool). x && rest) (e refl)
and_same false a b rest e = refl

-- Two walks whose choices lead to the same nodes.
module _ (count width : ℕ) (f g : ℕ → ℕ → ℕ) (same : (x c : ℕ) → c < width → f x c ≡ g x c) where
  choice_same : (w : Walk) (x : ℕ) → choice count width f w x ≡ choice count width g w x
  choice_same w x = first_cong width (λ c. live count w (f x c)) (λ c. live count w (g x c)) (λ c l. ap (live count w) (same x c l))

  from_same : (x : ℕ) (w : Walk) → go_from count width f x w ≡ go_from count width g x w
  from_same x w = ap (λ (c : ℕ). cond (ltb c width) (go_to (f x c) w) (on (finish x w))) (choice_same w x) ∙ by (choice count width g w x) (dec_lt (choice count width g w x) width)
    where
      by : (c : ℕ) → Dec (c < width) → cond (ltb c width) (go_to (f x c) w) (on (finish x w)) ≡ cond (ltb c width) (go_to (g x c) w) (on (finish x w))
      by c (yes l) = ap (λ (y : ℕ). cond (ltb c width) (go_to y w) (on (finish x w))) (same x c l)
      by c (no l) = rw (le-ltb c width (omega arith))

  turn_same : (w : Walk) → turn count width f w ≡ turn count width g w
  turn_same w = ap (cond (eqb w.size 0) (on (begin count w))) (from_same (last w) w)

  walk_same : walk count width f ≡ walk count width g
  unfolding walk
  walk_same = ap (λ (t : Walk → Turn Walk Closed). until 0 (count + count) (λ k w. t w) (unseen count)) (fun_ext turn_same)

module _ (night : Night) (cost : ℕ → ℕ → ℤ)
    (same : (i j : ℕ) → i < night.row_count → j < night.column_count → night.allowed i j ≡ true → cost i j ≡ night.cost i j) (us vs : List ℤ) (cols : List ℕ) where
  abbrev m : ℕ
  m = night.row_count

  abbrev n : ℕ
  n = night.column_count

  abbrev other : Night
  other = with_costs night cost

  fits_same : (i j : ℕ) → i < m → j < n → fits other us vs cols i j ≡ fits night us vs cols i j
  unfolding dearest
  fits_same i j h l = and_same (night.allowed i j) _ _ _ (λ a. ap (λ (z : ℤ). le_z z (priced us vs i j)) (same i j h l a))

  way_same : (x c : ℕ) → c < n → way other us vs cols x c ≡ way night us vs cols x c
  unfolding dearest
  way_same x c l = by (dec_lt x m)
    where
      by : Dec (x < m) → way other us vs cols x c ≡ way night us vs cols x c
      by (yes h) = ap (λ (t : Bool). cond (ltb x m) (cond (not (eqb (behind night cols c) x) && t) (behind night cols c) (nodes night)) (spare_way night us vs cols c)) (fits_same x c h l)
      by (no h) = rw (le-ltb x m (omega arith))

  pub second_same : second other us vs cols ≡ second night us vs cols
  unfolding second
  second_same =
      by (walk (nodes night) n (way other us vs cols))
      ∙ ap (answer night us vs cols) (walk_same (nodes night) n (way other us vs cols) (way night us vs cols) way_same)
    where
      by : (t : Turn Walk Closed) → answer other us vs cols t ≡ answer night us vs cols t
      by (on w) = refl
      by (left z) =
          ap also
          (table_cong m (λ i. cond (on_closed z i) (choice (nodes night) n (way other us vs cols) z.walk i) (at cols i))
          (λ i. cond (on_closed z i) (choice (nodes night) n (way night us vs cols) z.walk i) (at cols i))
          (λ i l. ap (λ (c : ℕ). cond (on_closed z i) c (at cols i)) (choice_same (nodes night) n (way other us vs cols) (way night us vs cols) way_same z.walk i)))

  pub shown_same : Shown night cols us vs → Shown other cols us vs
  shown_same s =
      let p = s.pairing in
      record {
        pairing = (pairing_same night cost (take m cols)).0 p;
        feasible = record { under = λ i j h l a. rw (same i j h l a) (s.feasible.under i j h l a) };
        tight = record { met = λ i h. s.tight.met i h ∙ sym (at_pair p i h) };
        spares = record { not_below = s.spares.not_below };
      }
    where
      at_pair : Pairing night (take m cols) → (i : ℕ) → i < m → cost i (at cols i) ≡ night.cost i (at cols i)
      at_pair p i h =
          let e = at_first night cols i h in
          same i (at cols i) h (rw e at (p.inside i h)) (rw e at (p.permitted i h))
