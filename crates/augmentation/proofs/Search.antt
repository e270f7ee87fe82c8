-- The turns of the search's loop: its start, a fresh block, the end of a scan, and how it is left. Assumes nothing.
use mathlib.Core.Path.{◌≡◌, refl, sym, ap, ap₂, ◌∙◌, subst}
use mathlib.Core.List.{List}
use Prim.Native.Nat.{ℕ, zero, suc, ◌+◌, ◌≤◌, ◌<◌}
use native.Mathlib.Omega.{arith}
use lib.IntN.{ℤ}
use lib.ListN.{length}
use Rattle.std.specs.Prelude.{Option, Some, None}
use Rattle.lists.specs.Runs.{Turn, on, left, and_then}
use Rattle.lists.specs.Permutations.{at, Permutation}
use Rattle.assignment.specs.Pairings.{signed_at, square}
use Rattle.rules.specs.Lowest.{reduced, lowest}
use Rattle.rules.specs.Block.{Block, block}
use Rattle.rules.specs.Search.{Work, work_of, Hit, Found, found, scan, last_free, fresh_block, after_scan, after_block, search_block, search_blocks}
use Rattle.rules.proofs.FreeColumns.{Sought, last_free_sought}
use Rattle.rules.proofs.Block.{IsBlock, block_of_minima}
use Rattle.rules.proofs.Search.{Head, to_scan, head_open, search_block_grows_or_ends, start_head}
use Rattle.rules.proofs.Turns.{blocks_first}
use Rattle.rules.proofs.Augment.{floor_under}
use Rattle.augmentation.specs.Search.{CanSearch, Started}
use Rattle.augmentation.proofs.Loops.{one, either_on, Between, InScan, Leaving}
use Rattle.augmentation.proofs.ScanLoop.{scan_over}

module _ (n : ℕ) (costs : List ℤ) (rows : List ℕ) (start : ℕ) (v : List ℤ) where
  abbrev cost : ℕ → ℕ → ℤ
  cost = (square n costs).cost

  abbrev floor : ℤ
  floor = (lowest n (reduced cost (signed_at v) start)).value

  abbrev blocks : ℕ → Work → Turn Work Found
  blocks m w = search_blocks n cost (signed_at v) (at rows) m w

  abbrev rest : ℕ → Work → Turn Work Hit
  rest k w = scan n cost (signed_at v) (at rows) k w

  module _ (C : CanSearch n costs rows start v) where
    -- ---- the start

    pub first-between : (d : List ℤ) (list predecessors : List ℕ) → Started n costs start v d list predecessors
        → Between n costs rows start v d list predecessors d list predecessors 0 0
    first-between d list predecessors S = record {
      fuel = n;
      enough = omega arith;
      head = subst (Head n cost (signed_at v) (at rows) start floor) (sym S.same) (start_head n cost (signed_at v) (at rows) start floor (floor_under n cost (signed_at v) start (one n costs rows start v C)));
      same = refl;
    }

    -- ---- a fresh block

    module _ {d₀ : List ℤ} {list₀ predecessors₀ : List ℕ} {d : List ℤ} {list predecessors : List ℕ} {lo m : ℕ}
        (B : Between n costs rows start v d₀ list₀ predecessors₀ d list predecessors lo m) where
      abbrev w : Work
      w = work_of lo list d predecessors m

      abbrev b : Block
      b = block n d lo list

      pub lo_below : lo < n
      lo_below = head_open n cost (signed_at v) (at rows) start floor C.fair C.has_free.column C.has_free.below C.has_free.free w B.head

      pub listed : Permutation n list
      listed = B.head.sound.permutation

      pub sizes : (length d ≡ n) × (length predecessors ≡ n)
      sizes = (B.head.sound.distances_size, B.head.sound.predecessors_size)

      is_block : IsBlock n d lo list n b
      is_block = block_of_minima n d lo list listed lo_below

      -- One block of the search, and the rest.
      spare : (f : ℕ) → B.fuel ≡ f → (g : ℕ) × (f ≡ suc g)
      spare zero e = absurd (omega (arith, B.enough, lo_below))
      spare (suc g) e = (g, refl)

      fuel_left : ℕ
      fuel_left = (spare B.fuel refl).0

      fuel_enough : {h : ℕ} → lo < h → n ≤ fuel_left + h
      unfolding fuel_left
      fuel_enough l = omega (arith, (spare B.fuel refl).1, B.enough)

      turn : and_then (search_block n cost (signed_at v) (at rows) w) (blocks fuel_left) ≡ blocks n (work_of 0 list₀ d₀ predecessors₀ 0)
      unfolding fuel_left
      turn =
          sym (blocks_first n cost (signed_at v) (at rows) fuel_left w) ∙ ap (λ (f : ℕ). blocks f w) (sym (spare B.fuel refl).1) ∙ B.same

      -- The list came back with its block.
      module _ (list' : List ℕ) (hi : ℕ) (hi_came : hi ≡ (block (length d) d lo list).hi) (list_came : list' ≡ (block (length d) d lo list).list) where
        hi-is : hi ≡ b.hi
        hi-is = rw sizes.0 at hi_came

        list_is : list' ≡ b.list
        list_is = rw sizes.0 at list_came

        pub hi_in : (lo < hi) × (hi ≤ n)
        hi_in = omega (arith, hi-is, is_block.order)

        pub fresh_listed : Permutation n list'
        fresh_listed = subst (Permutation n) (sym list_is) is_block.permutation

        -- The answer of last_free, over the definition's list.
        module _ (o : Option ℕ) (answer : o ≡ last_free n (at rows) list' lo hi) where
          sought : o ≡ last_free n (at rows) b.list lo b.hi
          sought = answer ∙ ap₂ (λ (l : List ℕ) (h : ℕ). last_free n (at rows) l lo h) list_is hi-is

          block_is : search_block n cost (signed_at v) (at rows) w ≡ after_block n cost (signed_at v) (at rows) lo (fresh_block n lo w) o
          block_is = ap (after_block n cost (signed_at v) (at rows) lo (fresh_block n lo w)) (sym sought)

        -- The block has a free column.
        pub leave_fresh : (j : ℕ) → Some j ≡ last_free n (at rows) list' lo hi → Leaving n costs rows start v d₀ list₀ predecessors₀ d list' predecessors lo m j
        leave_fresh j e = record {
          end = b.hi;
          hi = b.hi;
          same =
              sym turn ∙ ap (λ (t : Turn Work Found). and_then t (blocks fuel_left)) (block_is (Some j) e)
              ∙ ap (λ (l : List ℕ). left (found lo (record { lo = lo; hi = b.hi }) j (work_of b.hi l d predecessors m))) (sym list_is);
        }

        -- No column of the block is free.
        module _ (none : None ≡ last_free n (at rows) list' lo hi) where
          all_taken : (t : ℕ) → lo ≤ t → t < b.hi → at rows (at b.list t) < n
          all_taken = subst (Sought n (at rows) b.list lo b.hi) (sym (sought None none)) (last_free_sought n (at rows) b.list lo b.hi (omega (arith, is_block.order)))

          -- The scan's work is the fresh block's.
          work_is : work_of hi list' d predecessors m ≡ fresh_block n lo w
          work_is = rw (hi-is, list_is)

          -- The scan begins.
          pub first_scan : InScan n costs rows start v d list' predecessors lo hi m d list' predecessors lo hi m
          first_scan = record {
            minimum = b.minimum;
            place = omega (arith, hi_in);
            counted = rw work_is (to_scan n cost (signed_at v) (at rows) start floor w B.head lo_below all_taken);
            same = refl;
          }

          -- A scan that comes to t takes the search's block to what follows it.
          scan_to : (t : Turn Work Hit) → rest lo (work_of hi list' d predecessors m) ≡ t → search_block n cost (signed_at v) (at rows) w ≡ after_scan lo b.hi t
          scan_to t e = block_is None none ∙ ap (after_scan lo b.hi) (ap (rest lo) (sym work_is) ∙ e)

          -- The block was scanned to its end: the next one starts there.
          pub next_between : {d'' : List ℤ} {list'' predecessors'' : List ℕ} {lo'' hi'' m'' : ℕ}
              → InScan n costs rows start v d list' predecessors lo hi m d'' list'' predecessors'' lo'' hi'' m'' → lo'' ≡ hi''
              → Between n costs rows start v d₀ list₀ predecessors₀ d'' list'' predecessors'' hi'' m'' × (lo < hi'')
          next_between {d''} {list''} {predecessors''} {lo''} {hi''} {m''} M e =
              let x : Work = work_of hi'' list'' d'' predecessors'' m'' in
              let t : search_block n cost (signed_at v) (at rows) w ≡ on x = scan_to (on x) (scan_over n costs rows start v C M e) in
              let H = either_on (rw t at (search_block_grows_or_ends n cost (signed_at v) (at rows) start floor C.fair C.has_free.column C.has_free.below C.has_free.free w B.head)) in (
                record {
                  fuel = fuel_left;
                  enough = fuel_enough H.1;
                  head = H.0;
                  same = ap (λ (y : Turn Work Found). and_then y (blocks fuel_left)) (sym t) ∙ turn;
                },
                H.1,
              )

          -- The scan was left at a free column.
          pub leave_scan : {d'' : List ℤ} {list'' predecessors'' : List ℕ} (e j m'' : ℕ)
              → rest lo (work_of hi list' d predecessors m) ≡ left (record { column = j; work = work_of e list'' d'' predecessors'' m'' })
              → Leaving n costs rows start v d₀ list₀ predecessors₀ d'' list'' predecessors'' lo m'' j
          leave_scan {d''} {list''} {predecessors''} e j m'' q = record {
            end = b.hi;
            hi = e;
            same =
                sym turn
                ∙ ap (λ (t : Turn Work Found). and_then t (blocks fuel_left)) (scan_to (left (record { column = j; work = work_of e list'' d'' predecessors'' m'' })) q);
          }
