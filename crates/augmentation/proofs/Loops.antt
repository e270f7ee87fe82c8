-- The search's two loops, over plain variables: what each knows at its head, and what is known where the search is left. Assumes nothing.
use mathlib.Core.Path.{◌≡◌, refl, sym, ap, ap₂}
use mathlib.Core.List.{List}
use Prim.Native.Nat.{ℕ, ◌+◌, ◌*◌, ◌≤◌}
use native.Mathlib.Omega.{arith}
use lib.IntN.{ℤ}
use lib.ListN.{length}
use Rattle.ints.specs.Parts.{Within}
use Rattle.lists.specs.Runs.{Turn, on, left}
use Rattle.lists.specs.Permutations.{at}
use Rattle.lists.proofs.Leaving.{Either, goes_on}
use Rattle.assignment.specs.Pairings.{signed_at, square}
use Rattle.matrix.specs.Limits.{near}
use Rattle.rules.specs.Lowest.{reduced, lowest}
use Rattle.rules.specs.Search.{Work, work_of, Hit, Found, scan, found, search_blocks}
use Rattle.rules.proofs.Scan.{Sound}
use Rattle.rules.proofs.Scans.{Counted}
use Rattle.rules.proofs.Search.{Head}
use Rattle.rules.proofs.Sizes.{within_everywhere}
use Rattle.rules.proofs.Augment.{distances_within}
use Rattle.std.specs.declared.ops.ControlFlow.{ControlFlow}
use Rattle.std.specs.declared.ops.ControlFlow.TheVariants.{Continue, Break}
use Rattle.augmentation.specs.Scan.{Seen, seen_in, seen}
use Rattle.augmentation.specs.Search.{CanSearch, Started}

-- ---- what one row leaves, taken apart

as_work : (w : Work) {hi : ℕ} {list : List ℕ} {distances : List ℤ} {predecessors : List ℕ} {scanned : ℕ} → hi ≡ w.hi → list ≡ w.list → distances ≡ w.distances
    → predecessors ≡ w.predecessors → scanned ≡ w.scanned → w ≡ work_of hi list distances predecessors scanned
as_work w a b c d e = rw (a, b, c, d, e)

same_on : (e h : ℕ) → ◌≡◌ {A = ControlFlow ℕ ℕ} (Continue e) (Continue h) → e ≡ h
same_on e h q = cc

same_hit : (j h : ℕ) → ◌≡◌ {A = ControlFlow ℕ ℕ} (Break j) (Break h) → j ≡ h
same_hit j h q = cc

on_is_no_hit : (e j : ℕ) → ◌≡◌ {A = ControlFlow ℕ ℕ} (Continue e) (Break j) → ⊥
on_is_no_hit e j q = let z : ◌≡◌ {A = ℕ} 0 1 = cc in omega arith

pub seen_on : (e : ℕ) (list : List ℕ) (d : List ℤ) (predecessors : List ℕ) (m : ℕ) (t : Turn Work Hit) → seen_in (Continue e) list d predecessors m ≡ seen t
    → t ≡ on (work_of e list d predecessors m)
seen_on e list d predecessors m (on w) q =
    ap on
    (as_work w (same_on e w.hi (ap (λ (s : Seen). s.answer) q)) (ap (λ (s : Seen). s.list) q) (ap (λ (s : Seen). s.distances) q)
    (ap (λ (s : Seen). s.predecessors) q) (ap (λ (s : Seen). s.scanned) q))
seen_on e list d predecessors m (left h) q = absurd (on_is_no_hit e h.column (ap (λ (s : Seen). s.answer) q))

pub seen_hit : (j : ℕ) (list : List ℕ) (d : List ℤ) (predecessors : List ℕ) (m : ℕ) (t : Turn Work Hit) → seen_in (Break j) list d predecessors m ≡ seen t
    → (hi : ℕ) × (t ≡ left (record { column = j; work = work_of hi list d predecessors m }))
seen_hit j list d predecessors m (on w) q = absurd (on_is_no_hit w.hi j (sym (ap (λ (s : Seen). s.answer) q)))
seen_hit j list d predecessors m (left h) q = (
  h.work.hi,
  ap₂ (λ (c : ℕ) (w : Work). left (record { column = c; work = w })) (sym (same_hit j h.column (ap (λ (s : Seen). s.answer) q)))
      (as_work h.work refl (ap (λ (s : Seen). s.list) q) (ap (λ (s : Seen). s.distances) q) (ap (λ (s : Seen). s.predecessors) q)
      (ap (λ (s : Seen). s.scanned) q)),
)

pub either_on : {S R : Type 0} {P : S → Type 0} {Q : R → Type 0} {s : S} → Either P Q (on s) → P s
either_on (goes_on p) = p

-- ---- the two loops

module _ (n : ℕ) (costs : List ℤ) (rows : List ℕ) (start : ℕ) (v : List ℤ) where
  abbrev cost : ℕ → ℕ → ℤ
  cost = (square n costs).cost

  -- The least that row `start` makes a column.
  abbrev floor : ℤ
  floor = (lowest n (reduced cost (signed_at v) start)).value

  -- The rest of the search, and of a scan, from any work.
  abbrev blocks : ℕ → Work → Turn Work Found
  blocks m w = search_blocks n cost (signed_at v) (at rows) m w

  abbrev rest : ℕ → Work → Turn Work Hit
  rest k w = scan n cost (signed_at v) (at rows) k w

  -- At the head of the search's loop, which began with d₀, list₀ and predecessors₀: what is left of the search is the search.
  pub record Between (d₀ : List ℤ) (list₀ predecessors₀ : List ℕ) (d : List ℤ) (list predecessors : List ℕ) (hi scanned : ℕ) : Type 0 where
    pub fuel : ℕ
    pub enough : n ≤ fuel + hi
    pub head : Head n cost (signed_at v) (at rows) start floor (work_of hi list d predecessors scanned)
    pub same : blocks fuel (work_of hi list d predecessors scanned) ≡ blocks n (work_of 0 list₀ d₀ predecessors₀ 0)

  -- At the head of the scan's loop, which began with d₁, list₁, predecessors₁, lo₁, hi₁ and scanned₁: what is left of the scan is the scan.
  pub record InScan (d₁ : List ℤ) (list₁ predecessors₁ : List ℕ) (lo₁ hi₁ scanned₁ : ℕ) (d : List ℤ) (list predecessors : List ℕ) (lo hi scanned : ℕ) : Type 0 where
    pub minimum : ℤ
    pub place : lo ≤ hi
    pub counted : Counted n cost (signed_at v) (at rows) start floor lo₁ minimum lo (work_of hi list d predecessors scanned)
    pub same : rest lo (work_of hi list d predecessors scanned) ≡ rest lo₁ (work_of hi₁ list₁ d₁ predecessors₁ scanned₁)

  -- The search is left, at a free column; `end` is where its last block ended.
  pub record Leaving (d₀ : List ℤ) (list₀ predecessors₀ : List ℕ) (d : List ℤ) (list predecessors : List ℕ) (lo scanned column : ℕ) : Type 0 where
    pub end : ℕ
    pub hi : ℕ
    pub same : blocks n (work_of 0 list₀ d₀ predecessors₀ 0)
        ≡ left (found lo (record { lo = lo; hi = end }) column (work_of hi list d predecessors scanned))

  -- A search that can be made has distances that are near.
  module _ (C : CanSearch n costs rows start v) where
    pub one : 1 ≤ n
    one = omega (arith, C.start_below)

    -- The start of a search has as many columns as there are prices.
    pub started_all : {d : List ℤ} {list predecessors : List ℕ} → Started (length v) costs start v d list predecessors → Started n costs start v d list predecessors
    started_all S = rw C.prices_size at S

    pub distances_near : (w : Work) → Sound n cost (signed_at v) (at rows) start floor w → (j : ℕ) → Within (2 * near) (signed_at w.distances j)
    distances_near w S =
        within_everywhere (2 * near) w.distances
        (λ j l. distances_within n cost (signed_at v) start one (at rows) near near (λ i k. C.costs_near (i * n + k)) C.prices_near w S j (omega (arith, S.distances_size)))

-- The same, at equal values.
pub leaving_at : {n : ℕ} {costs : List ℤ} {rows : List ℕ} {start : ℕ} {v d₀ : List ℤ} {list₀ predecessors₀ : List ℕ} {d : List ℤ} {list predecessors : List ℕ}
    {lo scanned column : ℕ} → Leaving n costs rows start v d₀ list₀ predecessors₀ d list predecessors lo scanned column → {d' : List ℤ} {list' predecessors' : List ℕ}
    {lo' scanned' column' : ℕ} → d' ≡ d → list' ≡ list → predecessors' ≡ predecessors → lo' ≡ lo → scanned' ≡ scanned → column' ≡ column
    → Leaving n costs rows start v d₀ list₀ predecessors₀ d' list' predecessors' lo' scanned' column'
leaving_at L a b p c e f = rw (a, b, p, c, e, f) L
