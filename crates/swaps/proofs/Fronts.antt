-- The search on longer lists: only the first columns count, and only the first entries are written. Assumes nothing.
use mathlib.Core.Path.{◌≡◌, refl, sym, ap, ap₂, ◌∙◌}
use mathlib.Core.Bool.{Bool, false}
use mathlib.Core.List.{List, ◌++◌}
use Prim.Native.Nat.{ℕ, ◌*◌, ◌-◌, ◌≤◌, ◌<◌}
use native.Mathlib.Nat.{sub-zero}
use native.Mathlib.Omega.{arith}
use lib.IntN.{ℤ}
use lib.ListN.{length, take, drop, replicate, take-append-drop}
use lib.Seq.{length-take-le}
use Rattle.assignment.specs.Pairings.{Night}
use Rattle.assignment.proofs.Longer.{tight_first, spares_first}
use Rattle.bars.specs.Barred.{night_of}
use Rattle.swaps.specs.Second.{Answer, only, also, second}
use Rattle.swaps.specs.Rooms.{Fair}
use Rattle.swaps.specs.Found.{another, written_in, written_front, CanSearch, SearchedBy, CanFindIn}
use Rattle.swaps.proofs.Finding.{no_rows}
use Rattle.swaps.proofs.Longer.{second_first}

front_written : (m : ℕ) (a : Answer) (list : List ℕ) → (written_in a (take m list) ++ drop m list) ≡ written_front m a list
front_written m only list = take-append-drop m list
front_written m (also other) list = refl

module _ (m n : ℕ) (costs : List ℤ) (bars cols : List ℕ) (us vs : List ℤ) (list indices : List ℕ) (numbers : List ℤ)
    (h : CanFindIn m n costs bars cols us vs list indices numbers) where
  abbrev night : Night
  night = night_of m n costs bars

  fair : Fair m n costs bars (take m cols) us vs
  fair = record {
    small = h.small;
    filled = h.filled;
    row_prices = h.row_prices;
    column_prices = h.column_prices;
    pairing = h.shown.pairing;
    feasible = h.shown.feasible;
    tight = (tight_first night cols us vs).1 h.shown.tight;
    spares = (spares_first night cols vs).1 h.shown.spares;
  }

  pub can_search : 0 < m → CanSearch m n costs bars (take (m - 0) cols) us vs (take (m - 0) list) (take (4 * n - 0) indices) (take (n - 0) numbers)
  can_search some = rw (sub-zero m, sub-zero n, sub-zero (4 * n)) (record {
    some = some;
    fair = fair;
    list_size = length-take-le m list h.list_long;
    room_size = omega (arith, length-take-le (4 * n) indices h.indices_long);
    numbers_size = length-take-le n numbers h.numbers_long;
  })

  -- What is found on the first columns is found.
  abbrev pub FoundFirst : Bool → List ℕ → Type 0
  FoundFirst r list' = (r ≡ another (second night us vs cols)) × (list' ≡ written_front m (second night us vs cols) list)

  same : second night us vs (take m cols) ≡ second night us vs cols
  same = second_first night us vs cols

  pub found_first : (r : Bool) (list' : List ℕ) → SearchedBy m n costs bars (take (m - 0) cols) us vs (take (m - 0) list) r list' → FoundFirst r (list' ++ drop (m - 0) list)
  found_first r list' = rw (sub-zero m) by
    where
      by : SearchedBy m n costs bars (take m cols) us vs (take m list) r list' → FoundFirst r (list' ++ drop m list)
      by f = (
        f.told ∙ ap another same,
        ap (λ (l : List ℕ). l ++ drop m list) (f.written ∙ ap (λ (a : Answer). written_in a (take m list)) same) ∙ front_written m (second night us vs cols) list,
      )

  -- Without rows there is none.
  pub none_first : m ≤ 0 → FoundFirst false list
  none_first z = rw (sym same ∙ no_rows m n costs bars (take m cols) us vs fair (omega arith)) (refl, refl)

-- A front that is filled.
pub cleared : {A : Type 0} (k : ℕ) (l part z : List A) (x : A) → k ≤ length l → length part ≡ length (take (k - 0) l) → z ≡ replicate (length part) x
    → (z ++ drop (k - 0) l) ≡ replicate k x ++ drop k l
cleared k l part z x h e q =
    ap₂ ◌++◌ (q ∙ ap (λ (n : ℕ). replicate n x) (e ∙ ap (λ (n : ℕ). length (take n l)) (sub-zero k) ∙ length-take-le k l h)) (ap (λ (n : ℕ). drop n l) (sub-zero k))
