-- In row reduction prices only fall, so reduced costs only rise, and what is kept of a row lasts. Assumes nothing.
use mathlib.Core.Path.{ap}
use mathlib.Core.Logic.{inl, inr}
use mathlib.Core.Bool.{Bool, cond}
use mathlib.Core.List.{List}
use Prim.Native.Nat.{ℕ}
use lib.Dec.{ltb}
use lib.IntN.{ℤ, pos}
use lib.ListN.{length, set}
use lib.Seq.{set_out, get_or-set_same, get_or-set_other}
use lib.Signed.{lt_z, ◌≤ℤ◌, ≤ℤ_refl}
use Rattle.ints.proofs.Sums.{dif}
use Rattle.ints.proofs.Shapes.{zlin}
use Rattle.lists.specs.Permutations.{at}
use Rattle.lists.proofs.Cases.{cond_cases, here_or_elsewhere, lt_or_le}
use Rattle.assignment.specs.Pairings.{signed_at}
use Rattle.rules.specs.declared.TwoLowest.{TwoLowest}
use Rattle.rules.specs.declared.TwoLowest.TheVariants.{One, Two}
use Rattle.rules.specs.declared.Choice.{Choice}
use Rattle.rules.specs.Lowest.{reduced, two_lowest}
use Rattle.rules.specs.Rows.{Passing, keep_price, lower_price, choose, is_early, look}
use Rattle.reduction.specs.Candidates.{Candidates, Fell}
use Rattle.reduction.proofs.Recalled.{candidates_rise}

-- ---- row reduction: prices only fall

-- A price that is not raised. Past the end of the list nothing is stored.
set_fell : (v : List ℤ) (j : ℕ) (p : ℤ) → p ≤ℤ signed_at v j → Fell v (set v j p)
set_fell v j p h = record {
  fell = here_or_elsewhere (λ k. signed_at (set v j p) k ≤ℤ signed_at v k) j
      (elim (lt_or_le j (length v)) [
        | inl l ↦ omega (zlin, get_or-set_same v j p (pos 0) l)
        | inr l ↦ omega (zlin, ap (λ (u : List ℤ). signed_at u j) (set_out v j p l))
      ])
      (λ k d. omega (zlin, get_or-set_other v j k p (pos 0) d));
}

-- What is chosen is not raised.
choose_falls : (n : ℕ) (early : Bool) (v : List ℤ) (rows : List ℕ) (t : TwoLowest) → let w = choose n early v rows t in w.price ≤ℤ signed_at v w.column
choose_falls n early v rows (One a) = ≤ℤ_refl (signed_at v a.place)
choose_falls n early v rows (Two a b) =
    let j = cond (ltb (at rows a.place) n) b.place a.place in
    let lowered = lower_price v a.place a.value b.value in
    cond_cases early (λ (w : Choice). w.price ≤ℤ signed_at v w.column) (cond (lt_z a.value b.value) lowered (keep_price v j)) (keep_price v a.place)
    (λ e. cond_cases (lt_z a.value b.value) (λ (w : Choice). w.price ≤ℤ signed_at v w.column) lowered (keep_price v j)
    (λ t. omega (zlin, dif b.value a.value)) (λ t. ≤ℤ_refl (signed_at v j)))
    (λ e. ≤ℤ_refl (signed_at v a.place))

pub look_falls : (n : ℕ) (cost : ℕ → ℕ → ℤ) (x : Passing) → Fell x.prices (look n cost x).prices
look_falls n cost x =
    let t = two_lowest n (reduced cost (signed_at x.prices) (at x.frees x.pass.current)) in
    let w = choose n (is_early n x.pass) x.prices x.pairs.rows t in
    set_fell x.prices w.column w.price (choose_falls n (is_early n x.pass) x.prices x.pairs.rows t)

-- Reduced costs only rise.
reduced_rises : (cost : ℕ → ℕ → ℤ) {v u : List ℤ} → Fell v u → (i k : ℕ) → reduced cost (signed_at v) i k ≤ℤ reduced cost (signed_at u) i k
reduced_rises cost h i k = omega (zlin, h.fell k)

-- What is kept of a row lasts while prices fall.
pub candidates_last : (cost : ℕ → ℕ → ℤ) {v u : List ℤ} (i : ℕ) {n p q r : ℕ} {w : ℤ} → Candidates (reduced cost (signed_at v) i) n p q r w → Fell v u
    → Candidates (reduced cost (signed_at u) i) n p q r w
candidates_last cost i c h = candidates_rise c (λ k l. reduced_rises cost h i k)
