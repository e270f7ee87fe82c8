-- What a closed walk is: each of its nodes leads to one of them, and no two to the same. Assumes nothing.
use mathlib.Core.Path.{◌≡◌, refl, sym, ap, ◌∙◌}
use mathlib.Core.Bool.{true, and-eq-true_iff}
use mathlib.Core.Logic.{◌⊎◌, inl, inr, ⊎_elim}
use Prim.Native.Nat.{ℕ, suc, ◌-◌, ◌≤◌, ◌<◌}
use native.Mathlib.Decide.{ℕ_discrete, dec_lt}
use native.Mathlib.Omega.{arith}
use lib.Dec.{ltb, leb, eqb}
use borrow.Author.Tests.{ltb-true, leb-true, eqb-true, lt-ltb, le-leb}
use Rattle.lists.proofs.Runs.{first_holds}
use Rattle.lists.proofs.Injections.{source_of}
use Rattle.swaps.specs.Walks.{Walk, Closed, place, place_of, last, on_closed, choice}
use Rattle.swaps.proofs.Walks.{Leads, IsClosed, path_injective}

module _ (nodes width : ℕ) (way : ℕ → ℕ → ℕ) (z : Closed) (c : IsClosed nodes width way z) where
  abbrev w : Walk
  w = z.walk

  -- The node to which x leads.
  abbrev next : ℕ → ℕ
  next x = way x (choice nodes width way w x)

  -- x is one of its nodes.
  abbrev pub In : ℕ → Type 0
  In x = (k : ℕ) × (z.from ≤ k) × (k < w.size) × (place w k ≡ x)

  -- The node at place k leads to the one at place i: the next; from the last place the first.
  abbrev After : ℕ → Type 0
  After k = (i : ℕ) × (i < w.size) × Leads nodes width way w (place w k) (place w i) × ((i ≡ suc k) ⊎ ((suc k ≡ w.size) × (i ≡ z.from)))

  after : (k : ℕ) → z.from ≤ k → k < w.size → After k
  after k l m = by (dec_lt (suc k) w.size)
    where
      by : Dec (suc k < w.size) → After k
      by (yes h) = (suc k, h, c.sound.linked k h, inl refl)
      by (no h) = let q : w.size - 1 ≡ k = omega arith in (z.from, c.from_below, rw q at c.back, inr (omega arith, refl))

  -- Each node leads to one of them,
  pub in_next : (x : ℕ) → In x → Leads nodes width way w x (next x) × In (next x)
  in_next x (k, l, m, e) =
      let f = after k l m in
      let g : Leads nodes width way w x (place w f.0) = rw e at f.2 in
      (record { below = g.below; there = refl }, (f.0, ⊎_elim (λ q. omega arith) (λ q. omega arith) f.3, f.1, sym g.there))

  -- each is led to from one,
  pub in_before : (y : ℕ) → In y → (x : ℕ) × In x × (next x ≡ y)
  in_before y (k, l, m, e) = by (ℕ_discrete k z.from)
    where
      by : Dec (k ≡ z.from) → (x : ℕ) × In x × (next x ≡ y)
      by (yes q) =
          (last w, (w.size - 1, omega (arith, c.from_below), omega (arith, c.from_below), refl), c.back.there ∙ ap (place w) (sym q) ∙ e)
      by (no d) =
          let q : suc (k - 1) ≡ k = omega arith in
          let g = c.sound.linked (k - 1) (omega arith) in
          (place w (k - 1), (k - 1, omega arith, omega arith, refl), g.there ∙ ap (place w) q ∙ e)

  -- and two do not lead to the same.
  pub in_apart : (x y : ℕ) → In x → In y → next x ≡ next y → x ≡ y
  in_apart x y (k, l, m, e) (j, g, h, d) q =
      let f = after k l m in
      let t = after j g h in
      let same : f.0 ≡ t.0 =
      c.sound.apart f.0 t.0 f.1 t.1 (sym f.2.there ∙ ap next e ∙ q ∙ ap next (sym d) ∙ t.2.there) in
      let r : k ≡ j =
      ⊎_elim (λ a. ⊎_elim (λ b. omega arith) (λ b. omega arith) t.3) (λ a. ⊎_elim (λ b. omega arith) (λ b. omega arith) t.3) f.3 in
      sym e ∙ ap (place w) r ∙ d

  -- It has a node, and its nodes are nodes.
  pub in_first : In (place w z.from)
  in_first = (z.from, omega arith, c.from_below, refl)

  pub in_below : (x : ℕ) → In x → x < nodes
  in_below x (k, l, m, e) = omega (arith, c.sound.inside k m)

  -- The test tells them.
  pub closed_true : (x : ℕ) → on_closed z x ≡ true → In x
  closed_true x t =
      let b = (and-eq-true_iff (leb z.from (place_of w x)) (ltb (place_of w x) w.size)).0 t in
      let m = ltb-true (place_of w x) w.size b.1 in (
        place_of w x,
        leb-true z.from (place_of w x) b.0,
        m,
        eqb-true (place w (place_of w x)) x (first_holds (λ k. eqb (place w k) x) w.size m),
      )

  pub closed_make : (x : ℕ) → In x → on_closed z x ≡ true
  closed_make x (k, l, m, e) =
      let q : place_of w x ≡ k = ap (place_of w) (sym e) ∙ source_of (path_injective nodes width way w c.sound) k m in
      (and-eq-true_iff (leb z.from (place_of w x)) (ltb (place_of w x) w.size)).1
      (le-leb z.from (place_of w x) (omega arith), lt-ltb (place_of w x) w.size (omega arith))
