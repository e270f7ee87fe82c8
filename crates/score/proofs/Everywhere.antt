-- A test that is computed at every number below n holds at each. Assumes nothing.
use mathlib.Core.Path.{◌≡◌, refl, ap, ◌∙◌}
use mathlib.Core.Bool.{Bool, true, false, ◌&&◌, true≢false}
use Prim.Native.Nat.{ℕ, zero, suc, ◌<◌}
use native.Mathlib.Decide.{ℕ_discrete}
use native.Mathlib.Omega.{arith}

pub and_true : (a b : Bool) → a && b ≡ true → (a ≡ true) × (b ≡ true)
and_true true b e = (refl, e)
and_true false b e = absurd (true≢false (cc e))

-- The test passes at every number below n.
abbrev pub everywhere : ℕ → (ℕ → Bool) → Bool
everywhere zero test = true
everywhere (suc n) test = test n && everywhere n test

pub everywhere_at : (n : ℕ) (test : ℕ → Bool) → everywhere n test ≡ true → (k : ℕ) → k < n → test k ≡ true
everywhere_at zero test e k l = absurd (omega arith)
everywhere_at (suc n) test e k l =
    let b = and_true (test n) (everywhere n test) e in
    elim (ℕ_discrete k n) [ yes d ↦ ap test d ∙ b.0 | no d ↦ everywhere_at n test b.1 k (omega arith) ]
