-- Case distinctions: a test, two flags, a place and the others. Assumes nothing.
use mathlib.Core.Path.{◌≡◌, refl, sym, ap, ◌∙◌, subst}
use mathlib.Core.Logic.{◌≢◌, ◌⊎◌, inl, inr}
use mathlib.Core.Bool.{Bool, true, false, cond, ◌||◌, or-true}
use mathlib.Core.List.{List}
use Prim.Native.Nat.{ℕ, suc, ◌≤◌, ◌<◌}
use native.Mathlib.Decide.{ℕ_discrete, dec_lt}
use native.Mathlib.Omega.{arith}
use lib.ListN.{length, set}
use lib.Seq.{set_out, get_or-set_same, get_or-set_other}
use Rattle.lists.specs.Permutations.{at}

-- What holds of both ways of a test holds of what it picks.
pub cond_cases : {A : Type 0} (b : Bool) (P : A → Type 0) (x y : A) → (b ≡ true → P x) → (b ≡ false → P y) → P (cond b x y)
cond_cases true P x y f g = f refl
cond_cases false P x y f g = g refl

-- What holds of both first ways and of both second ways of two tests with one flag holds of what they pick.
pub cond_both : {A B : Type 0} (b : Bool) (R : A → B → Type 0) {x y : A} {x' y' : B} → R x x' → R y y' → R (cond b x y) (cond b x' y')
cond_both true R p q = p
cond_both false R p q = q

-- Two flags, each of which follows from the other.
pub flags_same : (a b : Bool) → (a ≡ true → b ≡ true) → (b ≡ true → a ≡ true) → a ≡ b
flags_same true b f g = sym (f refl)
flags_same false true f g = g refl
flags_same false false f g = refl

pub or_either : (a b : Bool) → (a || b) ≡ true → (a ≡ true) ⊎ (b ≡ true)
or_either true b e = inl refl
or_either false b e = inr e

pub or_second : {b : Bool} (a : Bool) → b ≡ true → (a || b) ≡ true
or_second a e = ap (λ (t : Bool). a || t) e ∙ or-true a

pub lt_or_le : (a b : ℕ) → (a < b) ⊎ (b ≤ a)
lt_or_le a b = elim (dec_lt a b) [ yes h ↦ inl h | no h ↦ inr (omega arith) ]

-- What holds at i and elsewhere holds everywhere.
pub here_or_elsewhere : (P : ℕ → Type 0) (i : ℕ) → P i → ((x : ℕ) → x ≢ i → P x) → (x : ℕ) → P x
here_or_elsewhere P i here there x = elim (ℕ_discrete x i) [ yes e ↦ subst P (sym e) here | no d ↦ there x d ]

-- What holds below m and at m holds below suc m.
pub below_suc : {m : ℕ} (P : ℕ → Type 0) → ((k : ℕ) → k < m → P k) → P m → (k : ℕ) → k < suc m → P k
below_suc {m} P all here k h = elim (ℕ_discrete k m) [ yes e ↦ subst P (sym e) here | no d ↦ all k (omega arith) ]

-- A list of numbers below n stays one where another such number is stored in it.
pub set_below : (n : ℕ) (l : List ℕ) (k x : ℕ) → ((t : ℕ) → at l t < n) → x < n → (t : ℕ) → at (set l k x) t < n
set_below n l k x h g =
    here_or_elsewhere (λ t. at (set l k x) t < n) k
    (elim (lt_or_le k (length l)) [
      | inl a ↦ omega (arith, get_or-set_same l k x 0 a)
      | inr a ↦ omega (arith, ap (λ (z : List ℕ). at z k) (set_out l k x a), h k)
    ])
    (λ t d. omega (arith, get_or-set_other l k t x 0 d, h t))
