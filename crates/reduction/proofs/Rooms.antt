-- What the room keeps of the rows: after a row was read, after it was seen for the first time, after a look. Assumes nothing.
use mathlib.Core.Path.{◌≡◌, sym, ap, ◌∙◌}
use mathlib.Core.Logic.{◌≢◌}
use mathlib.Core.Bool.{true}
use mathlib.Core.List.{List}
use Prim.Native.Nat.{ℕ, ◌+◌, ◌*◌, ◌<◌}
use native.Mathlib.Omega.{arith}
use lib.IntN.{ℤ, pos}
use lib.ListN.{length, set, length-set}
use lib.Seq.{get_or-set_same, get_or-set_other}
use lib.Signed.{lt_z}
use Rattle.lists.specs.Permutations.{at}
use Rattle.assignment.specs.Pairings.{signed_at}
use Rattle.rules.specs.declared.TwoLowest.{TwoLowest}
use Rattle.rules.specs.declared.TwoLowest.TheVariants.{Two}
use Rattle.rules.specs.Lowest.{two_lowest}
use Rattle.reduction.specs.declared.candidates.Three.{Three}
use Rattle.reduction.specs.Candidates.{FoundThree, seen, settled, recalled, Roomy, Keeps, Told}
use Rattle.reduction.proofs.FirstThree.{three_two}
use Rattle.reduction.proofs.Recalled.{first_two_settles}

-- The same candidates in a room that holds the same at row k.
keeps_same : (g : ℕ → ℤ) (n k : ℕ) (kept kept' : List ℕ) (limits limits' : List ℤ) → at kept' (3 * k) ≡ at kept (3 * k) → at kept' (3 * k + 1) ≡ at kept (3 * k + 1)
    → at kept' (3 * k + 2) ≡ at kept (3 * k + 2) → signed_at limits' k ≡ signed_at limits k → Keeps g n k kept limits → Keeps g n k kept' limits'
keeps_same g n k kept kept' limits limits' p q r w keeps = rw (p, q, r, w) keeps

-- ---- nothing is stored

module _ {f : ℕ → ℤ} {n i : ℕ} {kept : List ℕ} {limits : List ℤ} {two : TwoLowest} where
  pub told_left : two ≡ two_lowest n f → Keeps f n i kept limits → Told f n i kept limits kept limits two
  told_left e keeps = record { two_are = e; own = keeps; others = λ g k d h. h }

  -- The three columns settle it.
  pub told_settled : Keeps f n i kept limits → lt_z (signed_at limits i) seen ≡ true → two ≡ recalled f i kept → settled two (signed_at limits i) ≡ true
      → Told f n i kept limits kept limits two
  told_settled keeps is-limit e below =
      told_left
      (e ∙ first_two_settles n f (signed_at limits i) (at kept (3 * i)) (at kept (3 * i + 1)) (at kept (3 * i + 2)) (keeps is-limit)
      (ap (λ (t : TwoLowest). settled t (signed_at limits i)) (sym e) ∙ below))
      keeps

-- ---- a row is read

-- Three columns stored at 3i.
module _ (kept : List ℕ) (i p q r : ℕ) where
  abbrev stored : List ℕ
  stored = set (set (set kept (3 * i) p) (3 * i + 1) q) (3 * i + 2) r

  elsewhere : (k : ℕ) → k ≢ 3 * i → k ≢ 3 * i + 1 → k ≢ 3 * i + 2 → at stored k ≡ at kept k
  elsewhere k d e h =
      get_or-set_other (set (set kept (3 * i) p) (3 * i + 1) q) (3 * i + 2) k r 0 h ∙ get_or-set_other (set kept (3 * i) p) (3 * i + 1) k q 0 e
      ∙ get_or-set_other kept (3 * i) k p 0 d

  module _ (fits : 3 * i + 2 < length kept) where
    first_stored : at stored (3 * i) ≡ p
    first_stored =
        get_or-set_other (set (set kept (3 * i) p) (3 * i + 1) q) (3 * i + 2) (3 * i) r 0 (λ e. omega arith)
        ∙ get_or-set_other (set kept (3 * i) p) (3 * i + 1) (3 * i) q 0 (λ e. omega arith)
        ∙ get_or-set_same kept (3 * i) p 0 (omega arith)

    second_stored : at stored (3 * i + 1) ≡ q
    second_stored =
        get_or-set_other (set (set kept (3 * i) p) (3 * i + 1) q) (3 * i + 2) (3 * i + 1) r 0 (λ e. omega arith)
        ∙ get_or-set_same (set kept (3 * i) p) (3 * i + 1) q 0 (omega (arith, length-set kept (3 * i) p))

    third_stored : at stored (3 * i + 2) ≡ r
    third_stored =
        get_or-set_same (set (set kept (3 * i) p) (3 * i + 1) q) (3 * i + 2) r 0
        (omega (arith, length-set (set kept (3 * i) p) (3 * i + 1) q, length-set kept (3 * i) p))

pub told_read : (f : ℕ → ℤ) (n i : ℕ) (kept : List ℕ) (limits : List ℤ) (t : Three) (w : ℤ) → Roomy n kept limits → i < n → FoundThree f n t → w ≡ t.limit
    → Told f n i kept limits (stored kept i t.first.place t.second.place t.third.place) (set limits i w) (Two t.first t.second)
told_read f n i kept limits t w room l found e =
    let p = t.first.place in
    let q = t.second.place in
    let r = t.third.place in
    let fits : 3 * i + 2 < length kept = omega (arith, room.kept_size) in
    let limit_is : signed_at (set limits i w) i ≡ t.limit = get_or-set_same limits i w (pos 0) (omega (arith, room.limits_size)) ∙ e in
    record {
      two_are = three_two f n t found;
      own = λ h. rw (first_stored kept i p q r fits, second_stored kept i p q r fits, third_stored kept i p q r fits, limit_is) found.places.kept;
      others = λ g k d. keeps_same g n k kept (stored kept i p q r) limits (set limits i w)
          (elsewhere kept i p q r (3 * k) (λ z. omega arith) (λ z. omega arith) (λ z. omega arith))
          (elsewhere kept i p q r (3 * k + 1) (λ z. omega arith) (λ z. omega arith) (λ z. omega arith))
          (elsewhere kept i p q r (3 * k + 2) (λ z. omega arith) (λ z. omega arith) (λ z. omega arith))
          (get_or-set_other limits i k w (pos 0) d);
    }
