-- Runs of stores: one run after another, a run over a list's front, and fields of one width written, and read, one after the other. Assumes nothing.
use mathlib.Core.Path.{◌≡◌, refl, sym, ap, ◌∙◌}
use mathlib.Core.List.{List, [], ◌∷◌, ◌++◌, flat_map, append_assoc}
use Prim.Native.Nat.{ℕ, suc, ◌+◌, ◌*◌, ◌≤◌, ◌<◌}
use native.Mathlib.Nat.{zero-add}
use native.Mathlib.Omega.{arith}
use borrow.Rule.Slice.PartMut.{put_mid}
use lib.ListN.{length, get_or, set, take, drop, drop_of_length-le}
use lib.Seq.{drop-cons, drop-drop, sets, sets-eq}
use Rattle.lists.specs.Parts.{part}
use Rattle.lists.specs.Permutations.{table}
use Rattle.lists.proofs.Tables.{length-table}
use Rattle.layout.specs.Fields.{fields}

module _ {A : Type 0} where
  pub sets_append : (p q l : List A) (i k : ℕ) → i + length p ≡ k → sets (sets l i p) k q ≡ sets l i (p ++ q)
  sets_append [] q l i k e = let same : k ≡ i = omega arith in ap (λ (m : ℕ). sets l m q) same
  sets_append (a ∷ p) q l i k e = sets_append p q _ (suc i) k (omega arith)

  -- One run after another, as code leaves them.
  pub stored_then : (l : List A) {m r : List A} (p q : List A) (i k : ℕ) → m ≡ sets l i p → i + length p ≡ k → r ≡ sets m k q → r ≡ sets l i (p ++ q)
  stored_then l p q i k e s f = f ∙ ap (λ (x : List A). sets x k q) e ∙ sets_append p q l i k s

  -- A run of stores from the start on.
  pub sets_front : (p l : List A) (k : ℕ) → length p ≡ k → k ≤ length l → sets l 0 p ≡ p ++ drop k l
  sets_front p l k e h = sets-eq p l 0 (omega arith) ∙ ap (λ (m : ℕ). p ++ drop m l) (zero-add (length p) ∙ e)

  -- A part of a list that was written over as a whole.
  pub stored_over : (l p : List A) (i k : ℕ) → k ≡ length p → i + k ≤ length l → put_mid i k l p ≡ sets l i p
  stored_over l p i k e h =
      ap (λ (r : List A). take i l ++ (p ++ r)) (drop-drop k i l ∙ ap (λ (n : ℕ). drop (i + n) l) e)
      ∙ sym (append_assoc (take i l) p (drop (i + length p) l)) ∙ sym (sets-eq p l i (omega arith))

module _ {A : Type 0} (encode : A → List ℕ) (width : ℕ) (size : (a : A) → length (encode a) ≡ width) where
  -- The field at i is written, and what was to be written then makes z: the later ones make it.
  pub field_written : {r z : List ℕ} (room : List ℕ) (at next : ℕ) (l : List A) (i : ℕ) (a : A) → i < length l → a ≡ get_or l i a → r ≡ sets room at (encode a) → next ≡ at + width
      → sets room at (flat_map encode (drop i l)) ≡ z → sets r next (flat_map encode (drop (i + 1) l)) ≡ z
  unfolding flat_map
  field_written room at next l i a h is e n f =
      let one : i + 1 ≡ suc i = omega arith in
      rw (one, e) (sets_append (encode a) (flat_map encode (drop (suc i) l)) room at next (omega (arith, size a)) ∙ rw (drop-cons l i a h, ← is) at f)

  -- No later one is left.
  pub all_written : {z : List ℕ} (room : List ℕ) (at : ℕ) (l : List A) (i : ℕ) → length l ≤ i → sets room at (flat_map encode (drop i l)) ≡ z → room ≡ z
  unfolding flat_map
  all_written room at l i h f = rw (drop_of_length-le l {i = i} h) at f

-- Fields that are read in order into the front of a list: after k of them the first k stand in place.
module _ {A : Type 0} (decode : List ℕ → A) (at width : ℕ) (bytes : List ℕ) (room : List A) where
  pub none_read : room ≡ sets room 0 (fields decode at width 0 bytes)
  unfolding fields table
  none_read = refl

  pub next_read : (place k : ℕ) (l : List A) (a : A) → place ≡ at + k * width → l ≡ sets room 0 (fields decode at width k bytes)
      → a ≡ decode (part place width bytes) → set l k a ≡ sets room 0 (fields decode at width (k + 1) bytes)
  unfolding fields table
  next_read place k l a p e f =
      let one : k + 1 ≡ suc k = omega arith in
      let so_far = table k (λ i. decode (part (at + i * width) width bytes)) in
      let new : a ≡ decode (part (at + k * width) width bytes) = f ∙ ap (λ (i : ℕ). decode (part i width bytes)) p in
      rw (one, e, new)
      (sets_append so_far (decode (part (at + k * width) width bytes) ∷ []) room 0 k (zero-add (length so_far) ∙ length-table k (λ i. decode (part (at + i * width) width bytes))))
