-- Fields of one width, one after the other: each decodes to what was encoded. Assumes nothing.
use mathlib.Core.Path.{◌≡◌, sym, ap, ◌∙◌}
use mathlib.Core.List.{List, [], ◌∷◌, ◌++◌, flat_map, append_assoc}
use Prim.Native.Nat.{ℕ, zero, suc, ◌+◌, ◌*◌, ◌<◌}
use native.Mathlib.Nat.{zero-mul, suc-mul}
use native.Mathlib.Omega.{arith}
use lib.ListN.{length, get_or, take, drop, length-append}
use lib.Seq.{take_at, drop_at, drop-drop, ext_get_or}
use Rattle.lists.specs.Parts.{part}
use Rattle.lists.specs.Permutations.{table}
use Rattle.lists.proofs.Tables.{length-table, get_d_table}
use Rattle.layout.specs.Fields.{fields}

pub length_fields : {A : Type 0} (decode : List ℕ → A) (base width n : ℕ) (bytes : List ℕ) → length (fields decode base width n bytes) ≡ n
unfolding fields
length_fields decode base width n bytes = length-table n (λ i. decode (part (base + i * width) width bytes))

module _ {A : Type 0} (encode : A → List ℕ) (width : ℕ) (size : (a : A) → length (encode a) ≡ width) where
  pub length_flat_map : (l : List A) → length (flat_map encode l) ≡ length l * width
  unfolding flat_map
  length_flat_map [] = sym (zero-mul width)
  length_flat_map (a ∷ l) =
      omega (arith, length-append (encode a) (flat_map encode l), size a, length_flat_map l, suc-mul (length l) width)

  -- The field at i, whatever follows.
  field_at : (l : List A) (i : ℕ) (d : A) (rest : List ℕ) → i < length l → part (i * width) width (flat_map encode l ++ rest) ≡ encode (get_or l i d)
  unfolding flat_map
  field_at [] i d rest h = absurd (omega arith)
  field_at (a ∷ l) zero d rest h = rw (zero-mul width, append_assoc) (take_at (encode a) (flat_map encode l ++ rest) width (size a))
  field_at (a ∷ l) (suc i) d rest h =
      let e : suc i * width ≡ width + i * width = omega (arith, suc-mul i width) in
      ap (λ (k : ℕ). part k width (flat_map encode (a ∷ l) ++ rest)) e
      ∙ ap (take width)
      (sym (drop-drop (i * width) width (flat_map encode (a ∷ l) ++ rest))
      ∙ ap (drop (i * width)) (ap (drop width) (append_assoc (encode a) (flat_map encode l) rest) ∙ drop_at (encode a) (flat_map encode l ++ rest) width (size a)))
      ∙ field_at l i d rest (omega arith)

  -- The fields that stand after a part that is `base` long.
  pub fields_flat_map : (decode : List ℕ → A) (before : List ℕ) (base : ℕ) (l : List A) (n : ℕ) (rest : List ℕ) (d : A) → length before ≡ base → length l ≡ n
      → ((i : ℕ) → i < n → decode (encode (get_or l i d)) ≡ get_or l i d) → fields decode base width n (before ++ (flat_map encode l ++ rest)) ≡ l
  unfolding fields
  fields_flat_map decode before base l n rest d b e back =
      ext_get_or d (table n read) l (length-table n read ∙ sym e)
      (λ i h. get_d_table n read d i (small i h) ∙ ap decode (found i (small i h)) ∙ back i (small i h))
    where
      read : ℕ → A
      read i = decode (part (base + i * width) width (before ++ (flat_map encode l ++ rest)))

      small : (i : ℕ) → i < length (table n read) → i < n
      small i h = omega (arith, length-table n read)

      found : (i : ℕ) → i < n → part (base + i * width) width (before ++ (flat_map encode l ++ rest)) ≡ encode (get_or l i d)
      found i h =
          ap (take width)
          (sym (drop-drop (i * width) base (before ++ (flat_map encode l ++ rest)))
          ∙ ap (drop (i * width)) (drop_at before (flat_map encode l ++ rest) base b))
          ∙ field_at l i d rest (omega arith)
