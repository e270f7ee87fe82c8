-- Parts of one lent list: a store at offset + k is a store at k of that part and leaves every other part as it was; parts put together are the
-- list; and what a part that was lent leaves when it comes back. Assumes nothing.
use mathlib.Core.Path.{◌≡◌, refl, sym, ap, ap₂, ◌∙◌}
use mathlib.Core.List.{List, [], ◌∷◌, ◌++◌, append_assoc}
use Prim.Native.Nat.{ℕ, zero, suc, ◌+◌, ◌-◌, ◌≤◌, ◌<◌}
use native.Mathlib.Nat.{zero-add, suc-add, sub-zero, min-le_left, min-le_right}
use native.Mathlib.Omega.{arith}
use lib.ListN.{length, get_or, set, take, drop, length-append, length-take, length-drop, length-set, take-append-drop, get_or-append}
use lib.Seq.{length-take-le, take-nil, take_at, drop_at, take-append-le, take-append-add, drop-append-le, get_or-append-add, set-append_left, take-set-le, take-set-lt, drop-set-lt, drop-set-add, get_or-take, get_or-drop, take-take, take-add, drop-drop, slice, paste, take-length}
use Rattle.lists.specs.Parts.{part, replaced}

module _ {A : Type 0} where
  pub part_length : (a m : ℕ) (l : List A) → a + m ≤ length l → length (part a m l) ≡ m
  part_length a m l h = length-take-le m (drop a l) (omega (arith, length-drop a l))

  pub part_at : (a m : ℕ) (l : List A) (i : ℕ) (d : A) → i < m → get_or (part a m l) i d ≡ get_or l (a + i) d
  part_at a m l i d h = get_or-take m (drop a l) i d h ∙ get_or-drop a l i d

  -- A part, as the toolchain's `slice` has it.
  pub part-short : (a m : ℕ) (l : List A) → length (part a m l) ≤ m
  part-short a m l = omega (arith, length-take m (drop a l), min-le_left m (length (drop a l)))

  pub part_inside : (a m : ℕ) (l : List A) (i : ℕ) → i < length (part a m l) → a + i < length l
  part_inside a m l i h = omega (arith, length-take m (drop a l), min-le_right m (length (drop a l)), length-drop a l)

  pub part_slice : (a m : ℕ) (l : List A) → part a m l ≡ slice a (a + m) l
  part_slice zero m l = rw zero-add
  part_slice (suc a) m [] = rw suc-add (take-nil m)
  part_slice (suc a) m (x ∷ l) = rw suc-add (part_slice a m l)

  -- ---- a store

  set_append_add : (s t : List A) (i : ℕ) (x : A) → set (s ++ t) (length s + i) x ≡ s ++ set t i x
  set_append_add [] t i x = rw zero-add
  set_append_add (y ∷ s) t i x = rw suc-add (ap (λ (r : List A). y ∷ r) (set_append_add s t i x))

  pub part-set : (a m : ℕ) (l : List A) (i : ℕ) (x : A) → i < m → part a m (set l (a + i) x) ≡ set (part a m l) i x
  part-set a m l i x h = ap (take m) (drop-set-add a l i x) ∙ take-set-lt m (drop a l) i x h

  pub part_set_before : (a m : ℕ) (l : List A) (i : ℕ) (x : A) → i < a → part a m (set l i x) ≡ part a m l
  part_set_before a m l i x h = ap (take m) (drop-set-lt a l i x h)

  pub part_set_after : (a m : ℕ) (l : List A) (i : ℕ) (x : A) → a + m ≤ i → part a m (set l i x) ≡ part a m l
  part_set_after a m l i x h =
      let e : i ≡ a + (i - a) = omega arith in
      ap (λ (k : ℕ). take m (drop a (set l k x))) e ∙ ap (take m) (drop-set-add a l (i - a) x) ∙ take-set-le m (drop a l) (i - a) x (omega arith)

  -- ---- parts put together

  pub part-part : (a m k : ℕ) (l : List A) → part a m l ++ part (a + m) k l ≡ part a (m + k) l
  part-part a m k l = sym (take-add m k (drop a l) ∙ ap (λ (t : List A). part a m l ++ take k t) (drop-drop m a l))

  pub part-drop : (a m : ℕ) (l : List A) → part a m l ++ drop (a + m) l ≡ drop a l
  part-drop a m l = ap (λ (t : List A). part a m l ++ t) (sym (drop-drop m a l)) ∙ take-append-drop m (drop a l)

  -- ---- a part written over

  module _ (a : ℕ) (p l : List A) (fits : a + length p ≤ length l) where
    front : length (take a l) ≡ a
    front = length-take-le a l (omega arith)

    pub replaced-length : length (replaced a p l) ≡ length l
    replaced-length =
        omega (arith, length-append (take a l) (p ++ drop (a + length p) l), length-append p (drop (a + length p) l), length-drop (a + length p) l, front)

    pub replaced-part : part a (length p) (replaced a p l) ≡ p
    replaced-part =
        ap (take (length p)) (drop_at (take a l) (p ++ drop (a + length p) l) a front) ∙ take_at p (drop (a + length p) l) (length p) refl

    pub replaced-at : (i : ℕ) (d : A) → i < length p → get_or (replaced a p l) (a + i) d ≡ get_or p i d
    replaced-at i d h =
        ap (λ (k : ℕ). get_or (replaced a p l) (k + i) d) (sym front) ∙ get_or-append-add (take a l) (p ++ drop (a + length p) l) i d
        ∙ get_or-append p (drop (a + length p) l) d i h

    pub replaced_before : take a (replaced a p l) ≡ take a l
    replaced_before = take_at (take a l) (p ++ drop (a + length p) l) a front

    -- What was written, with all before it.
    pub replaced_front : take (a + length p) (replaced a p l) ≡ take a l ++ p
    replaced_front =
        ap (take (a + length p)) (sym (append_assoc (take a l) p (drop (a + length p) l)))
        ∙ take_at (take a l ++ p) (drop (a + length p) l) (a + length p) (omega (arith, length-append (take a l) p, front))

    pub replaced_after : drop (a + length p) (replaced a p l) ≡ drop (a + length p) l
    replaced_after =
        sym (drop-drop (length p) a (replaced a p l))
        ∙ ap (drop (length p)) (drop_at (take a l) (p ++ drop (a + length p) l) a front)
        ∙ drop_at p (drop (a + length p) l) (length p) refl

    -- Every other part is as it was.
    pub replaced_part_before : (b m : ℕ) → b + m ≤ a → part b m (replaced a p l) ≡ part b m l
    replaced_part_before b m h =
        part_slice b m (replaced a p l)
        ∙ ap (drop b) (sym (take-take (b + m) a (replaced a p l) h) ∙ ap (take (b + m)) replaced_before ∙ take-take (b + m) a l h)
        ∙ sym (part_slice b m l)

    replaced-drop : (b : ℕ) → a + length p ≤ b → drop b (replaced a p l) ≡ drop b l
    replaced-drop b h =
        let e : b ≡ a + length p + (b - (a + length p)) = omega arith in
        ap (λ (k : ℕ). drop k (replaced a p l)) e ∙ sym (drop-drop (b - (a + length p)) (a + length p) (replaced a p l))
        ∙ ap (drop (b - (a + length p))) replaced_after ∙ drop-drop (b - (a + length p)) (a + length p) l ∙ ap (λ (k : ℕ). drop k l) (sym e)

    pub replaced_part_after : (b m : ℕ) → a + length p ≤ b → part b m (replaced a p l) ≡ part b m l
    replaced_part_after b m h = ap (take m) (replaced-drop b h)

    -- A store at offset + i is a store at i of what was written.
    pub replaced-set : (i : ℕ) (x : A) → i < length p → set (replaced a p l) (a + i) x ≡ replaced a (set p i x) l
    replaced-set i x h =
        ap (λ (k : ℕ). set (replaced a p l) (k + i) x) (sym front) ∙ set_append_add (take a l) (p ++ drop (a + length p) l) i x
        ∙ ap (λ (t : List A). take a l ++ t) (set-append_left p (drop (a + length p) l) i x h)
        ∙ ap (λ (k : ℕ). take a l ++ (set p i x ++ drop (a + k) l)) (sym (length-set p i x))

    -- A store behind what was written is one in the list below.
    pub replaced_set_after : (i : ℕ) (x : A) → a + length p ≤ i → set (replaced a p l) i x ≡ replaced a p (set l i x)
    replaced_set_after i x h =
        let e : i ≡ length (take a l) + (length p + (i - (a + length p))) = omega (arith, front) in
        let e' : i ≡ a + length p + (i - (a + length p)) = omega arith in
        ap (λ (k : ℕ). set (replaced a p l) k x) e
        ∙ set_append_add (take a l) (p ++ drop (a + length p) l) (length p + (i - (a + length p))) x
        ∙ ap (λ (t : List A). take a l ++ t) (set_append_add p (drop (a + length p) l) (i - (a + length p)) x)
        ∙ sym
        (ap₂ (λ (s t : List A). s ++ (p ++ t)) (take-set-le a l i x (omega arith))
        (ap (λ (k : ℕ). drop (a + length p) (set l k x)) e' ∙ drop-set-add (a + length p) l (i - (a + length p)) x))

  -- A list copied whole, as the toolchain's `paste` has it.
  pub pasted_whole : (a : ℕ) (p l : List A) → paste l a p (length p) ≡ replaced a p l
  pasted_whole a p l =
      ap (λ (t : List A). take a l ++ t ++ drop (a + length p) l) (take-length p) ∙ append_assoc (take a l) p (drop (a + length p) l)

  pub replaced_self : (a m : ℕ) (l : List A) → a + m ≤ length l → replaced a (part a m l) l ≡ l
  replaced_self a m l h =
      ap (λ (k : ℕ). take a l ++ (part a m l ++ drop (a + k) l)) (part_length a m l h) ∙ ap (λ (t : List A). take a l ++ t) (part-drop a m l)
      ∙ take-append-drop a l

  pub replaced-replaced : (a : ℕ) (p q l : List A) → length p ≡ length q → a + length p ≤ length l → replaced a q (replaced a p l) ≡ replaced a q l
  replaced-replaced a p q l e h =
      ap₂ (λ (s t : List A). s ++ (q ++ t)) (replaced_before a p l h)
      (ap (λ (k : ℕ). drop (a + k) (replaced a p l)) (sym e) ∙ replaced_after a p l h ∙ ap (λ (k : ℕ). drop (a + k) l) e)

  -- Two parts, one behind the other, may be written over in either order.
  pub replaced_swap : (a b : ℕ) (p q l : List A) → a + length p ≤ b → b + length q ≤ length l
      → replaced b q (replaced a p l) ≡ replaced a p (replaced b q l)
  replaced_swap a b p q l h fits =
      let fits_p : a + length p ≤ length l = omega arith in
      let between : List A = drop (a + length p) (take b l) in
      let rest : List A = q ++ drop (b + length q) l in
      let e : b ≡ a + length p + (b - (a + length p)) = omega arith in
      let e' : b ≡ length (take a l) + (length p + (b - (a + length p))) = omega (arith, front a p l fits_p) in
      let to-b : take b (replaced a p l) ≡ take a l ++ (p ++ between) =
      ap (λ (k : ℕ). take k (replaced a p l)) e' ∙ take-append-add (take a l) (p ++ drop (a + length p) l) (length p + (b - (a + length p)))
      ∙ ap (λ (t : List A). take a l ++ t) (take-append-add p (drop (a + length p) l) (b - (a + length p)))
      ∙ ap (λ (t : List A). take a l ++ (p ++ t))
      (part_slice (a + length p) (b - (a + length p)) l ∙ ap (λ (k : ℕ). drop (a + length p) (take k l)) (sym e)) in
      let left : replaced b q (replaced a p l) ≡ take a l ++ (p ++ (between ++ rest)) =
      ap₂ (λ (s t : List A). s ++ (q ++ t)) to-b (replaced-drop a p l fits_p (b + length q) (omega arith))
      ∙ append_assoc (take a l) (p ++ between) rest
      ∙ ap (λ (t : List A). take a l ++ t) (append_assoc p between rest) in
      let right : replaced a p (replaced b q l) ≡ take a l ++ (p ++ (between ++ rest)) =
      ap₂ (λ (s t : List A). s ++ (p ++ t))
      (take-append-le a (take b l) rest (omega (arith, front b q l fits)) ∙ take-take a b l (omega arith))
      (drop-append-le (a + length p) (take b l) rest (omega (arith, front b q l fits))) in
      left ∙ sym right

  -- ---- what code leaves of a part [a, e) that was lent and came back as p

  pub lent_back : (a e : ℕ) (p l : List A) → length p ≡ e - a → take a l ++ (p ++ drop (e - a) (drop a l)) ≡ replaced a p l
  lent_back a e p l s =
      ap (λ (t : List A). take a l ++ (p ++ t)) (drop-drop (e - a) a l ∙ ap (λ (k : ℕ). drop (a + k) l) (sym s))

  -- How long it is as it is lent, and what is lent of a list in which p came back.
  pub lent_length : (n a e : ℕ) (l : List A) → e - a ≡ n → a + n ≤ length l → length (take (e - a) (drop a l)) ≡ n
  lent_length n a e l long fits = ap (λ (k : ℕ). length (part a k l)) long ∙ part_length a n l fits

  pub lent_again : (n a e : ℕ) (l : List A) → e - a ≡ n → a + n ≤ length l → (p : List A) → length p ≡ n → (m : List A) → m ≡ replaced a p l
      → take (e - a) (drop a m) ≡ p
  lent_again n a e l long fits p size m q =
      ap (λ (k : List A). part a (e - a) k) q ∙ ap (λ (k : ℕ). part a k (replaced a p l)) (long ∙ sym size) ∙ replaced-part a p l (omega arith)

  -- The first m entries, lent and come back.
  pub front_lent_lem : (m : ℕ) (l : List A) → take (m - 0) l ≡ take m l
  front_lent_lem m l = ap (λ (k : ℕ). take k l) (sub-zero m)

  pub front_back : (m : ℕ) (p l : List A) → take 0 l ++ (p ++ drop (m - 0) (drop 0 l)) ≡ p ++ drop m l
  front_back m p l = ap (λ (k : ℕ). p ++ drop k l) (sub-zero m)
