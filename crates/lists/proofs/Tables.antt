-- A list made of a function: how long it is, what stands in it, and how a loop fills a list with it. Assumes nothing.
use mathlib.Core.Path.{◌≡◌, refl, sym, ap, ap₂, ◌∙◌}
use mathlib.Core.List.{List, [], ◌∷◌, ◌++◌, append-nil, append_assoc}
use Prim.Native.Nat.{ℕ, zero, suc, ◌+◌, ◌≤◌, ◌<◌}
use native.Mathlib.Decide.{dec_lt}
use native.Mathlib.Nat.{add-zero, add-suc}
use native.Mathlib.Numerals.{add-one}
use native.Mathlib.Omega.{arith}
use lib.ListN.{length, get_or, set, drop, replicate, length-append, length-drop, length-replicate, get_or-replicate, get_or-append, get_or-eq_default}
use lib.Seq.{ext_get_or, get_or_at, set_at, take_at, drop_at, drop-drop, drop-cons, drop-length, append_snoc}
use Rattle.lists.specs.Permutations.{table}
use Rattle.lists.specs.Parts.{replaced}

module _ {A : Type 0} where
  pub length-table : (n : ℕ) (f : ℕ → A) → length (table n f) ≡ n
  unfolding table
  length-table zero f = refl
  length-table (suc n) f = omega (arith, length-append (table n f) (f n ∷ []), length-table n f)

  pub get_d_table : (n : ℕ) (f : ℕ → A) (d : A) (i : ℕ) → i < n → get_or (table n f) i d ≡ f i
  unfolding table
  get_d_table zero f d i l = absurd (omega arith)
  get_d_table (suc n) f d i l = by (dec_lt i n) (get_d_table n f d i)
    where
      by : Dec (i < n) → (i < n → get_or (table n f) i d ≡ f i) → get_or (table n f ++ (f n ∷ [])) i d ≡ f i
      by (yes h) ih = get_or-append (table n f) (f n ∷ []) d i (omega (arith, length-table n f)) ∙ ih h
      by (no h) ih =
          let e : n ≡ i = omega arith in
          get_or_at (table n f) (f n) [] d i (length-table n f ∙ e) ∙ ap f e

  -- A list is the table of what stands in it.
  pub table_get_d : (l : List A) (d : A) → table (length l) (λ i. get_or l i d) ≡ l
  table_get_d l d =
      ext_get_or d (table (length l) (λ i. get_or l i d)) l (length-table (length l) (λ i. get_or l i d))
      (λ i h. get_d_table (length l) (λ k. get_or l k d) d i (omega (arith, length-table (length l) (λ k. get_or l k d))))

  pub table_cong : (n : ℕ) (f g : ℕ → A) → ((i : ℕ) → i < n → f i ≡ g i) → table n f ≡ table n g
  unfolding table
  table_cong zero f g e = refl
  table_cong (suc n) f g e = cc (table_cong n f g (λ i l. e i (omega arith)), e n (omega arith))

  -- ---- a list filled from the front: its first k entries are the table's

  pub filled_none : (f : ℕ → A) (l : List A) → l ≡ table 0 f ++ drop 0 l
  unfolding table
  filled_none f l = refl

  pub filled_more : (k : ℕ) (f : ℕ → A) (l : List A) → k < length l → set (table k f ++ drop k l) k (f k) ≡ table (k + 1) f ++ drop (k + 1) l
  unfolding table
  filled_more k f l h =
      ap (λ (t : List A). set (table k f ++ t) k (f k)) (drop-cons l k (f k) h)
      ∙ set_at (table k f) (get_or l k (f k)) (drop (suc k) l) (f k) k (length-table k f)
      ∙ sym (append_snoc (table k f) (f k) (drop (suc k) l))
      ∙ ap (λ (m : ℕ). table m f ++ drop m l) (sym (add-one k))

  pub filled-length : (k : ℕ) (f : ℕ → A) (l : List A) → k ≤ length l → length (table k f ++ drop k l) ≡ length l
  filled-length k f l h = omega (arith, length-append (table k f) (drop k l), length-table k f, length-drop k l)

  pub filled_all : (k : ℕ) (f : ℕ → A) (l : List A) → k ≡ length l → table k f ++ drop k l ≡ table (length l) f
  filled_all k f l e = rw (e, drop-length l, append-nil)

  -- The entry that the loop reads next is as it was.
  pub filled_next : (f : ℕ → A) (l : List A) (k : ℕ) (d : A) → k < length l → get_or (table k f ++ drop k l) k d ≡ get_or l k d
  filled_next f l k d h = rw (drop-cons l k d h) (get_or_at (table k f) (get_or l k d) (drop (suc k) l) d k (length-table k f))

  -- An entry that the table has too may stay.
  pub filled-kept : (f : ℕ → A) (l : List A) (k : ℕ) (d : A) → k < length l → f k ≡ get_or l k d → table k f ++ drop k l ≡ table (k + 1) f ++ drop (k + 1) l
  unfolding table
  filled-kept f l k d h e =
      ap (λ (t : List A). table k f ++ t) (drop-cons l k d h) ∙ ap (λ (x : A). table k f ++ (x ∷ drop (suc k) l)) (sym e)
      ∙ sym (append_snoc (table k f) (f k) (drop (suc k) l)) ∙ ap (λ (m : ℕ). table m f ++ drop m l) (sym (add-one k))

  -- ---- a table in two parts, and a list whose next k entries are filled at once

  pub table_add : (m k : ℕ) (f : ℕ → A) → table (m + k) f ≡ table m f ++ table k (λ i. f (m + i))
  unfolding table
  table_add m zero f = ap (λ (n : ℕ). table n f) (add-zero m) ∙ sym (append-nil (table m f))
  table_add m (suc k) f =
      ap (λ (n : ℕ). table n f) (add-suc m k) ∙ ap (λ (t : List A). t ++ (f (m + k) ∷ [])) (table_add m k f)
      ∙ append_assoc (table m f) (table k (λ i. f (m + i))) (f (m + k) ∷ [])

  pub filled-part : (m k : ℕ) (f g : ℕ → A) (l : List A) → ((i : ℕ) → i < k → g i ≡ f (m + i))
      → replaced m (table k g) (table m f ++ drop m l) ≡ table (m + k) f ++ drop (m + k) l
  filled-part m k f g l same =
      ap₂ (λ (s t : List A). s ++ (table k g ++ t)) (take_at (table m f) (drop m l) m (length-table m f)) rest
      ∙ sym (append_assoc (table m f) (table k g) (drop (m + k) l))
      ∙ ap (λ (t : List A). (table m f ++ t) ++ drop (m + k) l) (table_cong k g (λ i. f (m + i)) same)
      ∙ ap (λ (t : List A). t ++ drop (m + k) l) (sym (table_add m k f))
    where
      rest : drop (m + length (table k g)) (table m f ++ drop m l) ≡ drop (m + k) l
      rest =
          ap (λ (n : ℕ). drop (m + n) (table m f ++ drop m l)) (length-table k g) ∙ sym (drop-drop k m (table m f ++ drop m l))
          ∙ ap (drop k) (drop_at (table m f) (drop m l) m (length-table m f)) ∙ drop-drop k m l

  -- ---- all entries the same

  pub table_constant : (n : ℕ) (x : A) → table n (λ i. x) ≡ replicate n x
  table_constant n x =
      ext_get_or x (table n (λ i. x)) (replicate n x) (length-table n (λ i. x) ∙ sym (length-replicate n x))
      (λ i h. let l : i < n = omega (arith, length-table n (λ k. x)) in get_d_table n (λ k. x) x i l ∙ sym (get_or-replicate n i x x l))

  pub get_d_constant : (n : ℕ) (x : A) (i : ℕ) → get_or (table n (λ k. x)) i x ≡ x
  get_d_constant n x i = by (dec_lt i n)
    where
      by : Dec (i < n) → get_or (table n (λ k. x)) i x ≡ x
      by (yes l) = get_d_table n (λ k. x) x i l
      by (no l) = get_or-eq_default (table n (λ k. x)) x {n = i} (omega (arith, length-table n (λ k. x)))
