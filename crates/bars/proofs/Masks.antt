-- The masks that code makes have the bits of the rows reached, so that they show that there is no pairing. Assumes nothing.
use mathlib.Core.Path.{◌≡◌, refl, sym, ap, ap₂, ◌∙◌}
use mathlib.Core.Bool.{Bool, true, false, cond, not, ◌&&◌, ◌||◌, or-false, and-true, and-false}
use mathlib.Core.Logic.{◌↔◌}
use mathlib.Core.List.{List}
use Prim.Native.Nat.{ℕ, suc, ◌-◌, ◌<◌, ◌^◌}
use native.Mathlib.Decide.{ℕ_discrete, dec_lt}
use native.Mathlib.Omega.{arith}
use lib.Dec.{ltb, eqb}
use lib.IntN.{ℤ}
use lib.Bits.{bit_or, or_lt, xor_lt}
use lib.Pow.{pow_pos, pow-lt, ones_lt}
use lib.Count.{ones}
use borrow.Author.Tests.{lt-ltb, le-ltb, eq-eqb, ne_eqb}
use Rattle.lists.specs.Runs.{upward}
use Rattle.lists.specs.Permutations.{at, table}
use Rattle.lists.specs.Counts.{some, bit_of}
use Rattle.lists.proofs.Runs.{upward_keeps, upward_none, upward-last}
use Rattle.lists.proofs.Tables.{get_d_table}
use Rattle.lists.proofs.Counts.{some_none, some-last}
use Rattle.lists.proofs.BitSets.{bit_of-bit_or, bit_single, bit_others, bit_none}
use Rattle.assignment.specs.Pairings.{Night}
use Rattle.bars.specs.Blocked.{columns_of, Blocked, has, grow, reached_from}
use Rattle.bars.specs.Barred.{barred}
use Rattle.bars.specs.Masks.{allowed_mask, columns_mask, paired_mask, reached_mask}
use Rattle.bars.proofs.Blocked.{columns_cong, blocked_cong, blocked_ones}

-- A bit that is set where a test holds.
bit_joined : (u : Bool) (s t k : ℕ) → bit_of (cond u (bit_or s (2 ^ t)) s) k ≡ (bit_of s k || (u && eqb k t))
bit_joined true s t k = bit_of-bit_or s (2 ^ t) k ∙ ap (λ (b : Bool). bit_of s k || b) (bit_single t k)
bit_joined false s t k = sym (or-false (bit_of s k))

module _ (n : ℕ) (costs : List ℤ) (bars : List ℕ) where
  -- The columns allowed to the rows of a set.
  pub columns_bits : (rows j : ℕ) → j < n → bit_of (columns_mask n bars rows) j ≡ columns_of (barred n costs bars) (bit_of rows) j
  unfolding columns_mask
  columns_bits rows j l =
      upward_keeps (λ k c. bit_of c j ≡ some k test) 0 n (λ i c. cond (bit_of rows i) (bit_or c (allowed_mask n (at bars i))) c) 0 (omega arith)
      (bit_none j ∙ sym (some_none test)) (λ k c a b e. step k c e (bit_of rows k) refl ∙ sym (some-last k test))
    where
      test : ℕ → Bool
      test i = bit_of rows i && not (bit_of (at bars i) j)

      step : (k c : ℕ) → bit_of c j ≡ some k test → (t : Bool) → bit_of rows k ≡ t → bit_of (cond t (bit_or c (allowed_mask n (at bars k))) c) j ≡ (some k test || test k)
      step k c e true q = rw q (bit_of-bit_or c (allowed_mask n (at bars k)) j ∙ ap₂ ◌||◌ e (bit_others n (at bars k) j l))
      step k c e false q = rw q (e ∙ sym (or-false (some k test)))

  pub columns_below : ((i : ℕ) → i < n → at bars i < 2 ^ n) → (rows : ℕ) → columns_mask n bars rows < 2 ^ n
  unfolding columns_mask
  columns_below h rows =
      upward_keeps (λ k c. c < 2 ^ n) 0 n (λ i c. cond (bit_of rows i) (bit_or c (allowed_mask n (at bars i))) c) 0 (omega arith) (pow_pos n)
      (λ k c a b e. step k c b e (bit_of rows k))
    where
      step : (k c : ℕ) → k < n → c < 2 ^ n → (t : Bool) → cond t (bit_or c (allowed_mask n (at bars k))) c < 2 ^ n
      step k c b e true = or_lt n c (allowed_mask n (at bars k)) e (xor_lt n (2 ^ n - 1) (at bars k) (ones_lt n) (h k b))
      step k c b e false = e

  -- Counting ones tells of any set of rows whether its allowed columns are fewer.
  pub ones_iff : ((i : ℕ) → i < n → at bars i < 2 ^ n) → (rows : ℕ) → rows < 2 ^ n
      → (ones (columns_mask n bars rows) < ones rows) ↔ Blocked (barred n costs bars) (bit_of rows)
  ones_iff clear rows l = blocked_ones (barred n costs bars) rows (columns_mask n bars rows) l (columns_below clear rows) (columns_bits rows)

  module _ (cols : List ℕ) where
    -- The rows paired with a column of a set join.
    pub paired_bits : (columns rows k : ℕ) → k < n → bit_of (paired_mask n cols columns rows) k ≡ (bit_of rows k || bit_of columns (at cols k))
    unfolding paired_mask
    paired_bits columns rows k l =
        upward_keeps (λ t s. bit_of s k ≡ cond (ltb k t) joined (bit_of rows k)) 0 n (λ t s. cond (bit_of columns (at cols t)) (bit_or s (2 ^ t)) s) rows
        (omega arith) (rw (le-ltb k 0 (omega arith))) (λ t s a b e. step t s e (ℕ_discrete k t) (dec_lt k t))
        ∙ rw (lt-ltb k n l)
      where
        joined : Bool
        joined = bit_of rows k || bit_of columns (at cols k)

        unchanged : (t s : ℕ) → (k ≡ t → ⊥) → bit_of (cond (bit_of columns (at cols t)) (bit_or s (2 ^ t)) s) k ≡ bit_of s k
        unchanged t s d =
            bit_joined (bit_of columns (at cols t)) s t k
            ∙ ap (λ (b : Bool). bit_of s k || (bit_of columns (at cols t) && b)) (ne_eqb k t d)
            ∙ ap (λ (b : Bool). bit_of s k || b) (and-false (bit_of columns (at cols t))) ∙ or-false (bit_of s k)

        step : (t s : ℕ) → bit_of s k ≡ cond (ltb k t) joined (bit_of rows k) → Dec (k ≡ t) → Dec (k < t)
            → bit_of (cond (bit_of columns (at cols t)) (bit_or s (2 ^ t)) s) k ≡ cond (ltb k (suc t)) joined (bit_of rows k)
        step t s e (yes d) h =
            let f : bit_of s k ≡ bit_of rows k = rw (le-ltb k t (omega arith)) at e in
            rw (lt-ltb k (suc t) (omega arith))
            (bit_joined (bit_of columns (at cols t)) s t k
            ∙ ap₂ ◌||◌ f
            (ap (λ (b : Bool). bit_of columns (at cols t) && b) (eq-eqb k t d) ∙ and-true (bit_of columns (at cols t))
            ∙ ap (λ (x : ℕ). bit_of columns (at cols x)) (sym d)))
        step t s e (no d) (yes h) =
            let f : bit_of s k ≡ joined = rw (lt-ltb k t h) at e in
            rw (lt-ltb k (suc t) (omega arith)) (unchanged t s d ∙ f)
        step t s e (no d) (no h) =
            let f : bit_of s k ≡ bit_of rows k = rw (le-ltb k t (omega arith)) at e in
            rw (le-ltb k (suc t) (omega arith)) (unchanged t s d ∙ f)

    pub paired-below : (columns rows : ℕ) → rows < 2 ^ n → paired_mask n cols columns rows < 2 ^ n
    unfolding paired_mask
    paired-below columns rows h =
        upward_keeps (λ t s. s < 2 ^ n) 0 n (λ t s. cond (bit_of columns (at cols t)) (bit_or s (2 ^ t)) s) rows (omega arith) h
        (λ t s a b e. step t s b e (bit_of columns (at cols t)))
      where
        step : (t s : ℕ) → t < n → s < 2 ^ n → (u : Bool) → cond u (bit_or s (2 ^ t)) s < 2 ^ n
        step t s b e true = or_lt n s (2 ^ t) e (pow-lt b)
        step t s b e false = e

    pub reached_below : (i : ℕ) → i < n → reached_mask n bars cols i < 2 ^ n
    unfolding reached_mask
    reached_below i l =
        upward_keeps (λ r s. s < 2 ^ n) 0 n (λ r rows. paired_mask n cols (columns_mask n bars rows) rows) (2 ^ i) (omega arith) (pow-lt l)
        (λ r s a b e. paired-below (columns_mask n bars s) s e)

    module _ (inside : (k : ℕ) → k < n → at cols k < n) (i : ℕ) where
      abbrev night : Night
      night = barred n costs bars

      abbrev alone : List Bool
      alone = table n (λ k. eqb k i)

      -- The rows reached.
      pub reached_bits : (k : ℕ) → k < n → bit_of (reached_mask n bars cols i) k ≡ has (reached_from night cols i) k
      unfolding reached_mask reached_from
      reached_bits =
          upward_keeps (λ r s. (k : ℕ) → k < n → bit_of s k ≡ has (so_far r) k) 0 n (λ r rows. paired_mask n cols (columns_mask n bars rows) rows) (2 ^ i)
          (omega arith)
          (λ k l. bit_single i k ∙ sym (ap (λ (s : List Bool). has s k) (upward_none 0 0 (λ r. grow night cols) alone (omega arith)) ∙ get_d_table n (λ a. eqb a i) false k l))
          (λ r s a b e k l. paired_bits (columns_mask n bars s) s k l
          ∙ ap₂ ◌||◌ (e k l) (columns_bits s (at cols k) (inside k l) ∙ columns_cong night (bit_of s) (has (so_far r)) e (at cols k))
          ∙ sym (ap (λ (s : List Bool). has s k) (upward-last 0 r (λ r. grow night cols) alone (omega arith))
          ∙ get_d_table n (λ x. has (so_far r) x || columns_of night (has (so_far r)) (at cols x)) false k l))
        where
          so_far : ℕ → List Bool
          so_far r = upward 0 r (λ r. grow night cols) alone

      -- Where those rows are a set to show, so are the mask's bits, and its ones are more than those of its columns.
      pub mask_blocked : Blocked night (has (reached_from night cols i)) → Blocked night (bit_of (reached_mask n bars cols i))
      mask_blocked = blocked_cong night (has (reached_from night cols i)) (bit_of (reached_mask n bars cols i)) (λ k l. sym (reached_bits k l))

      pub mask_ones : i < n → ((k : ℕ) → k < n → at bars k < 2 ^ n) → Blocked night (has (reached_from night cols i))
          → ones (columns_mask n bars (reached_mask n bars cols i)) < ones (reached_mask n bars cols i)
      mask_ones l clear b = (ones_iff clear (reached_mask n bars cols i) (reached_below i l)).1 (mask_blocked b)
