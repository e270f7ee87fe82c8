-- Lists of columns as numbers: every list of columns below n has its number, every number below n ^ m its list, and dictionary order is the order of
-- numbers. Assumes nothing.
use mathlib.Core.Path.{◌≡◌, refl, sym, ap, ◌∙◌, subst}
use mathlib.Core.List.{List, [], ◌∷◌, ◌++◌}
use Prim.Native.Nat.{ℕ, zero, suc, ◌+◌, ◌*◌, ◌^◌, ◌/◌, ◌%◌, ◌≤◌, ◌<◌}
use native.Mathlib.Decide.{dec_lt}
use native.Mathlib.Nat.{mul-le-mul_right, mul-add-div_right, mul-add-mod_self_right, div-eq_of_lt, mod-eq_of_lt, mod-lt, div-add-mod', div-lt_iff_lt-mul, add-zero, pow-zero, pow-suc}
use native.Mathlib.Omega.{arith}
use lib.ListN.{length, take, length-append, get_or-append}
use lib.Seq.{get_or_at, get_or-take, length-take-le}
use Rattle.lists.specs.Permutations.{at, table}
use Rattle.lists.proofs.Tables.{get_d_table, table_get_d, table_cong}
use Rattle.plain.specs.Engine.{digits}

-- The number whose digits are the first m entries of a list.
unfoldable pub number : ℕ → ℕ → List ℕ → ℕ
number n zero cols = 0
number n (suc m) cols = number n m cols * n + at cols m

-- The first m entries of a list are below n.
abbrev pub Below : ℕ → ℕ → List ℕ → Type 0
Below n m cols = (i : ℕ) → i < m → at cols i < n

pub below_fewer : (n m : ℕ) (cols : List ℕ) → Below n (suc m) cols → Below n m cols
below_fewer n m cols h i l = h i (omega arith)

pub length_digits : (n m k : ℕ) → length (digits n m k) ≡ m
unfolding digits
length_digits n zero k = refl
length_digits n (suc m) k = omega (arith, length-append (digits n m (k / n)) (k % n ∷ []), length_digits n m (k / n))

-- The lowest digit, and the others.
at_last : (n m k : ℕ) → at (digits n (suc m) k) m ≡ k % n
unfolding digits
at_last n m k = get_or_at (digits n m (k / n)) (k % n) [] 0 m (length_digits n m (k / n))

at_before : (n m k i : ℕ) → i < m → at (digits n (suc m) k) i ≡ at (digits n m (k / n)) i
unfolding digits
at_before n m k i l = get_or-append (digits n m (k / n)) (k % n ∷ []) 0 i (omega (arith, length_digits n m (k / n)))

-- Every digit is below n.
pub digits-below : (n m k : ℕ) → 0 < n → Below n m (digits n m k)
digits-below n zero k h i l = absurd (omega arith)
digits-below n (suc m) k h i l = by (dec_lt i m) (digits-below n m (k / n) h i)
  where
    by : Dec (i < m) → (i < m → at (digits n m (k / n)) i < n) → at (digits n (suc m) k) i < n
    by (yes b) ih = rw (at_before n m k i b) (ih b)
    by (no b) ih = let e : m ≡ i = omega arith in subst (λ (x : ℕ). at (digits n (suc m) k) x < n) e (rw (at_last n m k) (mod-lt k h))

-- A number with one digit more, taken apart.
pub digit_off : (n a d : ℕ) → d < n → (a * n + d) / n ≡ a
digit_off n a d l = mul-add-div_right {m = n} (omega arith) a d ∙ ap (λ (x : ℕ). a + x) (div-eq_of_lt l) ∙ add-zero a

pub digit_last : (n a d : ℕ) → d < n → (a * n + d) % n ≡ d
digit_last n a d l = mul-add-mod_self_right a n d ∙ mod-eq_of_lt l

pub digits_more : (n m a d : ℕ) → d < n → digits n (suc m) (a * n + d) ≡ digits n m a ++ (d ∷ [])
unfolding digits
digits_more n m a d l = rw (digit_off n a d l, digit_last n a d l) refl

-- The digits of a list's number are its entries.
digits-table : (n m : ℕ) (cols : List ℕ) → Below n m cols → digits n m (number n m cols) ≡ table m (at cols)
unfolding digits number table
digits-table n zero cols h = refl
digits-table n (suc m) cols h =
    rw (digit_off n (number n m cols) (at cols m) (h m (omega arith)), digit_last n (number n m cols) (at cols m) (h m (omega arith)))
    (ap (λ (l : List ℕ). l ++ (at cols m ∷ [])) (digits-table n m cols (below_fewer n m cols h)))

pub digits-take : (n m : ℕ) (cols : List ℕ) → m ≤ length cols → Below n m cols → digits n m (number n m cols) ≡ take m cols
digits-take n m cols enough h =
    digits-table n m cols h ∙ table_cong m (at cols) (at (take m cols)) (λ i l. sym (get_or-take m cols i 0 l))
    ∙ subst (λ (k : ℕ). table k (at (take m cols)) ≡ take m cols) (length-take-le m cols enough) (table_get_d (take m cols) 0)

pub digits_number : (n m : ℕ) (cols : List ℕ) → length cols ≡ m → Below n m cols → digits n m (number n m cols) ≡ cols
digits_number n m cols size h = digits-table n m cols h ∙ subst (λ (k : ℕ). table k (at cols) ≡ cols) size (table_get_d cols 0)

-- Only the first m entries count.
pub number_cong : (n m : ℕ) (cols other : List ℕ) → ((i : ℕ) → i < m → at cols i ≡ at other i) → number n m cols ≡ number n m other
unfolding number
number_cong n zero cols other e = refl
number_cong n (suc m) cols other e = cc (number_cong n m cols other (λ i l. e i (omega arith)), e m (omega arith))

-- A list's number is below n ^ m.
pub number_below : (n m : ℕ) (cols : List ℕ) → Below n m cols → number n m cols < n ^ m
unfolding number
number_below n zero cols h = omega (arith, pow-zero n)
number_below n (suc m) cols h =
    let ih : suc (number n m cols) * n ≤ n ^ m * n = mul-le-mul_right n (number_below n m cols (below_fewer n m cols h)) in
    let e : suc (number n m cols) * n ≡ number n m cols * n + n = omega arith in
    omega (arith, pow-suc n m, h m (omega arith))

-- The number of k's digits is k.
some_base : (n m k : ℕ) → k < n ^ suc m → 0 < n
some_base zero m k l = absurd (omega (arith, pow-suc 0 m))
some_base (suc n) m k l = omega arith

pub number_digits : (n m k : ℕ) → k < n ^ m → number n m (digits n m k) ≡ k
unfolding number
number_digits n zero k l = omega (arith, pow-zero n)
number_digits n (suc m) k l =
    let q : k / n < n ^ m = (div-lt_iff_lt-mul {k = n} {x = k} {y = n ^ m} (some_base n m k l)).1 (rw (sym (pow-suc n m)) l) in
    let e : number n m (digits n (suc m) k) ≡ k / n =
    number_cong n m (digits n (suc m) k) (digits n m (k / n)) (at_before n m k) ∙ number_digits n m (k / n) q in
    rw (e, at_last n m k) (div-add-mod' k n)

-- One list comes before another in dictionary order: they are the same up to a place, and there it is the lower.
pub record Before (m : ℕ) (cols other : List ℕ) : Type 0 where
  pub place : ℕ
  pub reach : place < m
  pub same : (i : ℕ) → i < place → at cols i ≡ at other i
  pub lower : at cols place < at other place

-- a next digit changes nothing between different numbers
wider : (n a b d : ℕ) → a < b → d < n → a * n + d < b * n
wider n a b d l h =
    let s : suc a * n ≤ b * n = mul-le-mul_right n l in
    let e : suc a * n ≡ a * n + n = omega arith in
    omega arith

-- What comes before in dictionary order has the lower number,
pub before_lower : (n m : ℕ) (cols other : List ℕ) → Below n m cols → Before m cols other → number n m cols < number n m other
unfolding number
before_lower n zero cols other h b = absurd (omega (arith, b.reach))
before_lower n (suc m) cols other h b =
    by (dec_lt b.place m)
    (λ l. before_lower n m cols other (below_fewer n m cols h) (record { place = b.place; reach = l; same = b.same; lower = b.lower }))
  where
    by : Dec (b.place < m) → (b.place < m → number n m cols < number n m other) → number n m cols * n + at cols m < number n m other * n + at other m
    by (yes l) ih = omega (arith, wider n (number n m cols) (number n m other) (at cols m) (ih l) (h m (omega arith)))
    by (no l) ih =
        let q : b.place ≡ m = omega (arith, b.reach) in
        let c : number n m cols ≡ number n m other = number_cong n m cols other (λ i k. b.same i (omega arith)) in
        rw c (omega (arith, subst (λ (x : ℕ). at cols x < at other x) q b.lower))

-- and the lower number comes before.
pub lower_before : (n m : ℕ) (cols other : List ℕ) → Below n m cols → Below n m other → number n m cols < number n m other → Before m cols other
unfolding number
lower_before n zero cols other h g l = absurd (omega arith)
lower_before n (suc m) cols other h g l =
    by (dec_lt (number n m cols) (number n m other)) (dec_lt (number n m other) (number n m cols))
    (lower_before n m cols other (below_fewer n m cols h) (below_fewer n m other g))
  where
    by : Dec (number n m cols < number n m other) → Dec (number n m other < number n m cols)
        → (number n m cols < number n m other → Before m cols other) → Before (suc m) cols other
    by (yes a) d ih = let b = ih a in record { place = b.place; reach = omega (arith, b.reach); same = b.same; lower = b.lower }
    by (no a) (yes d) ih = absurd (omega (arith, wider n (number n m other) (number n m cols) (at other m) d (g m (omega arith))))
    by (no a) (no d) ih =
        let e : number n m cols ≡ number n m other = omega arith in
        let f : table m (at cols) ≡ table m (at other) =
        sym (digits-table n m cols (below_fewer n m cols h)) ∙ ap (digits n m) e ∙ digits-table n m other (below_fewer n m other g) in
        record {
          place = m;
          reach = omega arith;
          same = λ i k. sym (get_d_table m (at cols) 0 i k) ∙ ap (λ (t : List ℕ). at t i) f ∙ get_d_table m (at other) 0 i k;
          lower = omega (arith, ap (λ (x : ℕ). x * n) e);
        }
