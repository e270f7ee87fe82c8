-- Every refusal of the entries is one of the checker's, or of list 6 or the work room. So each is one number, its place being far below 2^48, but for
-- the row count of an oblong night; and carries the right slack: negative with a 9, positive with a 10, 0 with all others. Assumes nothing.
use mathlib.Core.Path.{◌≡◌, refl, sym, subst}
use mathlib.Core.List.{List}
use Prim.Native.Nat.{ℕ, ◌<◌}
use native.Mathlib.Omega.{arith}
use lib.Dec.{lit<}
use lib.IntN.{ℤ}
use lib.ListN.{length}
use Rattle.assignment.specs.Pairings.{Night}
use Rattle.matrix.specs.Answers.{totalled}
use Rattle.matrix.specs.Asked.{Tellable, TellableIn}
use Rattle.matrix.specs.Refusals.{number_of}
use Rattle.matrix.specs.Verdicts.{◌then◌}
use Rattle.matrix.specs.declared.refusals.Refusal.{Refusal}
use Rattle.matrix.specs.Verdicts.{Verdict}
use Rattle.std.specs.Prelude.{Ok, Err}
use Rattle.matrix.proofs.Codes.{rooms_small}
use Rattle.matrix.proofs.Reasons.{number_small}
use Rattle.matrix.proofs.Verdicts.{Every, then_every, Small, then_small, fails_if_small}
use Rattle.checker.specs.Check.{checks, check, checks_barred, check_barred, checks_oblong, check_oblong}
use Rattle.checker.specs.Slacks.{SlackRight}
use Rattle.checker.proofs.Codes.{check_places, check_barred_places}
use Rattle.checker.proofs.Slacks.{none_if, check_slacks, check_barred_slacks, check_oblong_slacks}
use Rattle.swaps.specs.Entries.{Lent, outcome, lent_long, second_tests, second_square, second_barred_tests, second_barred, second_oblong_tests, second_oblong}

-- ---- list 6 and the work room

lent_small : (m n : ℕ) (lent : Lent) → Small (lent_long m n lent)
lent_small m n lent =
    then_small _ _ (fails_if_small _ _ _ (λ e. lit< tt)) (λ e. rooms_small n (length lent.indices) (length lent.numbers))

lent_slacks : (m n : ℕ) (lent : Lent) → Every SlackRight (lent_long m n lent)
lent_slacks m n lent =
    then_every SlackRight _ _ (none_if _ _ _ (lit< tt)) (λ e. then_every SlackRight _ _ (none_if _ _ _ (lit< tt)) (λ f. none_if _ _ _ (lit< tt)))

-- ---- what holds of every refusal

-- Of the checker's answer, and so of its tests.
module _ (P : Refusal → Type 0) where
  of_answer : (verdict : Verdict) (total : ℤ) → ((refusal : Refusal) → totalled verdict total ≡ Err refusal → P refusal) → Every P verdict
  unfolding totalled
  of_answer (Ok _) total h = tt
  of_answer (Err refusal) total h = h refusal refl

  -- Of tests, and of others that are put behind the first of them.
  between : (rest : Verdict → Verdict) → ((refusal : Refusal) → rest (Err refusal) ≡ Err refusal) → (a b : Verdict) → Every P (rest a) → Every P b → Every P (rest (a then b))
  between rest handed (Ok _) (Ok _) h k = h
  between rest handed (Ok _) (Err refusal) h k = subst (Every P) (sym (handed refusal)) k
  between rest handed (Err refusal) b h k = h

  before_one : (a b c : Verdict) → Every P (a then c) → Every P b → Every P (a then b then c)
  before_one a b c = between (λ v. v then c) (λ r. refl) a b

  before_two : (a b c d : Verdict) → Every P (a then c then d) → Every P b → Every P (a then b then c then d)
  before_two a b c d = between (λ v. v then c then d) (λ r. refl) a b

  before_three : (a b c d e : Verdict) → Every P (a then c then d then e) → Every P b → Every P (a then b then c then d then e)
  before_three a b c d e = between (λ v. v then c then d then e) (λ r. refl) a b

  -- Of the verdict, and so of the outcome.
  in_outcome : (night : Night) (cols : List ℕ) (us vs : List ℤ) (lent : Lent) (verdict : Verdict) → Every P verdict
      → {refusal : Refusal} → (outcome night cols us vs lent verdict).answer ≡ Err refusal → P refusal
  unfolding outcome
  in_outcome night cols us vs lent (Ok _) h e = let z : ◌≡◌ {A = ℕ} 0 1 = cc in absurd (omega arith)
  in_outcome night cols us vs lent (Err given) h {refusal} e = let same : given ≡ refusal = cc e in subst P same h

small_answer : (verdict : Verdict) (total : ℤ) → TellableIn (totalled verdict total) → Small verdict
unfolding totalled
small_answer (Ok _) total h = tt
small_answer (Err refusal) total h = h

-- ---- the entries

module _ (n : ℕ) (costs : List ℤ) (cols rows : List ℕ) (us vs : List ℤ) (lent : Lent) {refusal : Refusal} (e : (second_square n costs cols rows us vs lent).answer ≡ Err refusal) where
  square_every : (P : Refusal → Type 0) → Every P (checks n costs cols rows us vs) → Every P (lent_long n n lent) → P refusal
  unfolding second_square second_tests checks
  square_every P h k = in_outcome P _ cols us vs lent _ (before_one P _ _ _ h k) e

  pub second_places : Tellable refusal
  unfolding check
  second_places = square_every Tellable (small_answer _ _ (check_places n costs cols rows us vs)) (lent_small n n lent)

  pub second_slacks : SlackRight refusal
  unfolding check
  second_slacks = square_every SlackRight (of_answer SlackRight _ _ (λ r f. check_slacks n costs cols rows us vs f)) (lent_slacks n n lent)

module _ (n : ℕ) (costs : List ℤ) (cols rows : List ℕ) (us vs : List ℤ) (bars : List ℕ) (lent : Lent) {refusal : Refusal} (e : (second_barred n costs cols rows us vs bars lent).answer ≡ Err refusal) where
  barred_every : (P : Refusal → Type 0) → Every P (checks_barred n costs cols rows us vs bars) → Every P (lent_long n n lent) → P refusal
  unfolding second_barred second_barred_tests checks_barred
  barred_every P h k = in_outcome P _ cols us vs lent _ (before_two P _ _ _ _ h k) e

  pub second_barred_places : Tellable refusal
  unfolding check_barred
  second_barred_places = barred_every Tellable (small_answer _ _ (check_barred_places n costs cols rows us vs bars)) (lent_small n n lent)

  pub second_barred_slacks : SlackRight refusal
  unfolding check_barred
  second_barred_slacks = barred_every SlackRight (of_answer SlackRight _ _ (λ r f. check_barred_slacks n costs cols rows us vs bars f)) (lent_slacks n n lent)

module _ (m n : ℕ) (costs : List ℤ) (cols : List ℕ) (us vs : List ℤ) (lent : Lent) {refusal : Refusal} (e : (second_oblong m n costs cols us vs lent).answer ≡ Err refusal) where
  oblong_every : (P : Refusal → Type 0) → Every P (checks_oblong m n costs cols us vs) → Every P (lent_long m n lent) → P refusal
  unfolding second_oblong second_oblong_tests checks_oblong
  oblong_every P h k = in_outcome P _ cols us vs lent _ (before_three P _ _ _ _ _ h k) e

  pub second_oblong_numbers : number_of refusal < 256
  second_oblong_numbers = number_small refusal.reason

  pub second_oblong_slacks : SlackRight refusal
  unfolding check_oblong
  second_oblong_slacks = oblong_every SlackRight (of_answer SlackRight _ _ (λ r f. check_oblong_slacks m n costs cols us vs f)) (lent_slacks m n lent)
