-- A hall of tests: what is passed where all is passed, and what holds of every refusal. Assumes nothing.
use mathlib.Core.Path.{◌≡◌, refl, sym, ap, ap₂, ◌∙◌, subst}
use mathlib.Core.Bool.{Bool, true, false}
use mathlib.Core.Logic.{◌↔◌}
use Prim.Native.Nat.{ℕ, ◌^◌, ◌≤◌, ◌<◌}
use native.Mathlib.Omega.{arith}
use borrow.Author.Tests.{lt-ltb, le-ltb, ltb-false, ltb-true}
use lib.Dec.{ltb}
use lib.IntN.{ℤ, pos}
use Rattle.lists.specs.Runs.{first, Finds}
use Rattle.matrix.specs.Asked.{Tellable}
use Rattle.matrix.specs.Verdicts.{Passes, ◌then◌, bare, fails_by, fails_if, fails_at_by, fails_at, fails_found}
use Rattle.matrix.specs.Answers.{bare_answer, totalled}
use Rattle.matrix.specs.declared.refusals.Reason.{Reason}
use Rattle.matrix.specs.declared.refusals.Refusal.{Refusal}
use Rattle.std.specs.Prelude.{Ok, Err, Option, Some, None}
use Rattle.matrix.specs.Verdicts.{Verdict}
use Rattle.lists.proofs.Runs.{first-at, first_none, first_holds, first_before}
use Rattle.matrix.proofs.First.{Clear, ended, nowhere, first_cong}

-- A refusal is no pass.
pub fails_no_pass : {refusal : Refusal} → Passes (Err refusal) → ⊥
fails_no_pass e = let z : ◌≡◌ {A = ℕ} 0 1 = cc in absurd (omega arith)

-- ---- two tests

pub then_iff : (a b : Verdict) → Passes (a then b) ↔ (Passes a × Passes b)
then_iff (Ok _) b = (λ e. (refl, e), λ h. h.1)
then_iff (Err refusal) b = (λ e. absurd (fails_no_pass e), λ h. absurd (fails_no_pass h.0))

pub passed_first : (a b : Verdict) → Passes (a then b) → Passes a
passed_first a b e = ((then_iff a b).0 e).0

-- What code does: a refusal is handed on, and after a pass the next test decides.
pub fails_then : {a : Verdict} (b : Verdict) {refusal : Refusal} → a ≡ Err refusal → Err refusal ≡ (a then b)
fails_then b e = rw e

pub passed_then : {a : Verdict} (b : Verdict) {answer : Verdict} → a ≡ (Ok tt) → answer ≡ b → answer ≡ (a then b)
passed_then b e f = rw e f

-- One test after another: what the tests before answered is what their definition says.
pub after : {answer before said : Verdict} (b : Verdict) → answer ≡ (before then b) → before ≡ said → answer ≡ (said then b)
after b e f = e ∙ ap (λ (a : Verdict). a then b) f

-- Tests after others are the tests of a longer chain.
pub then_assoc : (a b c : Verdict) → (a then b then c) ≡ (a then (b then c))
then_assoc (Ok _) b c = refl
then_assoc (Err refusal) b c = refl

-- ---- one test

pub fails_by_iff : (reason : Reason) (place : ℕ) (slack : ℤ) (test : Bool) → Passes (fails_by reason place slack test) ↔ (test ≡ false)
unfolding fails_by
fails_by_iff reason place slack true = (λ e. absurd (fails_no_pass e), λ e. let z : ◌≡◌ {A = ℕ} 0 1 = cc in absurd (omega arith))
fails_by_iff reason place slack false = (λ e. refl, λ e. refl)

pub fails_if_iff : (reason : Reason) (place : ℕ) (test : Bool) → Passes (fails_if reason place test) ↔ (test ≡ false)
fails_if_iff reason place test = fails_by_iff reason place (pos 0) test

-- The refusal is given, and decides.
pub refused_then : (reason : Reason) (place : ℕ) (test : Bool) (b : Verdict) {answer : Verdict} → test ≡ true → answer ≡ fails_if reason place true → answer ≡ (fails_if reason place test then b)
unfolding fails_by
refused_then reason place test b e f = f ∙ fails_then b (ap (fails_if reason place) e)

pub fails_at_by_iff : (reason : Reason) (place : ℕ → ℕ) (slack : ℕ → ℤ) (n : ℕ) (test : ℕ → Bool) → Passes (fails_at_by reason place slack n test) ↔ Clear test n
unfolding fails_at_by
fails_at_by_iff reason place slack n test = (
  λ e. nowhere test n (ltb-false (first n test) n ((fails_by_iff reason (place (first n test)) (slack (first n test)) _).0 e)),
  λ clear. (fails_by_iff reason (place (first n test)) (slack (first n test)) _).1 (le-ltb (first n test) n (omega (arith, ended test n n refl clear))),
)

pub fails_at_iff : (reason : Reason) (place : ℕ → ℕ) (n : ℕ) (test : ℕ → Bool) → Passes (fails_at reason place n test) ↔ Clear test n
fails_at_iff reason place n test = fails_at_by_iff reason place (λ k. pos 0) n test

-- ---- what code does with a place k that a search found

module _ (reason : Reason) (place : ℕ → ℕ) (slack : ℕ → ℤ) (n : ℕ) (test : ℕ → Bool) {k : ℕ} (e : k ≡ first n test) where
  failed_at_by : fails_by reason (place k) (slack k) (ltb k n) ≡ fails_at_by reason place slack n test
  unfolding fails_at_by
  failed_at_by = ap (λ (i : ℕ). fails_by reason (place i) (slack i) (ltb i n)) e

  pub clear_at_by : n ≤ k → Passes (fails_at_by reason place slack n test)
  clear_at_by h = sym failed_at_by ∙ (fails_by_iff reason (place k) (slack k) (ltb k n)).1 (le-ltb k n h)

  pub found_at_by : k < n → fails_by reason (place k) (slack k) true ≡ fails_at_by reason place slack n test
  found_at_by l = ap (fails_by reason (place k) (slack k)) (sym (lt-ltb k n l)) ∙ failed_at_by

module _ (reason : Reason) (place : ℕ → ℕ) (n : ℕ) (test : ℕ → Bool) {k : ℕ} (e : k ≡ first n test) where
  pub failed_at : fails_if reason (place k) (ltb k n) ≡ fails_at reason place n test
  failed_at = failed_at_by reason place (λ i. pos 0) n test e

  pub clear_at : n ≤ k → Passes (fails_at reason place n test)
  clear_at = clear_at_by reason place (λ i. pos 0) n test e

  -- The refusal is given, and decides.
  pub found_then : (b : Verdict) {answer : Verdict} → k < n → answer ≡ fails_if reason (place k) true → answer ≡ (fails_at reason place n test then b)
  unfolding fails_by
  found_then b l f = f ∙ fails_then b (sym (found_at_by reason place (λ i. pos 0) n test e l))

-- ---- what code does with what a search answered

pub found_fails : (reason : Reason) (place : ℕ → ℕ) (n : ℕ) (test : ℕ → Bool) (found : Option ℕ) → Finds n test found → fails_found reason place found ≡ fails_at reason place n test
unfolding fails_at_by fails_by
found_fails reason place n test None h =
    sym (ap (λ (b : Bool). fails_by reason (place (first n test)) (pos 0) b) (le-ltb (first n test) n (omega (arith, first_none test n h))))
found_fails reason place n test (Some i) h =
    let e : first n test ≡ i = first-at test n i h.0 h.1 h.2 in
    sym (ap (λ (k : ℕ). fails_by reason (place k) (pos 0) (ltb k n)) e ∙ ap (λ (b : Bool). fails_by reason (place i) (pos 0) b) (lt-ltb i n h.0))

-- ---- an answer

pub fails_totalled : {verdict : Verdict} (total : ℤ) {refusal : Refusal} → verdict ≡ Err refusal → Err refusal ≡ totalled verdict total
unfolding totalled
fails_totalled total e = rw e

pub passed_totalled : {verdict : Verdict} {total answer : ℤ} → Passes verdict → answer ≡ total → Ok answer ≡ totalled verdict total
unfolding totalled
passed_totalled e f = rw e (ap Ok f)

pub totalled_iff : (verdict : Verdict) (total : ℤ) {t : ℤ} → (totalled verdict total ≡ Ok t) ↔ (Passes verdict × (t ≡ total))
unfolding totalled
totalled_iff (Ok _) total = (λ e. (refl, sym (cc e)), λ h. ap Ok (sym h.1))
totalled_iff (Err refusal) total = (λ e. let z : ◌≡◌ {A = ℕ} 0 1 = cc in absurd (omega arith), λ h. absurd (fails_no_pass h.0))

-- ---- number and place, whatever the slack

bare_both : (a b : Verdict) → bare (a then b) ≡ (bare a then bare b)
unfolding bare
bare_both (Ok _) b = refl
bare_both (Err refusal) b = refl

pub bare_then : (a b : Verdict) {c d : Verdict} → bare a ≡ c → bare b ≡ d → bare (a then b) ≡ (c then d)
bare_then a b e f = bare_both a b ∙ ap₂ ◌then◌ e f

pub bare_if : (reason : Reason) (place : ℕ) (slack : ℤ) (test : Bool) → bare (fails_by reason place slack test) ≡ fails_if reason place test
unfolding bare fails_by
bare_if reason place slack true = refl
bare_if reason place slack false = refl

pub bare-at : (reason : Reason) (place : ℕ → ℕ) (slack : ℕ → ℤ) (n : ℕ) (test : ℕ → Bool) → bare (fails_at_by reason place slack n test) ≡ fails_at reason place n test
unfolding fails_at_by
bare-at reason place slack n test = bare_if reason (place (first n test)) (slack (first n test)) (ltb (first n test) n)

pub bare-totalled : (verdict : Verdict) (total : ℤ) → bare_answer (totalled verdict total) ≡ totalled (bare verdict) total
unfolding bare bare_answer totalled
bare-totalled (Ok _) total = refl
bare-totalled (Err refusal) total = refl

-- Only the places below n count, and of their places in the night that of the first.
pub fails_at_cong : (reason : Reason) (n : ℕ) (place other : ℕ → ℕ) (test same : ℕ → Bool) → ((i : ℕ) → place i ≡ other i) → ((i : ℕ) → i < n → test i ≡ same i)
    → fails_at reason place n test ≡ fails_at reason other n same
unfolding fails_at_by
fails_at_cong reason n place other test same e f =
    let k = first_cong n test same f in
    ap₂ (λ (p i : ℕ). fails_if reason p (ltb i n)) (e (first n test) ∙ ap other k) k

-- ---- what holds of every refusal

-- A property of the refusal, where there is one.
abbrev pub Every : (Refusal → Type 0) → Verdict → Type 0
Every P (Ok _) = Unit {0}
Every P (Err refusal) = P refusal

module _ (P : Refusal → Type 0) where
  pub then_every : (a b : Verdict) → Every P a → (Passes a → Every P b) → Every P (a then b)
  then_every (Ok _) b h f = f refl
  then_every (Err refusal) b h f = h

  pub fails_by_every : (reason : Reason) (place : ℕ) (slack : ℤ) (test : Bool) → (test ≡ true → P (record { reason = reason; place = place; slack = slack }))
      → Every P (fails_by reason place slack test)
  unfolding fails_by
  fails_by_every reason place slack true f = f refl
  fails_by_every reason place slack false f = tt

  pub fails_at_by_every : (reason : Reason) (place : ℕ → ℕ) (slack : ℕ → ℤ) (n : ℕ) (test : ℕ → Bool)
      → ((k : ℕ) → k < n → test k ≡ true → Clear test k → P (record { reason = reason; place = place k; slack = slack k })) → Every P (fails_at_by reason place slack n test)
  unfolding fails_at_by
  fails_at_by_every reason place slack n test f =
      fails_by_every reason (place (first n test)) (slack (first n test)) _
      (λ e. let l = ltb-true (first n test) n e in f (first n test) l (first_holds test n l) (first_before test n))

pub refused_every : (P : Refusal → Type 0) (verdict : Verdict) (total : ℤ) {refusal : Refusal} → Every P verdict → totalled verdict total ≡ Err refusal → P refusal
unfolding totalled
refused_every P (Ok _) total h e = let z : ◌≡◌ {A = ℕ} 0 1 = cc in absurd (omega arith)
refused_every P (Err given) total {refusal} h e = let same : given ≡ refusal = cc e in subst P same h

-- ---- refusals that one number tells

abbrev pub Small : Verdict → Type 0
Small verdict = Every Tellable verdict

pub then_small : (a b : Verdict) → Small a → (Passes a → Small b) → Small (a then b)
then_small = then_every Tellable

pub fails_if_small : (reason : Reason) (place : ℕ) (test : Bool) → (test ≡ true → place < 2 ^ 48) → Small (fails_if reason place test)
fails_if_small reason place test f = fails_by_every Tellable reason place (pos 0) test f

pub fails_at_by_small : (reason : Reason) (place : ℕ → ℕ) (slack : ℕ → ℤ) (n : ℕ) (test : ℕ → Bool) → ((k : ℕ) → k < n → place k < 2 ^ 48) → Small (fails_at_by reason place slack n test)
fails_at_by_small reason place slack n test f = fails_at_by_every Tellable reason place slack n test (λ k l e clear. f k l)

pub fails_at_small : (reason : Reason) (place : ℕ → ℕ) (n : ℕ) (test : ℕ → Bool) → ((k : ℕ) → k < n → place k < 2 ^ 48) → Small (fails_at reason place n test)
fails_at_small reason place n test = fails_at_by_small reason place (λ k. pos 0) n test
