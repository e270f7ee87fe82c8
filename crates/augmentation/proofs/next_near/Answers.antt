use Rattle.std.proofs.Common.{rules, ◌≡◌, ℕ, ◌<◌, ◌≤◌, Bool, true, false, Option, Some, None, arith}
use lib.Signed.{le_z}
use Rattle.augmentation.specs.Block.{distance_at}
use Rattle.lists.specs.Runs.{FindsFrom}
use Rattle.augmentation.proofs.next_near.Goals as goal

abbrev Finding : ℕ → ℕ → (ℕ → Type 0) → (ℕ → Type 0) → Option ℕ → Type 0
Finding a b N Y None = (k : ℕ) → a ≤ k → k < b → N k
Finding a b N Y (Some i) = (a ≤ i) × (i < b) × Y i × ((k : ℕ) → a ≤ k → k < i → N k)

both : (a b : ℕ) {N Y : ℕ → Type 0} (Q : ℕ → Bool → Type 0) (r : Option ℕ) → ((k : ℕ) → k < b → N k → Q k false) → ((k : ℕ) → k < b → Y k → Q k true) → Finding a b N Y r → FindsFrom a b Q r
both a b Q None f g h = λ k l m. f k m (h k l m)
both a b Q (Some i) f g h = (h.0, h.1, g i h.1 h.2, λ k l m. f k (omega arith) (h.3 k l m))

pub returns : goal.returns
returns c =
    let u = c.args in
    both _ _ (λ k t. t ≡ le_z (distance_at u.d.now u.list.now k) u.minimum) c.first_from.result (λ k l e. search rules) (λ k l e. search rules) c.first_from.ensures
