-- What the slack that a refusal of the checker carries is like.
use Rattle.std.specs.Prelude.{◌≡◌, ◌*◌, pos, ◌<ℤ◌}
use Rattle.ints.specs.Parts.{Within}
use Rattle.matrix.specs.Limits.{K}
use Rattle.matrix.specs.Refusals.{number, number_of, slack_of}
use Rattle.matrix.specs.declared.refusals.Reason.TheVariants.{PricesOverCost, PricesNotCost}
use Rattle.matrix.specs.declared.refusals.Refusal.{Refusal}

-- A 9 has a negative one and a 10 a positive one, "all other refusals carry 0"; and it is never past 21K, so that 64 bits hold it.
pub record SlackRight (refusal : Refusal) : Type 0 where
  pub nine_negative : number_of refusal ≡ number PricesOverCost → slack_of refusal <ℤ pos 0
  pub ten_positive : number_of refusal ≡ number PricesNotCost → pos 0 <ℤ slack_of refusal
  pub others_none : ¬ (number_of refusal ≡ number PricesOverCost) → ¬ (number_of refusal ≡ number PricesNotCost) → slack_of refusal ≡ pos 0
  pub within : Within (21 * K) (slack_of refusal)
