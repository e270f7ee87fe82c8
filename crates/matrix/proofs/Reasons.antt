-- The scope's numbers tell the reasons apart. Assumes nothing.
use mathlib.Core.Path.{◌≡◌, refl, sym, ap, ◌∙◌}
use mathlib.Core.List.{[], ◌∷◌}
use Prim.Native.Nat.{ℕ, ◌-◌, ◌<◌}
use lib.Dec.{lit<}
use lib.ListN.{get_or}
use Rattle.matrix.specs.Refusals.{number, SideOver, CostsLength, ListLength, RoomShort, CostOutside, ColumnOutside, RowNotNamed, PriceOutside, PricesOverCost, PricesNotCost, NoMark, EditionUnknown, SheetSideOver, DistanceWrong, DistancePastBytes, SlipRoomShort, SheetOver, ReferenceLength, CharacterUnknown, NoPairing, NoteUnfit, BarsPastSide, RowsOver, PriceFar, SlipWrong, BarredPair, SpareBelow, SheetEnded}
use Rattle.matrix.specs.declared.refusals.Reason.{Reason}

-- The reason with a number.
abbrev named : ℕ → Reason
named k = get_or (SideOver ∷ CostsLength ∷ ListLength ∷ RoomShort ∷ CostOutside ∷ ColumnOutside ∷ RowNotNamed ∷ PriceOutside ∷ PricesOverCost ∷ PricesNotCost ∷ NoMark ∷ EditionUnknown ∷ SheetSideOver ∷ DistanceWrong ∷ DistancePastBytes ∷ SlipRoomShort ∷ SheetOver ∷ ReferenceLength ∷ CharacterUnknown ∷ NoPairing ∷ NoteUnfit ∷ BarsPastSide ∷ RowsOver ∷ PriceFar ∷ SlipWrong ∷ BarredPair ∷ SpareBelow ∷ SheetEnded ∷ []) (k - 1) SideOver

named-number : (reason : Reason) → named (number reason) ≡ reason
named-number SideOver = refl
named-number CostsLength = refl
named-number ListLength = refl
named-number RoomShort = refl
named-number CostOutside = refl
named-number ColumnOutside = refl
named-number RowNotNamed = refl
named-number PriceOutside = refl
named-number PricesOverCost = refl
named-number PricesNotCost = refl
named-number NoMark = refl
named-number EditionUnknown = refl
named-number SheetSideOver = refl
named-number DistanceWrong = refl
named-number DistancePastBytes = refl
named-number SlipRoomShort = refl
named-number SheetOver = refl
named-number ReferenceLength = refl
named-number CharacterUnknown = refl
named-number NoPairing = refl
named-number NoteUnfit = refl
named-number BarsPastSide = refl
named-number RowsOver = refl
named-number PriceFar = refl
named-number SlipWrong = refl
named-number BarredPair = refl
named-number SpareBelow = refl
named-number SheetEnded = refl

pub numbers_apart : (q r : Reason) → number q ≡ number r → q ≡ r
numbers_apart q r e = sym (named-number q) ∙ ap named e ∙ named-number r

pub number_small : (reason : Reason) → number reason < 256
number_small SideOver = lit< tt
number_small CostsLength = lit< tt
number_small ListLength = lit< tt
number_small RoomShort = lit< tt
number_small CostOutside = lit< tt
number_small ColumnOutside = lit< tt
number_small RowNotNamed = lit< tt
number_small PriceOutside = lit< tt
number_small PricesOverCost = lit< tt
number_small PricesNotCost = lit< tt
number_small NoMark = lit< tt
number_small EditionUnknown = lit< tt
number_small SheetSideOver = lit< tt
number_small DistanceWrong = lit< tt
number_small DistancePastBytes = lit< tt
number_small SlipRoomShort = lit< tt
number_small SheetOver = lit< tt
number_small ReferenceLength = lit< tt
number_small CharacterUnknown = lit< tt
number_small NoPairing = lit< tt
number_small NoteUnfit = lit< tt
number_small BarsPastSide = lit< tt
number_small RowsOver = lit< tt
number_small PriceFar = lit< tt
number_small SlipWrong = lit< tt
number_small BarredPair = lit< tt
number_small SpareBelow = lit< tt
number_small SheetEnded = lit< tt
