-- An oblong night made square: with rows of zeros added below, in which every place is allowed.
use Rattle.std.specs.Prelude.{true, cond, ltb, pos}
use Rattle.assignment.specs.Pairings.{Night}

-- "with n-m rows of zeros added below"
abbrev pub padded : Night → Night
padded night = record {
  row_count = night.column_count;
  column_count = night.column_count;
  cost = λ i j. cond (ltb i night.row_count) (night.cost i j) (pos 0);
  allowed = λ i j. cond (ltb i night.row_count) (night.allowed i j) true;
}
