-- `digits` writes the digits before the last first: the number falls. Assumes nothing.
use Rattle.lines.proofs.text.Text.+digits.Given as goal

abbrev pub decreases-digits : goal.decreases-digits
decreases-digits l = l.x
