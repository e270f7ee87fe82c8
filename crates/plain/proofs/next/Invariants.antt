-- `next` leaves the list after the one it is lent: what stands before i and is not yet written goes on, what stands from i on is written. Assumes nothing.
use Rattle.std.proofs.Common.{◌≡◌, ◌++◌, length, drop}
use Rattle.plain.proofs.Numbers.{Below}
use Rattle.plain.proofs.Following.{after, more}
use Rattle.plain.proofs.next.Given as goal

abbrev pub invariant-loop-i : goal.invariant-loop-i
invariant-loop-i l = record {
  below : Below l.n l.i l.list;
  list : after l.n l.i l.list ++ drop l.i l.list ≡ after l.n (length l.initial.list) l.initial.list;
  following : more l.n l.i l.list ≡ more l.n (length l.initial.list) l.initial.list;
}
