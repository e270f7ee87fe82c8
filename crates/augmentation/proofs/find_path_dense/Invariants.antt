-- `find_path_dense` is the search: its two loops are the definition's, block by block and column by column. Assumes nothing.
use Prim.Native.Nat.{◌-◌}
use lib.ListN.{length}
use Rattle.augmentation.proofs.Loops.{Between, InScan}
use Rattle.augmentation.proofs.find_path_dense.Given as goal

abbrev pub invariant-loop-scan : goal.invariant-loop-scan
invariant-loop-scan l = InScan (length l.rows) l.costs l.rows l.start l.v l.initial.d l.initial.list l.initial.predecessors l.initial.scan.lo l.initial.scan.hi l.initial.scanned
    l.d l.list l.predecessors l.scan.lo l.scan.hi l.scanned

abbrev pub decreases-loop-scan : goal.decreases-loop-scan
decreases-loop-scan l = length l.rows - l.scan.lo

abbrev pub invariant-search : goal.invariant-search
invariant-search l = Between (length l.rows) l.costs l.rows l.start l.v l.initial.d l.initial.list l.initial.predecessors l.d l.list l.predecessors l.cursor.hi l.scanned

abbrev pub decreases-search : goal.decreases-search
decreases-search l = length l.rows - l.cursor.hi
