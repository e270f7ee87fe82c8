use mathlib.Core.Path.{◌≡◌, ap, sym, ◌∙◌}
use native.Mathlib.Omega.{arith}
use lib.ListN.{length}
use Rattle.rules.specs.declared.Cursor.{Cursor}
use Rattle.augmentation.proofs.Loops.{Leaving, leaving_at, started_all}
use Rattle.augmentation.proofs.ScanLoop as scans
use Rattle.augmentation.proofs.Search as laws
use Rattle.augmentation.proofs.Leave as leave
use Rattle.augmentation.proofs.find_path_dense.Goals.{in-Some, in_default+then-loop-scan-test+in-Break}
use Rattle.augmentation.proofs.find_path_dense.Goals as goal
use Rattle.augmentation.proofs.find_path_dense.Lts as Lts
use Rattle.augmentation.proofs.find_path_dense.Reads as Reads
use Rattle.augmentation.proofs.find_path_dense.Tie as Tie

pub search-init : goal.search-init
search-init c = laws.first-between _ _ _ _ _ c.requires.can _ _ _ (started_all _ _ _ _ _ c.requires.can c.start_search.ensures)

pub find_dense-hi-requires : goal.find_dense-hi-requires
find_dense-hi-requires c =
    let B = c.search.invariant in
    rw (laws.sizes _ _ _ _ _ c.requires.can B).0 (laws.lo_below _ _ _ _ _ c.requires.can B, laws.listed _ _ _ _ _ c.requires.can B)

pub last_free-requires : goal.last_free-requires
last_free-requires c =
    let i = laws.hi_in _ _ _ _ _ c.requires.can c.search.invariant _ _ c.find_dense-hi.ensures.0 c.find_dense-hi.ensures.1 in
    (omega arith, i.1, laws.fresh_listed _ _ _ _ _ c.requires.can c.search.invariant _ _ c.find_dense-hi.ensures.0 c.find_dense-hi.ensures.1)

pub loop-scan-init : goal.loop-scan-init
loop-scan-init c =
    laws.first_scan _ _ _ _ _ c.requires.can c.search.invariant _ _ c.find_dense-hi.ensures.0 c.find_dense-hi.ensures.1 (sym c.in_default.is ∙ c.last_free.ensures)

pub scan_dense-requires : goal.scan_dense-requires
scan_dense-requires c = scans.can_scan _ _ _ _ _ c.requires.can c.loop-scan.invariant c.loop-scan-test.true

pub loop-scan-preserved : goal.loop-scan-preserved
loop-scan-preserved c = scans.scan_on _ _ _ _ _ c.requires.can c.loop-scan.invariant c.loop-scan-test.true c.scan_dense.ensures _ c.in-Continue.is

pub search-preserved : goal.search-preserved
search-preserved c =
    (laws.next_between _ _ _ _ _ c.requires.can c.search.invariant _ _ c.find_dense-hi.ensures.0 c.find_dense-hi.ensures.1 (sym c.in_default.is ∙ c.last_free.ensures) c.loop-scan.invariant c.loop-scan-test.false).0

-- where the search is left, at a free column of a fresh block or in a scan: the cursor is that of the last block
exit : (c : Lts.At-match-branch Tie.the-claims Reads.Pre Reads.Post goal.the-invariant-loop-scan goal.the-decreases-loop-scan goal.the-invariant-search goal.the-decreases-search Tie.handed_clauses)
    → let u = c.args in
    let s = c.start_search.new in
    let e = c.match-last_free in
    Leaving (length u.rows.now) u.costs.now u.rows.now u.start u.v.now s.d s.list s.predecessors e.d e.list e.predecessors e.cursor.lo e.scanned e.column
exit c =
    let o = c.last_free.ensures in
    elim c.match-last_free.branch [
      | in-Some w ↦
          let lo : c.match-last_free.cursor.lo ≡ c.search.cursor.hi = omega (arith, ap (λ (x : Cursor). x.lo) w.cursor-is) in
          leaving_at (laws.leave_fresh _ _ _ _ _ c.requires.can c.search.invariant _ _ c.find_dense-hi.ensures.0 c.find_dense-hi.ensures.1 _ (sym w.in-Some.is ∙ o))
          w.d-is w.list-is w.predecessors-is lo w.scanned-is w.column-is
      | in_default+then-loop-scan-test+in-Break w ↦
          let lo : c.match-last_free.cursor.lo ≡ c.search.cursor.hi = omega (arith, ap (λ (x : Cursor). x.lo) w.cursor-is) in
          let k = scans.scan_left _ _ _ _ _ c.requires.can w.loop-scan.invariant w.loop-scan-test.true w.scan_dense.ensures _ w.in-Break.is in
          leaving_at (laws.leave_scan _ _ _ _ _ c.requires.can c.search.invariant _ _ c.find_dense-hi.ensures.0 c.find_dense-hi.ensures.1 (sym w.in_default.is ∙ o) k.0 _ _ k.1)
          w.d-is w.list-is w.predecessors-is lo w.scanned-is w.column-is
    ]

pub change_prices-requires : goal.change_prices-requires
change_prices-requires c =
    leave.can_change _ _ _ _ _ c.requires.can (started_all _ _ _ _ _ c.requires.can c.start_search.ensures) (exit c.before.before)

pub returns : goal.returns
returns c =
    leave.searched _ _ _ _ _ c.requires.can (started_all _ _ _ _ _ c.requires.can c.start_search.ensures) (exit c.before.before.before.before) _ c.change_prices.ensures
