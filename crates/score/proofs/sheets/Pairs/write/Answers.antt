use mathlib.Core.Path.{sym, ◌∙◌}
use Prim.Native.Nat.{◌*◌}
use native.Mathlib.Omega.{arith}
use mir.Syntax.{w32}
use mir.Val.{to_z, of_z}
use Rattle.ints.proofs.Bits.{read_back}
use Rattle.lists.proofs.Tables.{length-table, get_d_table}
use Rattle.layout.specs.Values.{signed_bytes}
use Rattle.layout.proofs.Values.{length-signed_bytes}
use Rattle.layout.proofs.Stores.{field_written, all_written}
use Rattle.score.specs.ScoreSheet.{score_at, scores}
use Rattle.score.proofs.sheets.Pairs.write.Goals as goal

pub loop-k-preserved : goal.loop-k-preserved
loop-k-preserved c =
    let p = c.args.self.now in
    let l = c.loop-k in
    let costs = scores p.n p.firsts.now p.seconds.now in
    let each = score_at p.n p.firsts.now p.seconds.now in
    let score = to_z w32 (of_z w32 c.score_at.result) in
    let here = read_back w32 c.score_at.result c.score_at.type_inv ∙ c.score_at.ensures ∙ sym (get_d_table (p.n * p.n) each score l.k c.loop-k-test.true) in
    field_written (signed_bytes 4) 4 (length-signed_bytes 4) l.sheet _ _ costs l.k score (omega (arith, length-table (p.n * p.n) each)) here c.write.ensures (omega arith) l.invariant

pub returns : goal.returns
returns c =
    let p = c.args.self.now in
    let l = c.loop-k in
    all_written (signed_bytes 4) 4 (length-signed_bytes 4) l.sheet _ (scores p.n p.firsts.now p.seconds.now) l.k (omega (arith, length-table (p.n * p.n) (score_at p.n p.firsts.now p.seconds.now))) l.invariant
