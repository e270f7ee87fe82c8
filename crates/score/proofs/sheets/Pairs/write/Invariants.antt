-- `write` writes four bytes a score: after k of them the later ones are left. Assumes nothing.
use mathlib.Core.Path.{◌≡◌}
use mathlib.Core.List.{flat_map}
use Prim.Native.Nat.{◌*◌}
use lib.ListN.{drop}
use lib.Seq.{sets}
use Rattle.layout.specs.Values.{signed_bytes}
use Rattle.score.specs.ScoreSheet.{scores}
use Rattle.score.proofs.sheets.Pairs.write.Given as goal

abbrev pub invariant-loop-k : goal.invariant-loop-k
invariant-loop-k l =
    sets l.sheet (4 * l.k) (flat_map (signed_bytes 4) (drop l.k (scores l.self.n l.self.firsts.now l.self.seconds.now))) ≡ sets l.initial.sheet 0 (flat_map (signed_bytes 4) (scores l.self.n l.self.firsts.now l.self.seconds.now))
