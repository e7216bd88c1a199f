-- `collect_side` meets its contract: the side's slots are put on a vector of zeros, the identity; from there the run of the collector answers as
-- `side_outcome` (proofs/Collecting).
use Rattle.std.proofs.Common.{◌≡◌, ◌∙◌, length, ap, rules}
use lib.ListN.{replicate}
use Rattle.theory.specs.Presentation.{identity}
use Rattle.consistency.proofs.Collecting.{side-sets, side-answers}
use Rattle.consistency.proofs.sides.collect_side.Goals as goal

pub settle-requires : goal.settle-requires
settle-requires c =
    let zeros : c.fill.new.self ≡ replicate (length c.args.vector.now) 0 = search rules in
    let laid = c.put_side-depth.ensures in
    record { sets = side-sets c.wordless.result c.wordless.ensures laid.laid (zeros ∙ ap identity c.requires.vector_len) c.args.budget laid.few }

pub returns : goal.returns
returns c =
    let zeros : c.fill.new.self ≡ replicate (length c.args.vector.now) 0 = search rules in
    side-answers c.wordless.result c.wordless.ensures c.put_side-depth.ensures.laid (zeros ∙ ap identity c.requires.vector_len) c.args.budget
    c.args.work.now c.put_side-depth.auto.work c.settle.ensures
