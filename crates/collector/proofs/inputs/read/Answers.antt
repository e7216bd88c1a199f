-- `read`: an accepted presentation and a right word are what a collection stands on (proofs/Grounding).
use Rattle.std.proofs.Common.{rules}
use Rattle.collector.proofs.Grounding.{ground}
use Rattle.collector.proofs.inputs.read.Goals as goal

pub invariant_of-result : goal.invariant_of-result
invariant_of-result c =
    let g = c.args.group in
    record { ground = rw g.bodies_are (ground g.numbers.now c.args.word.now g.view g.accepts g.seen (search rules)) }
