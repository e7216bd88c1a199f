-- `wordless`: an accepted presentation and no word are what a collection stands on (proofs/Grounding).
use Rattle.collector.proofs.Grounding.{ground-empty}
use Rattle.collector.proofs.inputs.wordless.Goals as goal

pub invariant_of-result : goal.invariant_of-result
invariant_of-result c =
    let g = c.args.group in
    record { ground = rw g.bodies_are (ground-empty g.numbers.now g.view g.accepts g.seen) }
