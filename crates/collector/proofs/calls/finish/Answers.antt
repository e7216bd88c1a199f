-- `finish`: the outcome from the starting slots is that of the definition, and closing hands it out (proofs/Finished).
use Rattle.collector.proofs.Finished.{settled-closes}
use Rattle.collector.proofs.calls.finish.Goals as goal

pub returns : goal.returns
returns c =
    settled-closes c.args.texts.ground c.requires.sets (rw c.copy_from_slice.ensures.after at c.settle-answer.ensures) c.close.ensures.work_after
    c.close.ensures.vector_after
