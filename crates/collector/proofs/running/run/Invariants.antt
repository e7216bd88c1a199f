-- `run` meets its contract. The invariant (`Underway`, proofs/Turning): from where it stands the run has the same outcome as from where it
-- began. What falls is the letters on the slots with what the budget can still pay.
use Rattle.std.proofs.Common.{◌+◌, ◌-◌, ◌*◌, length}
use Rattle.layout.specs.Header.{prime_of, rank_of}
use Rattle.slots.specs.Pieces.{pieces, letters}
use Rattle.collector.proofs.Turning.{Underway}
use Rattle.collector.proofs.running.run.Given as goal

abbrev pub invariant-loop-slots : goal.invariant-loop-slots
invariant-loop-slots l =
    let g = l.texts.group in
    Underway g.numbers.now g.bodies.now l.initial.vector l.texts.word.now l.budget l.count l.initial.work l.depth l.vector l.work l.spent l.slots

abbrev pub decreases-loop-slots : goal.decreases-loop-slots
decreases-loop-slots l =
    let nums = l.texts.group.numbers.now in
    length (letters (pieces l.texts.group.bodies.now l.texts.word.now l.work l.slots)) + rank_of nums * prime_of nums * (l.budget - l.spent)
