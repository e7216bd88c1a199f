-- `run`: a placing that is refused ends the run, any other leaves it underway, and where no slot is left it is done (proofs/Turning).
use Rattle.std.proofs.Common.{arith, rules}
use Rattle.collector.proofs.Turning.{turn-off, turn_on, turn-falls, turn_end}
use Rattle.collector.proofs.running.run.Goals as goal

pub returns-in-Err : goal.returns-in-Err
returns-in-Err c =
    search (rules, turn-off c.args.texts.ground c.requires.begins c.loop-slots.invariant (omega arith) c.in-Err.ensures)

pub loop-slots-smaller : goal.loop-slots-smaller
loop-slots-smaller c =
    search (rules, turn-falls c.args.texts.ground c.requires.begins c.loop-slots.invariant (omega arith) c.in-Ok.ensures)

pub loop-slots-preserved : goal.loop-slots-preserved
loop-slots-preserved c =
    search (rules, turn_on c.args.texts.ground c.requires.begins c.loop-slots.invariant (omega arith) c.in-Ok.ensures)

pub returns : goal.returns
returns c = search (rules, turn_end c.args.texts.ground c.requires.begins c.loop-slots.invariant)
