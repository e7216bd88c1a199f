-- `exchange` meets its contract. The invariant: the slots of the entries from at on are put and those entries are 0; what is left of the sum
-- is the sum of the entries between i and at, so that where nothing is left they are 0 as well.
use Rattle.slots.specs.Slots.{stack}
use Rattle.placing.proofs.Exchanging.{Met}
use Rattle.placing.proofs.entries.exchange.Given as goal

abbrev pub invariant-loop-left : goal.invariant-loop-left
invariant-loop-left l = Met l.spanned.listed.numbers.now l.fn.i.0 l.initial.vector (stack l.initial.work l.depth) l.at l.left l.vector l.work l.d

abbrev pub decreases-loop-left : goal.decreases-loop-left
decreases-loop-left l = l.at
