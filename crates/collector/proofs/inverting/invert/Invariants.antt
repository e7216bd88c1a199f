-- `invert` meets its contract. The invariant (`Sofar`, proofs/Inverses): the entries before at are found, the vector that is worked off has
-- 0 there, and what is left to do is the definition's from at on.
use Rattle.collector.proofs.Inverses.{Sofar}
use Rattle.collector.proofs.inverting.invert.Given as goal

abbrev pub invariant-loop-at : goal.invariant-loop-at
invariant-loop-at l = Sofar l.group.numbers.now l.budget l.initial.work l.initial.own l.own l.found l.work l.count l.at
