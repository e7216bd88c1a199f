-- The loop of `count`: the walk's names stay small.
use Rattle.std.proofs.Common.{◌≤◌}
use Rattle.second.proofs.relation.count.Given as goal

abbrev pub invariant-loop-relations : goal.invariant-loop-relations
invariant-loop-relations l = (l.name.i ≤ l.name.j) × (1 ≤ l.name.j) × (l.name.j ≤ l.relations)
