-- The loop of `before`: at most 65535 pairs for each relation passed, and the walk's names stay small.
use Rattle.std.proofs.Common.{◌+◌, ◌*◌, ◌≤◌}
use Rattle.second.proofs.relation.before.Given as goal

abbrev pub invariant-loop-relations : goal.invariant-loop-relations
invariant-loop-relations l = (l.pairs ≤ 65535 * l.relations)
    × (l.name.i ≤ l.name.j) × (1 ≤ l.name.j) × (l.name.j ≤ l.relations + 1)
