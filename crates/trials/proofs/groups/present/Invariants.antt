-- The loops of `present`: the counts of entries and pairs fit their type.
use Rattle.std.proofs.Common.{◌≤◌}
use Rattle.trials.proofs.groups.present.Given as goal

abbrev pub invariant-loop-g : goal.invariant-loop-g
invariant-loop-g l = (goal.iterator-loop-g).can_next l.digits × (goal.iterator-loop-g).is_finite l.digits × (l.pairs ≤ 65535)

abbrev pub invariant-loop-j : goal.invariant-loop-j
invariant-loop-j l = (l.entries ≤ 65535) × (l.pairs ≤ 65535)

abbrev pub invariant-loop-i : goal.invariant-loop-i
invariant-loop-i l = (l.entries ≤ 65535) × (l.pairs ≤ 65535)
