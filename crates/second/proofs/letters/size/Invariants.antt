-- The loop of `size`: at most 65535 letters for each pair passed.
use Rattle.std.proofs.Common.{◌*◌, ◌≤◌}
use Rattle.second.proofs.letters.size.Given as goal

abbrev pub invariant-loop-e : goal.invariant-loop-e
invariant-loop-e l = l.sum ≤ 65535 * l.e-index
