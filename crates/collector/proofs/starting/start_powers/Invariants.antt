-- `start_powers` meets its contract. The invariant: the slots of the entries from at on are held (proofs/Holding), so the lowest generator
-- ends on top.
use Rattle.std.proofs.Common.{◌≡◌, ◌+◌, ◌≤◌, length, drop}
use Rattle.collector.specs.Starting.{power_start, Held}
use Rattle.collector.proofs.starting.start_powers.Given as goal

abbrev pub invariant-loop-at : goal.invariant-loop-at
invariant-loop-at l =
    record {
      within : l.at ≤ length l.right;
      few : l.depth + l.at ≤ length l.right;
      kept : length l.work ≡ length l.initial.work;
      held : Held (power_start (l.at + 1) (drop l.at l.right)) l.work l.depth;
    }
