-- `tail_sum` meets its contract. The invariant: the sum so far with that of the entries that are left is the whole sum.
use Rattle.std.proofs.Common.{◌≡◌, ◌+◌, ◌*◌, ◌≤◌, drop}
use Rattle.theory.specs.Placing.{total}
use Rattle.placing.proofs.vectors.tail_sum.Given as goal

abbrev pub invariant-loop-entry : goal.invariant-loop-entry
invariant-loop-entry l =
    (l.sum ≤ 255 * l.entry-index) × (l.sum + total (drop (l.fn.i.0 + l.entry-index) l.vector) ≡ total (drop l.fn.i.0 l.vector))
