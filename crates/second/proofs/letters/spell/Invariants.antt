-- The loop of `spell`: the place written to stays within the row.
use Rattle.std.proofs.Common.{◌≤◌, ◌≡◌, length}
use Rattle.second.proofs.letters.spell.Given as goal

abbrev pub invariant-loop-g : goal.invariant-loop-g
invariant-loop-g l = (l.at ≤ length l.row) × (length l.row ≡ length l.fn.row)
