-- The loop of `vector_of`: no more letters are counted than were looked at.
use Rattle.std.proofs.Common.{◌≡◌, ◌≤◌, length}
use Rattle.second.proofs.letters.vector_of.Given as goal

abbrev pub invariant-loop-g : goal.invariant-loop-g
invariant-loop-g l = (l.counted ≤ l.g-index) × (length l.vector ≡ length l.fn.vector)
