-- The loop of `append_vector`: the letters are as many as were lent, and the word is within them.
use Rattle.std.proofs.Common.{◌≡◌, ◌≤◌, length}
use Rattle.second.proofs.letters.append_vector.Given as goal

abbrev pub invariant-loop-g : goal.invariant-loop-g
invariant-loop-g l = (goal.iterator-loop-g).can_next l.g-iterator × (goal.iterator-loop-g).is_finite l.g-iterator
    × (length l.letters ≡ length l.fn.letters) × (l.grown ≤ length l.fn.letters)
