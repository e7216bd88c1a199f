-- The loop of `append_word`: the letters are as many as were lent, and the word is within them.
use Rattle.std.proofs.Common.{◌≤◌, ◌≡◌, length}
use Rattle.second.proofs.letters.append_word.Given as goal

abbrev pub invariant-loop-g : goal.invariant-loop-g
invariant-loop-g l = (length l.letters ≡ length l.fn.letters) × (l.grown ≤ length l.fn.letters)
