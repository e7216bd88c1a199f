-- The loop of `rewrite`: the letters are as many as were lent, and the word is within them.
use Rattle.std.proofs.Common.{◌≡◌, ◌≤◌, length}
use Rattle.second.proofs.rewrite.Given as goal

abbrev pub invariant-loop-count : goal.invariant-loop-count
invariant-loop-count l = (length l.letters ≡ length l.fn.letters) × (l.len ≤ length l.fn.letters)
