-- The loop of `leftmost`: nothing begins at any place passed.
use Rattle.std.proofs.Common.{ℕ, ◌<◌}
use Rattle.second.specs.Normal.{Rises, Changes}
use Rattle.second.proofs.leftmost.leftmost.Given as goal

abbrev pub invariant-loop-at : goal.invariant-loop-at
invariant-loop-at l = (k : ℕ) → k < l.at → Rises l.letters l.len k × Changes l.letters l.len l.p k
