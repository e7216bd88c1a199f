-- `leftmost`: where `kind_at` names nothing, nothing begins at the place, and so nothing at any place passed.
use Rattle.std.proofs.Common.{arith, below_more}
use Rattle.second.proofs.leftmost.leftmost.Goals as goal

pub loop-at-preserved : goal.loop-at-preserved
loop-at-preserved c = below_more _ _ c.loop-at.invariant c.in_default.ensures

pub returns : goal.returns
returns c = λ k h. c.loop-at.invariant k (omega arith)
