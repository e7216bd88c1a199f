-- `slots::peek` meets its contract: the stack begins with the generator that its top slot begins with.
use Rattle.slots.proofs.Reading.{top_of, leads}
use Rattle.slots.proofs.peek.Goals as goal

pub returns : goal.returns
returns c = rw c.front.ensures (leads _ _ (top_of c.requires c.top.ensures))
