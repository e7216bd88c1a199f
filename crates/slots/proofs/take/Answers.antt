-- `slots::take` meets its contract: the top slot's first power is lessened on its rest, and `took` says what that means.
use Rattle.std.proofs.Common.{arith}
use Rattle.slots.proofs.Reading.{top_of, top-sound, top-rest, low, took-some, took-none}
use Rattle.slots.proofs.take.Goals as goal

pub rest-requires : goal.rest-requires
rest-requires c = top-sound _ _ (top_of c.requires c.top-slot.ensures)

pub push-requires : goal.push-requires
push-requires c = (omega arith, top-rest _ _ (top_of c.requires c.top-slot.ensures) (cc))

pub lessen-requires : goal.lessen-requires
lessen-requires c = (omega arith, rw c.front.ensures (low _ _ (top_of c.requires c.top-slot.ensures)))

pub lessen-requires-in-None : goal.lessen-requires-in-None
lessen-requires-in-None c = (omega arith, rw c.front.ensures (low _ _ (top_of c.requires c.top-slot.ensures)))

pub returns-in-Some : goal.returns-in-Some
returns-in-Some c = took-some _ _ (top_of c.requires c.top-slot.ensures) c.front.ensures (cc) c.push.ensures c.lessen.ensures

pub returns-in-None : goal.returns-in-None
returns-in-None c = took-none _ _ (top_of c.requires c.top-slot.ensures) c.front.ensures (cc) c.lessen-in-None.ensures
