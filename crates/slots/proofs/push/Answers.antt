-- `slots::push` meets its contract: the three numbers that are stored tell the slot.
use Rattle.slots.proofs.Stores.{pushed, told}
use Rattle.slots.proofs.push.Goals as goal

pub returns : goal.returns
returns c = pushed _ _ _ _ _ c.requires.0 (told _ _ c.requires.1 c.numbers.ensures)
