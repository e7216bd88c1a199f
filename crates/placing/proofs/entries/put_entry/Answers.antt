-- `put_entry` meets its contract: nothing for 0, one power where w_ig is empty, else b copies.
use Rattle.std.proofs.Common.{rules}
use Rattle.slots.proofs.Stores.{length-stack}
use Rattle.placing.proofs.Copies.{entry-none, entry-power}
use Rattle.placing.proofs.entries.put_entry.Goals as goal

pub returns-then-b-eq0 : goal.returns-then-b-eq0
returns-then-b-eq0 c = search (rules, entry-none, length-stack)

pub returns-then-room-depth : goal.returns-then-room-depth
returns-then-room-depth c = search (rules, entry-power, length-stack)

pub returns : goal.returns
returns c = search (rules, entry-power, length-stack)
