-- `put_copies` meets its contract. The invariant: so many copies of w_ig and (g, 1) stand on the slots that were there.
use Rattle.std.proofs.Common.{◌≡◌, ◌+◌, ◌-◌, ◌*◌, ◌≤◌}
use Rattle.slots.specs.Slots.{stack}
use Rattle.slots.specs.declared.Slot.TheVariants.{Relation}
use Rattle.placing.specs.Exchange.{copies_of}
use Rattle.placing.proofs.entries.put_copies.Given as goal

abbrev pub invariant-loop-copies : goal.invariant-loop-copies
invariant-loop-copies l =
    (l.copies ≤ l.b) × (l.d ≡ l.depth + 2 * l.copies)
    × (stack l.work l.d ≡ copies_of l.copies (Relation l.span.start l.span.pairs) l.g (stack l.initial.work l.depth))

abbrev pub decreases-loop-copies : goal.decreases-loop-copies
decreases-loop-copies l = l.b - l.copies
