-- `set_down` meets its contract. The invariant: the pairs before are set down, and those that are left can be.
use Rattle.std.proofs.Common.{◌≡◌, ◌*◌, length, drop}
use Rattle.layout.specs.Relations.{settled}
use Rattle.placing.specs.Settable.{Settable}
use Rattle.placing.proofs.vectors.set_down.Given as goal

abbrev pub invariant-loop-g : goal.invariant-loop-g
invariant-loop-g l =
    Settable (length l.initial.vector) (drop (2 * l.g-index) l.stretch)
    × (settled l.vector (drop (2 * l.g-index) l.stretch) ≡ settled l.initial.vector l.stretch)
