-- `stretch_right` is `stretch_right`. The loop's invariant: what is left, above `low`, is right just if the whole is.
use Rattle.std.proofs.Common.{◌≡◌, ◌*◌, drop}
use Rattle.layout.specs.Header.{exponent_in}
use Rattle.layout.specs.Bodies.{stretch_right}
use Rattle.layout.proofs.bodies.stretch_right.Given as goal

abbrev pub invariant-loop-g : goal.invariant-loop-g
invariant-loop-g l =
    stretch_right (exponent_in l.view) l.view.rank.0 l.low.0 (drop (2 * l.g-index) l.stretch)
    ≡ stretch_right (exponent_in l.view) l.view.rank.0 l.fn.floor.0 l.stretch
