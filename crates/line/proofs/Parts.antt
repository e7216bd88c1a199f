-- The parts of a line, one after the other, are the line.
use Rattle.std.proofs.Common.{append_assoc}
use Rattle.text.proofs.Digits.{spaced-append}

pub ruleset stopped = (spaced-append, append_assoc)
