-- The loop of `numbers_of`: what is left of the numbers, stored from the next place on, gives the whole.
use Rattle.std.proofs.Common.{◌≡◌, drop}
use Rattle.std.proofs.lemmas.List.Edits.{sets}
use Rattle.text.specs.Numbers.{numbers_of}
use Rattle.text.proofs.reading.numbers_of.Given as goal

abbrev pub invariant-loop-i : goal.invariant-loop-i
invariant-loop-i l = sets l.numbers l.i (drop l.i (numbers_of l.bytes)) ≡ sets l.initial.numbers 0 (numbers_of l.bytes)
