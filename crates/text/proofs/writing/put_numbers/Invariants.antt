-- The loop of `put_numbers`: the first numbers are put, in at most 21 bytes each.
use Rattle.std.proofs.Common.{◌++◌, ◌+◌, ◌*◌, ◌≡◌, ◌≤◌, length, take}
use Rattle.text.specs.Decimal.{spaced}
use Rattle.text.proofs.writing.put_numbers.Given as goal

abbrev pub invariant-loop-n : goal.invariant-loop-n
invariant-loop-n g l =
    (l.out.bytes ≡ l.initial.out.bytes ++ spaced (take l.n-index l.numbers))
    × (length l.out.bytes ≤ length l.initial.out.bytes + 21 * l.n-index)
