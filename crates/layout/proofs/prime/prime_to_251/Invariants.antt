-- `prime_to_251` is `prime_to_251`. The loop's invariant: no number from 2 to below d divides p.
use Rattle.std.proofs.Common.{◌-◌, ◌≡◌, true}
use Rattle.layout.specs.Prime.{undivided}
use Rattle.layout.proofs.prime.prime_to_251.Given as goal

abbrev pub invariant-loop-d : goal.invariant-loop-d
invariant-loop-d l = undivided l.p.0 (l.d - 2) ≡ true
