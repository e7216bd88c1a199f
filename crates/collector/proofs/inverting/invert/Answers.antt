-- `invert`: the entries of the vector that is worked off are below p, and each turn keeps the invariant or answers the refusal
-- (proofs/Inverses).
use Rattle.std.proofs.Common.{refl, arith, rules}
use Rattle.theory.proofs.Words.{normal-length}
use Rattle.theory.proofs.Arrays.{normal-at}
use Rattle.layout.specs.Header.{rank_of}
use Rattle.layout.specs.Relations.{presentation}
use Rattle.layout.proofs.Accepted.{accepted}
use Rattle.collector.proofs.Inverses.{sofar-next, sofar-refused, sofar-end}
use Rattle.collector.proofs.inverting.invert.Goals as goal

pub bounds-own-at : goal.bounds-own-at
bounds-own-at c =
    let nums = c.args.group.numbers.now in
    omega (arith, normal-length (presentation nums) (rank_of nums) 1 c.loop-at.own c.loop-at.invariant.normal)

pub entry_of_inverse-requires : goal.entry_of_inverse-requires
entry_of_inverse-requires c =
    let nums = c.args.group.numbers.now in
    let below = normal-at (presentation nums) (rank_of nums) 1 c.loop-at.at c.loop-at.own c.loop-at.invariant.normal (omega arith) in
    (omega arith, omega (arith, (accepted nums c.args.group.accepts).prime-most))

pub returns-in_err-count : goal.returns-in_err-count
returns-in_err-count c =
    search (rules, sofar-refused c.args.group.accepts c.loop-at.invariant (omega arith) c.clear_entry.ensures)

pub loop-at-preserved : goal.loop-at-preserved
loop-at-preserved c =
    search (rules, sofar-next c.args.group.accepts c.loop-at.invariant (omega arith) c.in_ok-count.ensures refl)

pub returns : goal.returns
returns c = search (rules, sofar-end c.args.group.accepts c.loop-at.invariant (omega arith))
