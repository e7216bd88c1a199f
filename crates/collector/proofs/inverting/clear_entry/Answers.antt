-- `clear_entry`: the vector has n entries, each below p, so an entry that isn't 0 lacks at least 1 of p.
use Rattle.std.proofs.Common.{arith}
use Rattle.theory.proofs.Words.{normal-length}
use Rattle.theory.proofs.Arrays.{normal-at}
use Rattle.layout.specs.Header.{rank_of}
use Rattle.layout.specs.Relations.{presentation}
use Rattle.collector.proofs.inverting.clear_entry.Goals as goal

pub bounds-own-at : goal.bounds-own-at
bounds-own-at c =
    let nums = c.args.group.numbers.now in
    omega (arith, normal-length (presentation nums) (rank_of nums) 1 c.args.own.now c.requires.normal)

pub overflow_sub-e : goal.overflow_sub-e
overflow_sub-e c =
    let nums = c.args.group.numbers.now in
    omega (arith, normal-at (presentation nums) (rank_of nums) 1 c.args.at c.args.own.now c.requires.normal c.requires.at_bound.0)

pub place_power-requires-clause-le_i : goal.place_power-requires-clause-le_i
place_power-requires-clause-le_i c =
    let nums = c.args.group.numbers.now in
    let below = normal-at (presentation nums) (rank_of nums) 1 c.args.at c.args.own.now c.requires.normal c.requires.at_bound.0 in
    (omega arith, omega arith, omega arith, omega arith)
