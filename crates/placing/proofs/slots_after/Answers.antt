-- `slots_after` meets its contract, `Passes`: step 1 takes the letter, step 2 exchanges it with the entries above it; or the room is exceeded on the way.
use Rattle.std.proofs.Common.{◌≡◌, List, ℕ, suc, ◌+◌, ◌*◌, ◌≤◌, length, drop, Bor, sym, ap, subst, arith}
use Rattle.layout.specs.Header.{rank_of, bodies_at}
use Rattle.layout.proofs.Accepted.{accepted}
use Rattle.layout.proofs.Bounds.{all-few}
use Rattle.slots.proofs.Stacks.{stacked-widen}
use Rattle.slots.specs.Slots.{stack}
use Rattle.placing.specs.Exchange.{exchange_slots, Filled}
use Rattle.placing.proofs.Stepping.{long, range-of, passes-taken, passes-after}
use Rattle.placing.proofs.slots_after.Goals as goal

pub take-taken-requires : goal.take-taken-requires
take-taken-requires c = (c.requires.ready.some, stacked-widen c.requires.ready.stacked)

pub returns-then-room-taken : goal.returns-then-room-taken
returns-then-room-taken c = passes-taken c.requires.ready c.requires.i_value c.take-taken.ensures (omega arith)

pub exchange-requires-clause-numbers_len_bound : goal.exchange-requires-clause-numbers_len_bound
exchange-requires-clause-numbers_len_bound c =
    let nums = c.args.texts.group.numbers.now in
    let h = c.args.texts.group.accepts in
    subst (λ (ns : List ℕ). length ns ≤ bodies_at ns + 2 * 10660) (sym (ap (λ (ns : Bor (List ℕ)). ns.now) c.spanned.ensures))
    (omega (arith, (accepted nums h).measured.size, all-few nums h))

pub exchange-requires-clause-le_i : goal.exchange-requires-clause-le_i
exchange-requires-clause-le_i c =
    let r = range-of c.requires.ready c.args.i.0 c.requires.i_value in
    subst (λ (ns : List ℕ). (1 ≤ c.args.i.0) × (c.args.i.0 ≤ rank_of ns) × (length c.args.vector.now ≡ rank_of ns))
    (sym (ap (λ (ns : Bor (List ℕ)). ns.now) c.spanned.ensures)) (r.0, r.1, long c.requires.ready)

pub returns : goal.returns
returns c =
    passes-after c.requires.ready c.requires.i_value c.args.texts.ground c.take-taken.ensures (omega arith)
    (subst
    (λ (ns : List ℕ).
    Filled (exchange_slots ns c.args.i.0 (suc c.args.i.0) (drop c.args.i.0 c.args.vector.now) (stack c.take-taken.new.work c.take-taken.result))
    c.take-taken.new.work c.exchange.new.work c.exchange.result)
    (ap (λ (ns : Bor (List ℕ)). ns.now) c.spanned.ensures) c.exchange.ensures.filled)
    c.exchange.ensures.vector_after
