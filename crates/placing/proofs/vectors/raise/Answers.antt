-- `raise` meets its contract: on a vector whose entries above i are 0, entry i is raised, and where it reaches p the exponents of w_i are set down.
use Rattle.std.proofs.Common.{◌≡◌, ℕ, ◌+◌, ◌-◌, length, get_or, sym, ap, ◌∙◌, subst, arith}
use Rattle.std.proofs.Math.ListN.{set, length-set}
use Rattle.layout.specs.Header.{prime_of, rank_of, exponent_of}
use Rattle.layout.specs.Relations.{presentation, settled}
use Rattle.layout.proofs.Accepted.{accepted}
use Rattle.layout.proofs.Valid.{relation-pairs}
use Rattle.placing.specs.Settable.{Settable}
use Rattle.placing.proofs.Settling.{settable}
use Rattle.placing.proofs.Raising.{raised-lower, raised-whole}
use Rattle.placing.proofs.vectors.raise.Goals as goal

pub returns-then-from-group : goal.returns-then-from-group
returns-then-from-group c =
    let r = c.requires in
    let entry = ap (λ (x : ℕ). get_or c.args.vector.now (x - 1) 0) c.from-at.ensures in
    rw c.from-at.ensures
    (raised-lower c.args.vector.now c.args.i.0 r.le_i.0 (omega arith) r.vector_value (presentation c.args.group.numbers.now)
    (λ q. c.if-from-group.true (omega (arith, entry, q))))

pub set_down-requires : goal.set_down-requires
set_down-requires c =
    let nums = c.args.group.numbers.now in
    let v = c.args.vector.now in
    let i = c.args.i.0 in
    let r = c.requires in
    let at = c.from-at.result - 1 in
    let l : length (set v at 0) ≡ rank_of nums = length-set v at 0 ∙ r.le_i.2 in
    let few = (accepted nums c.args.group.accepts).prime-most in
    let pairs = relation-pairs nums c.args.group.accepts i i r.le_i.0 (omega arith) r.le_i.1 in
    subst (λ (x : ℕ). Settable x c.stretch_of.result.now) (sym l)
    (subst (Settable (rank_of nums)) (sym c.stretch_of.ensures.result_value)
    (settable (exponent_of nums) (rank_of nums) (λ g. omega (arith, few)) pairs))

pub returns : goal.returns
returns c =
    let nums = c.args.group.numbers.now in
    let v = c.args.vector.now in
    let i = c.args.i.0 in
    let r = c.requires in
    let entry = ap (λ (x : ℕ). get_or v (x - 1) 0) c.from-at.ensures in
    let e : get_or v (i - 1) 0 + 1 ≡ prime_of nums = omega (arith, entry) in
    c.set_down.ensures
    ∙ ap (λ (x : ℕ). settled (set v (x - 1) 0) c.stretch_of.result.now) c.from-at.ensures
    ∙ ap (settled (set v (i - 1) 0)) c.stretch_of.ensures.result_value
    ∙ raised-whole v i r.le_i.0 (omega arith) r.vector_value nums c.args.group.accepts r.le_i.2 e
