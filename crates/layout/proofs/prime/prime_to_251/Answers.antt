-- `prime_to_251` is `prime_to_251`: a divisor that was found settles it, and trial division up to the root is enough.
use Rattle.std.proofs.Common.{◌≡◌, ◌≤◌, arith, sym, ◌∙◌}
use Rattle.std.proofs.lemmas.Bool.Decides.{nat_tests}
use Rattle.layout.proofs.Primes.{in-range, divided-fails, enough, smaller}
use Rattle.layout.proofs.prime.prime_to_251.Goals as goal

pub returns-then-p-d : goal.returns-then-p-d
returns-then-p-d c =
    let p = c.args.p.0 in
    let d = c.loop-d.d in
    let r : (2 ≤ p) × (p ≤ 251) = grind (arith, nat_tests, c.if-not-contains.ensures, c.new.ensures) in
    sym (in-range p r.0 r.1 ∙ enough p d r.0 (omega arith) c.loop-d.invariant (omega arith))

pub returns-then-p-d-eq0 : goal.returns-then-p-d-eq0
returns-then-p-d-eq0 c =
    let p = c.args.p.0 in
    let d = c.loop-d.d in
    sym (divided-fails p d (omega arith) (smaller p d (omega arith) (omega arith)) (omega arith))

pub returns : goal.returns
returns c =
    let p = c.args.p.0 in
    let r : (2 ≤ p) × (p ≤ 251) = grind (arith, nat_tests, c.if-not-contains.ensures, c.new.ensures) in
    let e : c.loop-d.d ≡ 16 = omega arith in
    sym (in-range p r.0 r.1 ∙ enough p 16 r.0 (omega arith) (rw e at c.loop-d.invariant) (omega arith))
