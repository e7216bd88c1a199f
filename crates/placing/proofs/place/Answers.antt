-- `place` meets its contract, `Steps`: what is counted, judged, exchanged and raised is the definition's step.
use Rattle.std.proofs.Common.{◌≡◌, ℕ, List, length, ◌+◌, ◌-◌, ◌/◌, get_or, refl, sym, ap, ◌∙◌, arith}
use Rattle.std.proofs.lemmas.Result.{err_from_is_err_and}
use Rattle.theory.specs.Presentation.{Vector}
use Rattle.theory.specs.Placing.{power_uses, place}
use Rattle.theory.proofs.Arrays.{normal-at}
use Rattle.layout.specs.Header.{rank_of}
use Rattle.layout.specs.Refusals.{given}
use Rattle.layout.specs.Relations.{presentation}
use Rattle.layout.proofs.Refusals.{number-some}
use Rattle.slots.proofs.Stacks.{stacked-widen}
use Rattle.placing.specs.Step.{due}
use Rattle.placing.proofs.Clearing.{cleared-entry}
use Rattle.placing.proofs.Raising.{placed-cleared}
use Rattle.placing.proofs.Stepping.{long, range-of, due-fits, refused, led}
use Rattle.placing.proofs.place.Goals as goal

-- The number that is due, in the room of the workspace that the placing began with.
number_is
    : (left cost after : ℕ) {number room l k : ℕ} → number ≡ due left cost room after → room ≡ k / 3 → k ≡ l
    → number ≡ due left cost (l / 3) after
number_is left cost after e r k = e ∙ ap (λ (x : ℕ). due left cost x after) (r ∙ ap (λ (x : ℕ). x / 3) k)

-- The power uses, by the prime of the numbers.
powers_are : (v : Vector) (i : ℕ) {p q u : ℕ} → u ≡ power_uses p (get_or v (i - 1) 0) → p ≡ q → u ≡ power_uses q (get_or v (i - 1) 0)
powers_are v i e f = e ∙ ap (λ (x : ℕ). power_uses x (get_or v (i - 1) 0)) f

pub peek-i-requires : goal.peek-i-requires
peek-i-requires c = (c.requires.ready.some, stacked-widen c.requires.ready.stacked)

pub tail_sum-exchanges-requires : goal.tail_sum-exchanges-requires
tail_sum-exchanges-requires c =
    let r = range-of c.requires.ready c.peek-i.result.0 c.peek-i.ensures in
    let l = long c.requires.ready in
    (omega arith, omega (arith, l, c.args.texts.ground.sources.rank))

pub power_uses-powers-requires : goal.power_uses-powers-requires
power_uses-powers-requires c =
    let r = range-of c.requires.ready c.peek-i.result.0 c.peek-i.ensures in
    let l = long c.requires.ready in
    (r.0, omega arith)

pub returns-in_err-allow : goal.returns-in_err-allow
returns-in_err-allow c =
    let err = err_from_is_err_and c.from_residual.result c.from_residual.ensures.1 in
    let same : given c.from_residual.result ≡ given c.allow.result = rw (err.1, err.2, c.in_err-allow.was) refl in
    refused c.requires.ready
    (record {
      leads = c.peek-i.ensures;
      exchanges = c.tail_sum-exchanges.ensures.0;
      powers = powers_are c.args.vector.now c.peek-i.result.0 c.power_uses-powers.ensures.0 c.args.texts.ground.seen.prime;
    })
    c.slots_after-after.ensures (same ∙ number_is _ _ _ c.allow.ensures c.room.ensures c.slots_after-after.ensures.kept)
    (λ z. absurd (omega (arith, number-some c.in_err-allow.field-0.0, z, same)))

pub raise-requires-clause-le_i : goal.raise-requires-clause-le_i
raise-requires-clause-le_i c =
    let r = range-of c.requires.ready c.peek-i.result.0 c.peek-i.ensures in
    let l = long c.requires.ready in
    (r.0, r.1, c.slots_after-after.auto.vector ∙ l)

pub raise-requires-clause-i_bound : goal.raise-requires-clause-i_bound
raise-requires-clause-i_bound c =
    let nums = c.args.texts.group.numbers.now in
    let v = c.args.vector.now in
    let i = c.peek-i.result.0 in
    let r = range-of c.requires.ready i c.peek-i.ensures in
    let l = long c.requires.ready in
    let none : due c.args.left (c.tail_sum-exchanges.result + c.power_uses-powers.result) (length c.args.work.now / 3) c.slots_after-after.result ≡ 0 =
    sym (number_is _ _ _ c.allow.ensures c.room.ensures c.slots_after-after.ensures.kept) ∙ ap given c.in_ok-allow.was in
    let fits = due-fits c.args.left (c.tail_sum-exchanges.result + c.power_uses-powers.result) (length c.args.work.now / 3) c.slots_after-after.result none in
    let entry = ap (λ (x : List ℕ). get_or x (i - 1) 0) (c.slots_after-after.ensures.vector fits) ∙ cleared-entry v i r.0 (omega arith) in
    let small = normal-at (presentation nums) (rank_of nums) 1 (i - 1) v c.requires.ready.normal (omega arith) in
    omega arith

pub returns : goal.returns
returns c =
    let nums = c.args.texts.group.numbers.now in
    let v = c.args.vector.now in
    let i = c.peek-i.result.0 in
    let r = range-of c.requires.ready i c.peek-i.ensures in
    let l = long c.requires.ready in
    let none : due c.args.left (c.tail_sum-exchanges.result + c.power_uses-powers.result) (length c.args.work.now / 3) c.slots_after-after.result ≡ 0 =
    sym (number_is _ _ _ c.allow.ensures c.room.ensures c.slots_after-after.ensures.kept) ∙ ap given c.in_ok-allow.was in
    let fits = due-fits c.args.left (c.tail_sum-exchanges.result + c.power_uses-powers.result) (length c.args.work.now / 3) c.slots_after-after.result none in
    let vector =
    c.raise.ensures
    ∙ ap (λ (x : List ℕ). (place (presentation nums) 1 x i).vector) (c.slots_after-after.ensures.vector fits)
    ∙ placed-cleared (presentation nums) v i r.0 (omega arith) in
    led c.requires.ready
    (record {
      leads = c.peek-i.ensures;
      exchanges = c.tail_sum-exchanges.ensures.0;
      powers = powers_are v i c.power_uses-powers.ensures.0 c.args.texts.ground.seen.prime;
    })
    c.slots_after-after.ensures none vector
