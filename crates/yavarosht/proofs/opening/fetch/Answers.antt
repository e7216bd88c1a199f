-- `fetch` gives the stretch of `word_of`, where it begins and how many numbers it has. Here for a pair that names a relation of accepted
-- numbers; for any other call, where both are 0, the proof is found.
use Rattle.std.proofs.Common.{◌≡◌, ℕ, List, length, true, Bor, sym, ap, ◌∙◌, arith}
use Rattle.layout.specs.Header.{Seen, rank_of}
use Rattle.layout.specs.Contents.{Spans, place_of}
use Rattle.layout.specs.Judged.{judged}
use Rattle.layout.specs.Words.{names_relation}
use Rattle.layout.proofs.Bounds.{relation}
use Rattle.layout.proofs.Fetching.{named, by-pair, fetched-word}
use Rattle.yavarosht.proofs.opening.fetch.Goals as goal

pub returns-clause-part : goal.returns-clause-part
returns-clause-part c =
    let nums = c.args.numbers.now in
    let i = c.args.i.0 in
    let j = c.args.j.0 in
    let group = c.in_ok-group.group in
    let same : group.numbers.now ≡ nums = ap (λ (n : Bor (List ℕ)). n.now) c.in_ok-group.ensures.same in
    let h : judged nums ≡ 0 = sym c.in_ok-group.ensures.number in
    let seen : Seen nums group.view = rw same at group.seen in
    let span : Spans nums (place_of (rank_of nums) i j) c.span_of-span.result = rw same at c.span_of-span.ensures in
    let within : names_relation (rank_of nums) i j ≡ true =
    sym (c.names_relation.ensures ∙ ap (λ (n : ℕ). names_relation n i j) seen.rank) ∙ c.if-not-names_relation.false in
    let b = named (rank_of nums) i j within in
    let f = fetched-word nums i j (by-pair nums i j h ∙ within) in
    let long = (relation nums h i j b.0 b.1 b.2).long in (
      omega (arith, seen.bodies, span.start, c.from.ensures) ∙ f.1,
      omega (arith, span.pairs, c.from-2.ensures, long) ∙ ap (λ (w : List ℕ). length w) f.0,
    )
