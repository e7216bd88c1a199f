-- `search` meets its contract: the four families, one after the other. A family that settles the verdict settles it for all overlaps (`found-first`); one
-- that settles nothing leaves the families after it to decide (`found-then`; proofs/Seeking).
use Rattle.std.proofs.Common.{◌≡◌, [], ◌∷◌, ◌++◌, length, refl, sym, ap, ◌∙◌, rules}
use Rattle.theory.specs.Overlaps.{single, rising, each}
use Rattle.layout.specs.Header.{rank_of}
use Rattle.consistency.specs.declared.Family.TheVariants.{Upper, Lower}
use Rattle.consistency.specs.Check.{triples_of, pairs_of, settles}
use Rattle.consistency.proofs.Seeking.{found-first, found-then, found-last}
use Rattle.consistency.proofs.searching.search.Goals as goal

pub returns-in_err-search_triples : goal.returns-in_err-search_triples
returns-in_err-search_triples c =
    let nums = c.args.group.numbers.now in
    let n = rank_of nums in
    let last = each (rising 1 n) (λ i. single i ∷ []) in
    let same : c.from_residual.result ≡ c.search_triples.result = search rules in
    same
    ∙ found-first nums c.args.budget (length c.args.work.now) (triples_of n) refl c.search_triples.ensures (pairs_of Upper n ++ (pairs_of Lower n ++ last))
    (search rules)

pub returns-in_err-search_pairs : goal.returns-in_err-search_pairs
returns-in_err-search_pairs c =
    let nums = c.args.group.numbers.now in
    let n = rank_of nums in
    let last = each (rising 1 n) (λ i. single i ∷ []) in
    let t = c.search_triples in
    let same : c.from_residual-in_err-search_pairs.result ≡ c.search_pairs.result = search rules in
    same
    ∙ found-first nums c.args.budget (length c.args.work.now) (pairs_of Upper n) t.auto.work c.search_pairs.ensures (pairs_of Lower n ++ last) (search rules)
    ∙ ap (settles n)
    (sym (found-then nums c.args.budget (length c.args.work.now) (triples_of n) refl t.ensures (pairs_of Upper n ++ (pairs_of Lower n ++ last)) (search rules)))

pub returns-in_err-search_pairs-2 : goal.returns-in_err-search_pairs-2
returns-in_err-search_pairs-2 c =
    let nums = c.args.group.numbers.now in
    let n = rank_of nums in
    let last = each (rising 1 n) (λ i. single i ∷ []) in
    let t = c.search_triples in
    let u = c.search_pairs in
    let same : c.from_residual-in_err-search_pairs-2.result ≡ c.search_pairs-2.result = search rules in
    same
    ∙ found-first nums c.args.budget (length c.args.work.now) (pairs_of Lower n) (u.auto.work ∙ t.auto.work) c.search_pairs-2.ensures last (search rules)
    ∙ ap (settles n)
    (sym (found-then nums c.args.budget (length c.args.work.now) (triples_of n) refl t.ensures (pairs_of Upper n ++ (pairs_of Lower n ++ last)) (search rules)
    ∙ found-then nums c.args.budget (length c.args.work.now) (pairs_of Upper n) t.auto.work u.ensures (pairs_of Lower n ++ last) (search rules)))

pub returns : goal.returns
returns c =
    let nums = c.args.group.numbers.now in
    let n = rank_of nums in
    let last = each (rising 1 n) (λ i. single i ∷ []) in
    let t = c.search_triples in
    let u = c.search_pairs in
    let l = c.search_pairs-2 in
    found-last nums c.args.budget (length c.args.work.now) last (l.auto.work ∙ u.auto.work ∙ t.auto.work) c.search_singles.ensures
    ∙ ap (settles n)
    (sym (found-then nums c.args.budget (length c.args.work.now) (triples_of n) refl t.ensures (pairs_of Upper n ++ (pairs_of Lower n ++ last)) (search rules)
    ∙ found-then nums c.args.budget (length c.args.work.now) (pairs_of Upper n) t.auto.work u.ensures (pairs_of Lower n ++ last) (search rules)
    ∙ found-then nums c.args.budget (length c.args.work.now) (pairs_of Lower n) (u.auto.work ∙ t.auto.work) l.ensures last (search rules)))
