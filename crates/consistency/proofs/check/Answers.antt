-- `check` meets its contract, `check_of`: numbers that are refused are answered with their refusal, and of the others the search says the rest
-- (proofs/Checking): PASS where it settled nothing (`settled-none`), else what it found (`settled-with`; proofs/Comparing).
use Rattle.std.proofs.Common.{◌≡◌, ◌/◌, length, sym, ap, ◌∙◌}
use Rattle.layout.specs.Header.{rank_of}
use Rattle.layout.proofs.Accepted.{accepted}
use Rattle.consistency.specs.Check.{decision, checked_of}
use Rattle.consistency.proofs.Checking.{check-accepted, refused-first}
use Rattle.consistency.proofs.Comparing.{settled-none, settled-with}
use Rattle.consistency.proofs.check.Goals as goal
use Rattle.consistency.proofs.check.Goals.{in-Ok-search, in-Err-search}

pub returns-in-Err-clause-value : goal.returns-in-Err-clause-value
returns-in-Err-clause-value c =
    c.without_vectors.ensures
    ∙ refused-first c.args.numbers.now c.args.budget (length c.args.work.now / 3) c.in-Err.refusal c.in-Err.ensures.number

pub returns-clause-value : goal.returns-clause-value
returns-clause-value c =
    let room = length c.args.work.now / 3 in
    let group = c.in-Ok.group in
    let n = rank_of group.numbers.now in
    let d = decision group.numbers.now c.args.budget room in
    let said : c.match-search.checked ≡ checked_of n d =
    elim c.match-search.branch [
      | in-Ok-search w ↦
          w.checked-is ∙ w.without_vectors-checked.ensures
          ∙ settled-none n (accepted group.numbers.now group.accepts).measured.most d w.in-Ok-search.field-0 (sym c.search.ensures ∙ w.in-Ok-search.is)
      | in-Err-search w ↦ w.checked-is ∙ settled-with n d w.in-Err-search.settled (sym c.search.ensures ∙ w.in-Err-search.is)
    ] in
    said
    ∙ ap (λ x. checked_of (rank_of x.now) (decision x.now c.args.budget room)) c.in-Ok.ensures.same
    ∙ sym (check-accepted c.args.numbers.now c.args.budget room (sym c.in-Ok.ensures.number))
