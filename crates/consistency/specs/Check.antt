-- Judging one overlap, the first overlap that settles the verdict, and what the check answers.
--
-- Main definitions: `overlap_of` and `named`, the code's overlaps and the theory's; `Judgement` and `judgement`; `Decision` and `decide`;
-- `check_of`, `settles`, `work_after`.
use Rattle.std.specs.Prelude.{List, [], ◌∷◌, ◌++◌, Bool, true, false, ℕ, suc, ◌-◌, length, replicate, eqb, Result, Ok, Err}
use Rattle.theory.specs.Presentation.{Vector, identity}
use Rattle.theory.specs.Overlaps.{Overlap, triple, upper, lower, single, rising, each, overlaps}
use Rattle.layout.specs.Header.{rank_of}
use Rattle.layout.specs.Refusals.{refusal_of}
use Rattle.layout.specs.Judged.{judged}
use Rattle.slots.specs.Pieces.{Piece}
use Rattle.collector.specs.Run.{Outcome, done, refused, begun}
use Rattle.consistency.specs.declared.Checked.{Checked}
use Rattle.consistency.specs.declared.Overlap.{Overlap as Named}
use Rattle.consistency.specs.declared.Overlap.TheVariants.{Triple, Pair, Single}
use Rattle.consistency.specs.declared.Family.{Family}
use Rattle.consistency.specs.declared.Family.TheVariants.{Upper, Lower}
use Rattle.consistency.specs.declared.Verdict.{Verdict}
use Rattle.consistency.specs.declared.Verdict.TheVariants.{Pass, Differs, Refused, Stopped}
use Rattle.consistency.specs.Sides.{left_pieces, right_pieces}

-- The overlap of the theory that the code's overlap is, and back.
abbrev pub overlap_of : Named → Overlap
overlap_of (Triple i j k) = triple i.0 j.0 k.0
overlap_of (Pair Upper i j) = upper i.0 j.0
overlap_of (Pair Lower i j) = lower i.0 j.0
overlap_of (Single i) = single i.0

abbrev pub named : Overlap → Named
named (triple i j k) = Triple (record { 0 = i }) (record { 0 = j }) (record { 0 = k })
named (upper i j) = Pair Upper (record { 0 = i }) (record { 0 = j })
named (lower i j) = Pair Lower (record { 0 = i }) (record { 0 = j })
named (single i) = Single (record { 0 = i })

-- "Each side is collected from the identity .. with the whole budget and the whole room afresh."
abbrev pub side_outcome : List ℕ → ℕ → ℕ → List Piece → Outcome
side_outcome nums budget room side = begun nums budget room (identity (rank_of nums)) side 0

-- What judging an overlap comes to: its sides agree, or differ with both vectors, or one is refused with 9 or 10.
pub data Judgement : Type 0 where
  agree : Judgement
  differ : (left right : Vector) → Judgement
  stop : (number : ℕ) → Judgement

-- The same entries.
abbrev pub same : Vector → Vector → Bool
same [] [] = true
same [] (b ∷ r) = false
same (a ∷ l) [] = false
same (a ∷ l) (b ∷ r) = elim (eqb a b) [ true ↦ same l r | false ↦ false ]

abbrev pub compared : Vector → Vector → Judgement
compared l r = elim (same l r) [ true ↦ agree | false ↦ differ l r ]

-- "left side first".
abbrev pub against : Vector → Outcome → Judgement
against l (done r c) = compared l r
against l (refused k c) = stop k

abbrev pub judging : Outcome → Outcome → Judgement
judging (done l c) right = against l right
judging (refused k c) right = stop k

abbrev pub judgement : List ℕ → ℕ → ℕ → Overlap → Judgement
judgement nums budget room o =
    judging (side_outcome nums budget room (left_pieces nums o)) (side_outcome nums budget room (right_pieces nums o))

-- "The first overlap that differs or is refused settles it."
pub data Decision : Type 0 where
  passes : Decision
  differs : (o : Overlap) (left right : Vector) → Decision
  stops : (number : ℕ) (o : Overlap) → Decision

abbrev pub settling : Overlap → Judgement → Decision → Decision
settling o agree rest = rest
settling o (differ l r) rest = differs o l r
settling o (stop k) rest = stops k o

abbrev pub decide : List ℕ → ℕ → ℕ → List Overlap → Decision
decide nums budget room [] = passes
decide nums budget room (o ∷ os) = settling o (judgement nums budget room o) (decide nums budget room os)

-- The four families, of which the two of pairs go by the same loops.
abbrev pub triples_of : ℕ → List Overlap
triples_of n = each (rising 1 n) (λ i. each (rising (suc i) (n - i)) (λ j. each (rising (suc j) (n - j)) (λ k. triple i j k ∷ [])))

abbrev pub pair_of : Family → ℕ → ℕ → Overlap
pair_of f i j = overlap_of (Pair f (record { 0 = i }) (record { 0 = j }))

abbrev pub pairs_of : Family → ℕ → List Overlap
pairs_of f n = each (rising 1 n) (λ i. each (rising (suc i) (n - i)) (λ j. pair_of f i j ∷ []))

abbrev pub singles_of : ℕ → List Overlap
singles_of n = each (rising 1 n) (λ i. single i ∷ [])

-- "The verdict is PASS; or DIFFERS with the family, the generators and both vectors; or REFUSED with the number and, for 9 and 10, the
-- overlap."
abbrev pub verdict_of : Decision → Verdict
verdict_of passes = Pass
verdict_of (differs o l r) = Differs (named o)
verdict_of (stops k o) = Stopped (refusal_of k) (named o)

-- The two vectors of n entries: all entries are 0 unless the verdict is DIFFERS.
abbrev pub left_of : ℕ → Decision → Vector
left_of n passes = identity n
left_of n (differs o l r) = l
left_of n (stops k o) = identity n

abbrev pub right_of : ℕ → Decision → Vector
right_of n passes = identity n
right_of n (differs o l r) = r
right_of n (stops k o) = identity n

-- "Of the two vectors, places past n hold 0": n entries, and the places past them.
abbrev pub padded : ℕ → Vector → Vector
padded n v = v ++ replicate (40 - n) 0

abbrev pub checked_of : ℕ → Decision → Checked
checked_of n d = record { verdict = verdict_of d; left = padded n (left_of n d); right = padded n (right_of n d) }

-- What the search for the overlap that settles the verdict answers: Ok where none does, else what the check says.
abbrev pub settles : ℕ → Decision → Result (Unit {0}) Checked
settles n passes = Ok tt
settles n (differs o l r) = Err (checked_of n (differs o l r))
settles n (stops k o) = Err (checked_of n (stops k o))

-- A verdict that is not DIFFERS: "all entries are 0".
abbrev pub without_vectors : Verdict → Checked
without_vectors v = record { verdict = v; left = replicate 40 0; right = replicate 40 0 }

-- "or REFUSED with the number", 1 to 6.
abbrev pub refused_with : ℕ → Checked
refused_with k = without_vectors (Refused (refusal_of k))

-- What the decision is of all overlaps in their order.
abbrev pub decision : List ℕ → ℕ → ℕ → Decision
decision nums budget room = decide nums budget room (overlaps (rank_of nums))

unfoldable pub check_of : List ℕ → ℕ → ℕ → Checked
check_of nums budget room =
    elim (eqb (judged nums) 0) [ true ↦ checked_of (rank_of nums) (decision nums budget room) | false ↦ refused_with (judged nums) ]

-- "For the workspace PASS and DIFFERS count as DONE": it is 0 after these, 9 and 10, and untouched by the other refusals.
abbrev pub work_after : List ℕ → List ℕ → List ℕ
work_after nums ws = elim (eqb (judged nums) 0) [ true ↦ replicate (length ws) 0 | false ↦ ws ]
