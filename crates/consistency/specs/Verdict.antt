-- The verdict in document 01's numbers: which family an overlap is of, and its generators; the number and the overlap of each case.
--
-- Main definitions: `family_of`, `generators_of`, `number_of`, `values_of`.
use Rattle.std.specs.Prelude.{List, [], ◌∷◌, ℕ}
use Rattle.layout.specs.Refusals.{refusal_number}
use Rattle.consistency.specs.declared.Family.TheVariants.{Upper, Lower}
use Rattle.consistency.specs.declared.Overlap.{Overlap}
use Rattle.consistency.specs.declared.Overlap.TheVariants.{Triple, Pair, Single}
use Rattle.consistency.specs.declared.Verdict.{Verdict}
use Rattle.consistency.specs.declared.Verdict.TheVariants.{Pass, Differs, Refused, Stopped}

-- The number of the overlap's family in document 01's list.
abbrev pub family_of : Overlap → ℕ
family_of (Triple i j k) = 1
family_of (Pair Upper i j) = 2
family_of (Pair Lower i j) = 3
family_of (Single i) = 4

-- "with i, j, k as a, b, c, a generator not used printed as 0"
abbrev pub generators_of : Overlap → List ℕ
generators_of (Triple i j k) = i.0 ∷ j.0 ∷ k.0 ∷ []
generators_of (Pair f i j) = i.0 ∷ j.0 ∷ 0 ∷ []
generators_of (Single i) = i.0 ∷ 0 ∷ 0 ∷ []

-- "REFUSED with the number"; PASS and DIFFERS refuse nothing, and have 0, as DONE has.
abbrev pub number_of : Verdict → ℕ
number_of Pass = 0
number_of (Differs o) = 0
number_of (Refused refusal) = refusal_number refusal
number_of (Stopped refusal o) = refusal_number refusal

-- "DIFFERS with the family, the generators ..; or REFUSED with .., for 9 and 10, the overlap": family and generators, all 0 where the
-- verdict has no overlap.
abbrev pub values_of : Verdict → List ℕ
values_of Pass = 0 ∷ 0 ∷ 0 ∷ 0 ∷ []
values_of (Differs o) = family_of o ∷ generators_of o
values_of (Refused refusal) = 0 ∷ 0 ∷ 0 ∷ 0 ∷ []
values_of (Stopped refusal o) = family_of o ∷ generators_of o
