-- The line of a verdict, byte by byte: "`pass p n overlaps`; or `differs f a b c : left : right` ..; or `refused N`, followed by
-- `f a b c` for 9 and 10". The program "prints one line", so each ends with a line feed.
--
-- Main definitions: `overlaps_of`, `line_of`.
use Rattle.std.specs.Prelude.{List, [], ◌∷◌, ◌++◌, ℕ, ◌+◌, ◌*◌, ◌-◌, ◌/◌, take}
use Rattle.text.specs.Ascii.{ascii}
use Rattle.text.specs.Decimal.{spaced}
use Rattle.layout.specs.Refusals.{refusal_number}
use Rattle.consistency.specs.declared.Overlap.{Overlap}
use Rattle.consistency.specs.declared.Verdict.{Verdict}
use Rattle.consistency.specs.declared.Verdict.TheVariants.{Pass, Differs, Refused, Stopped}
use Rattle.consistency.specs.declared.Checked.{Checked}
use Rattle.consistency.specs.Verdict.{family_of, generators_of}

-- Triples, pairs in two families, and single generators.
abbrev pub overlaps_of : ℕ → ℕ
overlaps_of n = n * (n - 1) * (n - 2) / 6 + n * (n - 1) + n

-- "`pass p n overlaps`"
abbrev pub pass_line : ℕ → ℕ → List ℕ
pass_line p n = ascii "pass" ++ (spaced (p ∷ n ∷ overlaps_of n ∷ []) ++ ascii "\n")

-- " : left", of which the first n entries are printed, "separated by single spaces"
abbrev pub vector_text : ℕ → List ℕ → List ℕ
vector_text n vector = ascii " :" ++ spaced (take n vector)

-- "`differs f a b c : left : right`"
abbrev pub differs_line : ℕ → Overlap → List ℕ → List ℕ → List ℕ
differs_line n o left right =
    ascii "differs" ++ (spaced (family_of o ∷ generators_of o) ++ (vector_text n left ++ (vector_text n right ++ ascii "\n")))

-- "`refused N`"
abbrev pub refused_line : ℕ → List ℕ
refused_line number = ascii "refused" ++ (spaced (number ∷ []) ++ ascii "\n")

-- "`refused N`, followed by `f a b c` for 9 and 10"
abbrev pub stopped_line : ℕ → Overlap → List ℕ
stopped_line number o = ascii "refused" ++ (spaced (number ∷ family_of o ∷ generators_of o) ++ ascii "\n")

-- The line of each case of the verdict.
abbrev pub verdict_line : ℕ → ℕ → Verdict → List ℕ → List ℕ → List ℕ
verdict_line p n Pass left right = pass_line p n
verdict_line p n (Differs o) left right = differs_line n o left right
verdict_line p n (Refused refusal) left right = refused_line (refusal_number refusal)
verdict_line p n (Stopped refusal o) left right = stopped_line (refusal_number refusal) o

abbrev pub line_of : ℕ → ℕ → Checked → List ℕ
line_of p n checked = verdict_line p n checked.verdict checked.left checked.right
