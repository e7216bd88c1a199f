-- What an answer says: its number and its count.
--
-- Main definitions: `number_in`, `count_in`.
use Rattle.std.specs.Prelude.{ℕ, Result, Ok, Err}
use Rattle.layout.specs.Refusals.{refusal_number}
use Rattle.collector.specs.declared.Refused.{Refused}

-- 0, DONE, or the number of the refusal.
abbrev pub number_in : Result ℕ Refused → ℕ
number_in (Ok count) = 0
number_in (Err refused) = refusal_number refused.refusal

-- The count of replacements; of a refusal, the count before it.
abbrev pub count_in : Result ℕ Refused → ℕ
count_in (Ok count) = count
count_in (Err refused) = refused.count
