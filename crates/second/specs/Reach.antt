-- How many letters a non-normal subword takes up.
use Rattle.std.specs.Prelude.{ℕ}
use Rattle.second.specs.declared.leftmost.Kind.{Kind}
use Rattle.second.specs.declared.leftmost.Kind.TheVariants.{Equal, Falls}

abbrev pub reach : Kind → ℕ → ℕ
reach Equal p = p
reach Falls p = 2
