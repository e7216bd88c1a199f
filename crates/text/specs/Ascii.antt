-- The bytes of a text in plain letters, so that a definition can say `ascii "pass"`.
--
-- Main definition: `ascii`.
use Rattle.std.specs.Prelude.{List, ℕ}
use mathlib.Core.List as L
use Prim.Native.Char.{code}
use Prim.Native.String.{String, [], ◌∷◌}

-- Each letter as its number, which for plain letters is its byte.
abbrev pub ascii : String → List ℕ
ascii [] = L.[]
ascii (c ∷ s) = L.◌∷◌ (code c) (ascii s)
