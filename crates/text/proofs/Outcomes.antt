-- What the contracts of this crate allow is one outcome.
--
-- Main law: `one-unpacking`.
use mathlib.Core.Path.{◌≡◌, sym, ◌∙◌}
use mathlib.Core.List.{List}
use Prim.Native.Nat.{ℕ}
use Rattle.text.specs.Numbers.{Unpacked}

pub one-unpacking : {bytes old a b : List ℕ} {m n : ℕ} → Unpacked bytes old a m → Unpacked bytes old b n → (a ≡ b) × (m ≡ n)
one-unpacking p q = (p.stored ∙ sym q.stored, p.counted ∙ sym q.counted)
