-- `put_part` meets its contract: no power is put where there is none, and any other as one slot (proofs/Laying).
use Rattle.consistency.proofs.Laying.{part-some}
use Rattle.consistency.proofs.sides.put_part.Goals as goal

pub returns : goal.returns
returns c = rw c.in-Some.is (part-some c.in-Some.power c.put.ensures)
