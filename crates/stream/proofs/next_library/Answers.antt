use Rattle.std.proofs.Common.{rules}
use Rattle.stream.proofs.Taking.{taking}
use Rattle.stream.proofs.next_library.Goals as goal

pub returns-then-got-eq4-clause-taken : goal.returns-then-got-eq4-clause-taken
returns-then-got-eq4-clause-taken g c =
    taking _ _ _ c.read_full.new.bytes c.if-got-eq4.true (search rules) c.in_ok-got.ensures.next _ _ (rw c.u32_at-length.ensures at c.read_library.ensures.next)
