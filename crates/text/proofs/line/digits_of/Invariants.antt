-- `line::digits_of` meets its contract: the digits to come, and those that stand there, the last first, are
-- all of them. Assumes nothing.
use Rattle.std.proofs.Common.{◌≡◌, ◌-◌, ◌++◌, take, length, reverse}
use Rattle.text.specs.Pieces.{digits}
use Rattle.text.proofs.line.digits_of.Given as goal

abbrev pub invariant-loop-digit : goal.invariant-loop-digit
invariant-loop-digit g l =
    (length l.digit-items ≡ g.row.WIDTH)
    × (digits g.row.BASE (g.row.WIDTH - l.digit-index) l.rest ++ reverse (take l.digit-index l.digit-items) ≡ digits g.row.BASE g.row.WIDTH l.n)
