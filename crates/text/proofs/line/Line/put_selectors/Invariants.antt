-- `line::Line::put_selectors` meets its contract: the components that were gone over are put.
-- Assumes nothing.
use Rattle.std.proofs.Common.{◌≡◌, ◌++◌, map, take}
use Rattle.text.specs.Pieces.{bytes}
use Rattle.text.specs.Registers.{component}
use Rattle.text.proofs.line.Line.put_selectors.Given as goal

abbrev pub invariant-loop-k : goal.invariant-loop-k
invariant-loop-k l = l.self ≡ l.fn.self ++ bytes "." ++ map component (take l.k-index l.fn.s.components)
