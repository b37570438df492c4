-- What was passed over so far, and what is left, which falls with each turn.
use Rattle.std.proofs.Common.{◌≡◌, ℕ, ◌+◌, List, length}
use Rattle.std.specs.Io.KnownBytes.{Consumes}
use Rattle.stream.proofs.input.skip.Given as goal

abbrev pub invariant-loop-left : goal.invariant-loop-left
invariant-loop-left g l = (gone : List ℕ) × (length gone + l.left ≡ l.count) × Consumes (g.R.Read.remaining l.initial.input) (g.R.Read.remaining l.input) gone

abbrev pub decreases-loop-left : goal.decreases-loop-left
decreases-loop-left g l = l.left
