-- Before each turn the regions passed have closed. Assumes nothing.
use Rattle.std.proofs.Common.{◌≡◌, ◌≤◌, reverse, take}
use Rattle.walk.specs.Inside.{closing}
use Rattle.walk.proofs.frames.Frames.arrive.Given as goal

abbrev pub invariant-loop-self : goal.invariant-loop-self
invariant-loop-self l =
    (l.self-inside.depth ≤ 16) × (closing l.at (reverse (take l.self-inside.depth l.self-inside.frames)) ≡ closing l.word l.fn.self)

abbrev pub decreases-loop-self : goal.decreases-loop-self
decreases-loop-self l = l.self-inside.depth
