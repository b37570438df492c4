-- Before each turn the open regions are those of the run's state after so many steps; what is left of the run
-- falls with each. Assumes nothing.
use Rattle.std.proofs.Common.{◌-◌, length}
use Rattle.walk.specs.Inside.{fetches_by, settings_by}
use Rattle.walk.proofs.Running.{Going, Bounds}
use Rattle.walk.proofs.engine.run_main.Given as goal

abbrev pub invariant-loop-next : goal.invariant-loop-next
invariant-loop-next l =
    let v = settings_by l.settings in
    Going l.words v (fetches_by l.words v l.initial.word l.fn.endmain.0) l.initial.fetched l.frames l.word l.steps l.outcomes l.fetched
    × Bounds l.frames l.word l.steps

abbrev pub decreases-loop-next : goal.decreases-loop-next
decreases-loop-next l = length (fetches_by l.words (settings_by l.settings) l.initial.word l.fn.endmain.0) - l.steps
