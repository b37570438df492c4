use Rattle.std.proofs.Common.{refl, ◌∙◌}
use Rattle.walk.proofs.Running.{goes_on, ended, bounds, begins}
use Rattle.walk.proofs.engine.run_main.Goals as goal

pub loop-next-init : goal.loop-next-init
loop-next-init c =
    let g = begins _ _ _ _ c.requires c.args.fetched.now c.of_main-frames.ensures refl in
    (g, bounds _ _ _ _ c.requires g)

pub returns-in_default : goal.returns-in_default
returns-in_default c =
    let (n, l) = ended _ _ _ _ c.loop-next.invariant.0 _ c.controls_of-controls.ensures c.in_default.ensures.steps in
    record { steps = n; writes = c.note.ensures ∙ l }

pub loop-next-preserved : goal.loop-next-preserved
loop-next-preserved c =
    let next = goes_on _ _ _ _ c.loop-next.invariant.0 _ c.controls_of-controls.ensures c.in-Some.ensures.steps c.in-Some.ensures.left c.note.ensures in
    (next, bounds _ _ _ _ c.requires next)
