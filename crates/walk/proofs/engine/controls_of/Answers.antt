use Rattle.std.proofs.Common.{◌≡◌, ◌+◌, arith, get_or}
use Rattle.instruction.specs.Control.{control_of}
use Rattle.instruction.specs.declared.flow_control.Control.TheVariants.{Plain}
use Rattle.verifier.proofs.Lists.{filled_none, filled_next}
use Rattle.walk.proofs.engine.controls_of.Goals as goal

pub loop-p-init : goal.loop-p-init
loop-p-init c = filled_none _ 0 512 Plain

pub loop-p-preserved : goal.loop-p-preserved
loop-p-preserved c =
    let words = c.args.words.now in
    let z : 0 + c.loop-p.p ≡ c.loop-p.p = omega arith in
    rw (c.loop-p.invariant, c.control_of.ensures) (rw z at (filled_next (λ n. control_of (get_or words n 0)) 0 512 Plain c.loop-p.p (omega (arith, c.requires, c.loop-p-test.true))))
