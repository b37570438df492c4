-- Before each turn the controls below p are there. Assumes nothing.
use Rattle.std.proofs.Common.{◌≡◌, get_or}
use Rattle.instruction.specs.Control.{control_of}
use Rattle.instruction.specs.declared.flow_control.Control.TheVariants.{Plain}
use Rattle.verifier.specs.Lists.{filled}
use Rattle.walk.proofs.engine.controls_of.Given as goal

abbrev pub invariant-loop-p : goal.invariant-loop-p
invariant-loop-p l = l.controls ≡ filled (λ k. control_of (get_or l.words k 0)) 0 512 l.p Plain
