use Rattle.std.proofs.Common.{ap, ◌∙◌, rules}
use Rattle.walk.specs.Inside.{leaving}
use Rattle.walk.proofs.Regions.{leaves_at}
use Rattle.walk.proofs.frames.Frames.leave.Goals as goal

pub returns : goal.returns
returns c = leaves_at c.self.inside.frames c.self.inside.depth (search rules) c.in_ok-innermost.innermost (search rules) (search rules) (search rules) ∙ ap leaving c.self.view_is
