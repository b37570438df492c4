-- `line::Line::finish` meets its contract: the text stands over the start of a blank record. Assumes nothing.
use Rattle.std.proofs.Common.{ap, ◌∙◌, arith, take, length-take}
use Rattle.text.specs.Records.{record_of}
use Rattle.text.proofs.Records.{recorded}
use Rattle.text.proofs.line.Line.finish.Goals as goal

pub returns : goal.returns
returns c =
    let l = c.self.inside in
    c.self.invariant.1 ∙ recorded 79 (take l.length l.bytes) (omega (arith, c.self.invariant.0, length-take l.length l.bytes)) ∙ ap (record_of 80) c.self.view_is
