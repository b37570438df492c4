-- `line::Line::put_byte` meets its contract: the text is one byte longer. Assumes nothing.
use Rattle.std.proofs.Common.{[], ◌<◌, ap, arith, length, length-take}
use Rattle.text.specs.Records.{record_of}
use Rattle.text.proofs.Records.{one_put}
use Rattle.text.proofs.line.Line.put_byte.Goals as goal

pub invariant_of-self : goal.invariant_of-self
invariant_of-self c =
    let l = c.self.inside in
    let room : l.length < 79 = omega (arith, c.requires, ap length c.self.view_is, length-take l.length l.bytes, c.self.told) in
    (omega (arith, room), one_put (record_of 80 []) l.bytes l.length c.args.byte (omega (arith, room, c.self.told)) c.self.invariant.1)
