use Rattle.std.proofs.Common.{◌≤◌, ◌++◌, length, take, arith, rules, length-append, length-take-le}
use Rattle.std.proofs.KnownBytes.{Consumes-trans}
use Rattle.stream.proofs.input.skip.Goals as goal

pub loop-left-preserved : goal.loop-left-preserved
loop-left-preserved g c =
    let (gone, counted, consumed) = c.loop-left.invariant in
    let passed = c.in_ok-passed.passed in
    let bytes = c.read_some.new.bytes in
    let within : passed ≤ length bytes = search rules in
    (gone ++ take passed bytes, omega (arith, c.in_ok-passed.ensures.read, length-append gone (take passed bytes), length-take-le passed bytes within), Consumes-trans _ _ _ _ _ consumed (search rules))
