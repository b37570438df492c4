-- `scan::mark_all` meets its contract. Assumes nothing.
use mathlib.Core.Path.{◌≡◌}
use mathlib.Core.Bool.{true}
use Prim.Native.Nat.{◌-◌}
use lib.ListN.{replicate}
use native.Mathlib.Omega.{arith}
use borrow.Author.Rules.{rules}
use Rattle.flow.proofs.NoTests.{mark_fill}
use Rattle.flow.proofs.scan.mark_all.Goals as goal

pub returns : goal.returns
returns c =
    let a = c.args in
    let e : c.fill.new.self ≡ replicate (a.to - a.from) true = search rules in
    rw e (mark_fill a.marks.now a.from (a.to - a.from) (omega arith))
