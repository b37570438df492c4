-- `scan::no_tests` meets its contract. Assumes nothing.
use mathlib.Core.Path.{◌∙◌}
use Prim.Native.Nat.{◌-◌}
use lib.ListN.{take, drop}
use native.Mathlib.Omega.{arith}
use borrow.Author.Rules.{rules}
use Rattle.std.proofs.lemmas.Iterator.{YieldsList-from_slice}
use Rattle.std.proofs.lemmas.Iterator.Search.{all_from_yields_List}
use Rattle.instruction.specs.Control.{control_of, is_untested}
use Rattle.flow.proofs.NoTests.{untested_all}
use Rattle.flow.proofs.scan.no_tests.Goals as goal

pub returns : goal.returns
returns c =
    let a = c.args in
    let among = take (a.to - a.from) (drop a.from a.words.now) in
    let all = all_from_yields_List (λ w. is_untested (control_of w)) _ _ c.all.result c.all.ensures.ran (YieldsList-from_slice among cc) (λ x b q k. search rules) in
    all ∙ untested_all a.words.now a.from (a.to - a.from) (omega (arith, c.requires))
