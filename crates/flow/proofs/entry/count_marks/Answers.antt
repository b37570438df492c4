-- `entry::count_marks` meets its contract. Assumes nothing.
use mathlib.Core.Path.{◌≡◌, ◌∙◌}
use lib.ListN.{length}
use mir.Val.{bool_byte}
use native.Mathlib.Omega.{arith}
use borrow.Author.Rules.{rules}
use Rattle.std.specs.Prelude.{map, sum}
use Rattle.std.proofs.lemmas.List.{take_all}
use Rattle.std.proofs.lemmas.List.Sums.{sum-map}
use Rattle.flow.proofs.Marks.{count_sum}
use Rattle.flow.proofs.entry.count_marks.Goals as goal

pub returns : goal.returns
returns c =
    let m = c.args.marks.now in
    let e : c.sum.result ≡ sum (map bool_byte m) = search rules in
    let all = take_all (length m) m (omega arith) in
    e ∙ sum-map bool_byte m ∙ rw all at (count_sum m (length m) (omega arith))
