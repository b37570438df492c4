-- `descriptors_of` meets its contract. Before each turn those below index are there. Assumes nothing.
use Rattle.std.proofs.Common.{◌≡◌, length, arith, rules}
use Rattle.listing.proofs.Answers.{descriptors_are}
use Rattle.listing.proofs.descriptors_of.Goals as goal

pub returns : goal.returns
returns c =
    let items = c.loop-index.descriptor-items in
    let n : length items ≡ c.args.table.count = search rules in
    descriptors_are c.args.file.now c.args.table items _ c.tail-bytes.ensures n (λ k d h. c.loop-index.invariant k d (omega (arith, h, n)))
