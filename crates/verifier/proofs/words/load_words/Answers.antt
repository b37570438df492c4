-- `words::load_words` meets its contract. Before each turn the words below p are there. Assumes nothing.
use Rattle.std.proofs.Common.{◌≡◌, length, min, arith, rules}
use Rattle.verifier.proofs.Lists.{words_then_zeros}
use Rattle.verifier.proofs.words.load_words.Goals as goal

pub returns : goal.returns
returns c =
    let items = c.loop-p.word-items in
    let n : length items ≡ min c.args.table.count 512 = search rules in
    let each = c.loop-p.invariant in
    rw c.min-count.ensures (words_then_zeros c.args.file.now c.args.table items c.tail-bytes.ensures c.requires n (λ k d h. each k d (omega arith)))
