-- `word::encode_numbers` meets its contract. Assumes nothing.
use Rattle.std.proofs.Common.{arith, rules}
use Rattle.std.proofs.lemmas.Bool.Decides.{nat_tests}
use Rattle.pica.proofs.Words.{encoded_of}
use Rattle.pica.proofs.word.encode_numbers.Goals as goal

pub returns-then-ne : goal.returns-then-ne
returns-then-ne c =
    let e = encoded_of c.args.format c.args.fields.now (grind (arith, nat_tests)) (search rules) {xs = c.in_ok-numbers.numbers.now} (search rules) in
    grind (arith, nat_tests, e)

pub returns : goal.returns
returns c =
    let e = encoded_of c.args.format c.args.fields.now (grind (arith, nat_tests)) (search rules) {xs = c.in_ok-numbers.numbers.now} (search rules) in
    grind (arith, nat_tests, e)
