-- `list` meets its contract. Assumes nothing.
use mathlib.Core.Path.{◌≡◌, sym, ap, ◌∙◌}
use Rattle.answer.specs.Answers.{answered, given}
use Rattle.listing.specs.Listing.{line_at, list_answer, listed_bytes}
use Rattle.verifier.specs.Verdict.{check_of}
use Rattle.listing.proofs.list.Goals as goal

pub returns-clause-writes : goal.returns-clause-writes
unfolding list_answer listed_bytes
returns-clause-writes c =
    let file = c.args.file.now in
    let l = c.in_ok-library.library in
    let a : check_of file ≡ given l = sym c.check.ensures.answers ∙ ap answered c.in_ok-library.was in
    rw a (c.write_records.ensures.writes (line_at file l.program) (λ i r h p. cc (p, c.descriptors_of-all.ensures)))
