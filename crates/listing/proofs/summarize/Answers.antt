-- `summarize` meets its contract. Assumes nothing.
use Rattle.std.proofs.Common.{arith}
use Rattle.listing.specs.Listing.{summary_at, summary_answer, summary_bytes}
use Rattle.verifier.specs.Executables.{no_report}
use Rattle.listing.proofs.Answers.{judged, report_is}
use Rattle.listing.proofs.summarize.Goals as goal

pub write_records-requires-clause-few : goal.write_records-requires-clause-few
write_records-requires-clause-few c =
    let t = judged c.args.file.now c.judge.ensures.answers c.in_ok-judged.was in omega (arith, t.executables)

pub write_records-requires-clause-callable : goal.write_records-requires-clause-callable
write_records-requires-clause-callable c =
    let t = judged c.args.file.now c.judge.ensures.answers c.in_ok-judged.was in λ i h. omega (arith, t.executables)

pub returns-clause-writes : goal.returns-clause-writes
unfolding summary_answer summary_bytes
returns-clause-writes c =
    let file = c.args.file.now in
    let l = c.in_ok-judged.judged.library in
    let t = judged file c.judge.ensures.answers c.in_ok-judged.was in
    let at = report_is file c.judge.ensures.answers c.in_ok-judged.was in
    rw t.answer (c.write_records.ensures.writes (summary_at file l.program) (λ i r h p. cc (p, at i no_report h)))
