-- `verdict::report_of` meets its contract. Assumes nothing.
use mathlib.Core.Path.{◌≡◌}
use borrow.Author.Rules.{rules}
use Rattle.std.specs.Prelude.{Err}
use Rattle.answer.proofs.Missing.{there, missing}
use Rattle.verifier.proofs.Answers.{report_refused, report_missing, below_16, report_given}
use Rattle.verifier.proofs.verdict.report_of.Goals as goal

pub returns-in_err-judged : goal.returns-in_err-judged
returns-in_err-judged c =
    let same : c.from_residual.result ≡ Err c.in_err-judged.field-0.0 = search rules in
    let both = report_refused c.args.file.now c.judge.ensures.answers c.args.executable c.in_err-judged.was in
    rw same (record { answers = both.0; runs = both.1 })

pub returns-in_err-require : goal.returns-in_err-require
returns-in_err-require c =
    let same : c.from_residual-in_err-require.result ≡ Err c.in_err-require.field-0.0 = search rules in
    let (past, number, place) = missing c.args.executable c.in_ok-judged.judged.library.executables _ c.in_err-require.ensures in
    let both = report_missing c.args.file.now c.judge.ensures.answers c.args.executable c.in_ok-judged.was number place past in
    rw same (record { answers = both.0; runs = both.1 })

pub bounds-reports-executable : goal.bounds-reports-executable
bounds-reports-executable c =
    below_16 c.args.file.now c.judge.ensures.answers c.args.executable c.in_ok-judged.was (there c.args.executable _ _ c.in_ok-require.ensures)

pub returns : goal.returns
returns c =
    let both = report_given c.args.file.now c.judge.ensures.answers c.args.executable c.in_ok-judged.was _ (there c.args.executable _ _ c.in_ok-require.ensures) in
    record { answers = both.0; runs = both.1 }
