-- `library::write_report` meets its contract. Assumes nothing.
use Rattle.std.proofs.Common.{sym, ap, ◌∙◌}
use Rattle.answer.specs.Answers.{answered}
use Rattle.pica.proofs.Answers.{first_numbers}
use Rattle.pica.proofs.library.write_report.Goals as goal

pub returns-clause-runs : goal.returns-clause-runs
returns-clause-runs c e =
    record {
      report = c.in_ok-report.report;
      numbers = rw c.report_numbers.ensures at (first_numbers _ _ _ 8 8 (ap answered (sym e) ∙ c.replied.ensures.answers) c.replied.ensures.writes);
      promised = c.report_of.ensures.runs _ c.in_ok-report.was;
    }
