-- `verdict::check` meets its contract. Assumes nothing.
use mathlib.Core.Path.{◌≡◌, ap}
use borrow.Author.Rules.{rules}
use Rattle.std.specs.Prelude.{Err}
use Rattle.answer.specs.Answers.{given, answered}
use Rattle.verifier.specs.Verdict.{judge_of, check_of}
use Rattle.verifier.proofs.Answers.{exactly}
use Rattle.verifier.proofs.verdict.check.Goals as goal

pub returns-in_err-accepted : goal.returns-in_err-accepted
unfolding judge_of
returns-in_err-accepted c =
    let file = c.args.file.now in
    let same : c.from_residual.result ≡ Err c.in_err-accepted.field-0.0 = search rules in
    let told : answered c.from_residual.result ≡ check_of file = rw same (ap (λ x. x.verdict) c.in_err-accepted.ensures.answers) in
    record { answers = told; exactly = exactly file told }

pub returns : goal.returns
unfolding judge_of
returns c =
    let file = c.args.file.now in
    let told : given c.in_ok-accepted.accepted.library ≡ check_of file = ap (λ x. x.verdict) c.in_ok-accepted.ensures.answers in
    record { answers = told; exactly = exactly file told }
