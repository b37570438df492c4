-- `verdict::judge` meets its contract. Assumes nothing.
use mathlib.Core.Path.{◌≡◌, sym}
use native.Mathlib.Omega.{arith}
use borrow.Author.Rules.{rules}
use Rattle.std.specs.Prelude.{Err}
use Rattle.verifier.proofs.Answers.{refused_by_library, words_fit, loaded, refused_by_words, refused_by_executables, judged_executables, few_executables}
use Rattle.verifier.proofs.Lists.{loaded_length, loaded_enough}
use Rattle.verifier.proofs.verdict.judge.Goals as goal

pub returns-in_err-library_fault-clause-answers : goal.returns-in_err-library_fault-clause-answers
returns-in_err-library_fault-clause-answers c =
    let same : c.from_residual.result ≡ Err c.in_err-library_fault.field-0.0 = search rules in
    rw same (refused_by_library c.args.file.now _ c.in_err-library_fault.ensures)

pub slice_bounds-loaded-end : goal.slice_bounds-loaded-end
slice_bounds-loaded-end c =
    let file = c.args.file.now in
    let p = c.program_of-program in
    loaded_enough file p.result.words c.load_words.ensures (words_fit file (sym c.in_ok-library_fault.ensures) p.ensures)

pub slice_bounds-words-end : goal.slice_bounds-words-end
slice_bounds-words-end c =
    let file = c.args.file.now in
    let p = c.program_of-program in
    sym (loaded_length file p.result.words c.load_words.ensures (words_fit file (sym c.in_ok-library_fault.ensures) p.ensures))

pub words_fault-requires : goal.words_fault-requires
words_fault-requires c =
    let file = c.args.file.now in
    let p = c.program_of-program in
    let few = words_fit file (sym c.in_ok-library_fault.ensures) p.ensures in
    omega (arith, loaded_length file p.result.words c.load_words.ensures few, few)

pub returns-in_err-words_fault-clause-answers : goal.returns-in_err-words_fault-clause-answers
returns-in_err-words_fault-clause-answers c =
    let same : c.from_residual-in_err-words_fault.result ≡ Err c.in_err-words_fault.field-0.0 = search rules in
    rw same (refused_by_words c.args.file.now (sym c.in_ok-library_fault.ensures) c.program_of-program.ensures c.load_words.ensures _ c.in_err-words_fault.ensures)

pub judge_executables-requires : goal.judge_executables-requires
judge_executables-requires c =
    let file = c.args.file.now in
    let a = sym c.in_ok-library_fault.ensures in
    (loaded file a c.program_of-program.ensures c.load_words.ensures _, omega (arith, few_executables file a c.executable_count-executables.ensures))

pub returns-in_err-reports-clause-answers : goal.returns-in_err-reports-clause-answers
returns-in_err-reports-clause-answers c =
    let same : c.from_residual-in_err-reports.result ≡ Err c.in_err-reports.field-0.0 = search rules in
    rw same (refused_by_executables c.args.file.now (sym c.in_ok-library_fault.ensures) c.program_of-program.ensures c.load_words.ensures c.in_ok-words_fault.ensures c.executable_count-executables.ensures _ c.in_err-reports.ensures)

pub returns : goal.returns
returns c =
    let both = judged_executables c.args.file.now (sym c.in_ok-library_fault.ensures) c.program_of-program.ensures c.load_words.ensures c.in_ok-words_fault.ensures c.executable_count-executables.ensures c.in_ok-reports.ensures in
    record { answers = both.0; runs = both.1 }
