-- `walking::walk` meets its contract. Assumes nothing.
use mathlib.Core.Path.{◌≡◌, sym, ap, ◌∙◌}
use mathlib.Core.Logic.{inl, inr}
use borrow.Author.Rules.{rules}
use Rattle.std.specs.Prelude.{Err}
use Rattle.answer.proofs.Missing.{there, missing}
use Rattle.verifier.proofs.Lists.{loaded_words_lem, loaded_length, loaded_enough}
use Rattle.verifier.proofs.Taken.{taken}
use Rattle.verifier.specs.Words.{words_of}
use Rattle.walk.proofs.Answers.{walk_refused, walk_missing, walk_short, runs, walk_done}
use Rattle.walk.proofs.walking.walk.Goals.{then-bools-lt16-via-then-bools-lt16, then-bools-lt16-via-else-bools-lt16+then-ints-lt4}
use Rattle.walk.proofs.walking.walk.Goals as goal

pub returns-in_default : goal.returns-in_default
returns-in_default c =
    let told = walk_refused c.args.file.now c.args.executable c.args.bools.now c.args.ints.now c.args.truth.now c.args.fetched.now c.check-verdict.ensures.answers c.unwrap_err.ensures in
    record { answers = told.0; writes = told.1.0; runs = told.1.1 }

pub returns-in_err-require : goal.returns-in_err-require
returns-in_err-require c =
    let same : c.from_residual.result ≡ Err c.in_err-require.field-0.0 = search rules in
    let (past, number, place) = missing c.args.executable c.in-Ok.library.executables _ c.in_err-require.ensures in
    let t = taken c.args.file.now c.check-verdict.ensures.answers c.in-Ok.is in
    let told = walk_missing c.args.file.now c.args.executable c.args.bools.now c.args.ints.now c.args.truth.now t c.args.fetched.now number place past in
    rw same (record { answers = told.0; writes = told.1.0; runs = told.1.1 })

pub returns-then-bools-lt16 : goal.returns-then-bools-lt16
returns-then-bools-lt16 c =
    let t = taken c.args.file.now c.check-verdict.ensures.answers c.in-Ok.is in
    let told = walk_short c.args.file.now c.args.executable c.args.bools.now c.args.ints.now c.args.truth.now t (there c.args.executable _ _ c.in_ok-require.ensures) c.args.fetched.now c.at.ensures (elim c.then-bools-lt16.branch [ then-bools-lt16-via-then-bools-lt16 w ↦ inl w.if-bools-lt16.true | then-bools-lt16-via-else-bools-lt16+then-ints-lt4 w ↦ inr w.if-ints-lt4.true ]) in
    record { answers = told.0; writes = told.1.0; runs = told.1.1 }

pub slice_bounds-loaded-end : goal.slice_bounds-loaded-end
slice_bounds-loaded-end c =
    let t = taken c.args.file.now c.check-verdict.ensures.answers c.in-Ok.is in
    loaded_enough c.args.file.now c.in-Ok.library.program.words c.words_of-loaded.ensures t.words

pub slice_bounds-words-end : goal.slice_bounds-words-end
slice_bounds-words-end c =
    let t = taken c.args.file.now c.check-verdict.ensures.answers c.in-Ok.is in
    sym (loaded_length c.args.file.now c.in-Ok.library.program.words c.words_of-loaded.ensures t.words)

pub run_main-requires : goal.run_main-requires
run_main-requires c =
    let l = c.in-Ok.library in
    let t = taken c.args.file.now {l = l} c.check-verdict.ensures.answers c.in-Ok.is in
    let w = loaded_words_lem c.args.file.now l.program.words c.words_of-loaded.ensures t.words ∙ ap (λ x. words_of c.args.file.now x.program.words) t.same in
    rw c.executable_of-e.ensures (runs c.args.file.now c.args.executable c.args.bools.now c.args.ints.now c.args.truth.now t (there c.args.executable _ _ c.in_ok-require.ensures) (λ r h. (c.type_inv.ints r).fits) w)

pub returns : goal.returns
returns c =
    let l = c.in-Ok.library in
    let t = taken c.args.file.now {l = l} c.check-verdict.ensures.answers c.in-Ok.is in
    let w = loaded_words_lem c.args.file.now l.program.words c.words_of-loaded.ensures t.words ∙ ap (λ x. words_of c.args.file.now x.program.words) t.same in
    let r = c.run_main.ensures in
    let x = c.executable_of-e.ensures in
    let told = walk_done c.args.file.now c.args.executable c.args.bools.now c.args.ints.now c.args.truth.now t (there c.args.executable _ _ c.in_ok-require.ensures) (λ r h. (c.type_inv.ints r).fits) c.args.fetched.now c.if-bools-lt16.false c.if-ints-lt4.false w (rw x at r.steps) (rw x at r.writes) in
    record { answers = told.0; writes = told.1.0; runs = told.1.1 }
