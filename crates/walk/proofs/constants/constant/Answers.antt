-- `constants::constant` meets its contract. Assumes nothing.
use mathlib.Core.Path.{◌≡◌, ap}
use native.Mathlib.Omega.{arith}
use borrow.Author.Rules.{rules}
use Rattle.std.specs.Prelude.{Err}
use Rattle.answer.proofs.Missing.{there, missing}
use Rattle.verifier.proofs.Taken.{taken}
use Rattle.walk.proofs.Handing.{constant_refused, no_executable_lem, no_constant, constant_given, entry_at_lem}
use Rattle.walk.proofs.constants.constant.Goals as goal

pub returns-in_err-library : goal.returns-in_err-library
returns-in_err-library c =
    let same : c.from_residual.result ≡ Err c.in_err-library.field-0.0 = search rules in
    let told = constant_refused c.args.file.now c.args.executable c.args.n c.check.ensures.answers c.in_err-library.was in
    rw same (record { answers = told.0; hands = told.1 })

pub returns-in_err-require : goal.returns-in_err-require
returns-in_err-require c =
    let same : c.from_residual-in_err-require.result ≡ Err c.in_err-require.field-0.0 = search rules in
    let (past, number, place) = missing c.args.executable c.in_ok-library.library.executables _ c.in_err-require.ensures in
    let t = taken c.args.file.now c.check.ensures.answers c.in_ok-library.was in
    let told = no_executable_lem c.args.file.now c.args.executable c.args.n t _ number place past in
    rw same (record { answers = told.0; hands = told.1 })

pub returns-then-table-n : goal.returns-then-table-n
returns-then-table-n c =
    let t = taken c.args.file.now c.check.ensures.answers c.in_ok-library.was in
    let told = no_constant c.args.file.now c.args.executable c.args.n t (there c.args.executable _ _ c.in_ok-require.ensures) c.at.ensures (omega (arith, ap (λ e. e.constants.count) c.executable_of.ensures, c.if-table-n.true)) in
    record { answers = told.0; hands = told.1 }

pub returns : goal.returns
returns c =
    let t = taken c.args.file.now c.check.ensures.answers c.in_ok-library.was in
    let x = c.executable_of in
    let h = entry_at_lem c.args.file.now c.args.executable c.args.n x.result x.ensures c.tail.ensures c.tail-entry.ensures c.constant_entry.ensures c.constant_of.ensures in
    let told = constant_given c.args.file.now c.args.executable c.args.n t (there c.args.executable _ _ c.in_ok-require.ensures) (omega (arith, ap (λ e. e.constants.count) x.ensures, c.if-table-n.false)) _ h c.ok_or.ensures.value in
    record { answers = told.0; hands = told.1 }
