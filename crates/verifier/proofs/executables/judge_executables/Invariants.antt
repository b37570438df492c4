-- `executables::judge_executables` meets its contract: what is left of the answer at each stage of an
-- executable is kept from one loop to the next, and what is known of the executable before it.
-- Assumes nothing.
use mathlib.Core.Path.{◌≡◌}
use Prim.Native.Nat.{◌-◌, ◌≤◌}
use Rattle.answer.specs.Faults.{Nothing, faulted}
use Rattle.tables.specs.Constants.{constant_fault}
use Rattle.tables.specs.Entries.{output_fault}
use Rattle.verifier.specs.Executables.{no_report, report_of}
use Rattle.verifier.specs.Inside.{Known}
use Rattle.verifier.specs.Lists.{filled}
use Rattle.verifier.proofs.Sharing.{Upto, label_test, uniform_test}
use Rattle.verifier.proofs.Stages.{All, From, FromFlow, FromUniforms, FromOutputs, FromLabels}
use Rattle.verifier.proofs.executables.judge_executables.Given as goal

abbrev pub invariant-loop-entry : goal.invariant-loop-entry
invariant-loop-entry l =
    (faulted l.found ≡ Nothing) × Upto constant_fault l.file l.e.constants 20 l.place (All l.file l.library.program l.first l.end) (FromLabels l.file l.library.program l.first l.end l.index l.e l.place) l.entry

abbrev pub decreases-loop-entry : goal.decreases-loop-entry
decreases-loop-entry l = l.entry-end - l.entry

abbrev pub invariant-loop-entry-2 : goal.invariant-loop-entry-2
invariant-loop-entry-2 l =
    (faulted l.found ≡ Nothing) × Upto (label_test l.file l.e l.library.program.words.count) l.file l.e.labels 16 l.place (All l.file l.library.program l.first l.end) (FromOutputs l.file l.library.program l.first l.end l.index l.e l.place) l.entry

abbrev pub decreases-loop-entry-2 : goal.decreases-loop-entry-2
decreases-loop-entry-2 l = l.entry-end - l.entry

abbrev pub invariant-loop-entry-3 : goal.invariant-loop-entry-3
invariant-loop-entry-3 l =
    (faulted l.found ≡ Nothing) × Upto output_fault l.file l.e.outputs 8 l.place (All l.file l.library.program l.first l.end) (FromUniforms l.file l.library.program l.first l.end l.index l.e l.place) l.entry

abbrev pub decreases-loop-entry-3 : goal.decreases-loop-entry-3
decreases-loop-entry-3 l = l.entry-end - l.entry

abbrev pub invariant-loop-entry-4 : goal.invariant-loop-entry-4
invariant-loop-entry-4 l =
    (faulted l.found ≡ Nothing) × Upto (uniform_test l.file l.e) l.file l.e.uniforms 8 l.place (All l.file l.library.program l.first l.end) (FromFlow l.file l.library.program l.first l.end l.index l.e l.place) l.entry

abbrev pub decreases-loop-entry-4 : goal.decreases-loop-entry-4
decreases-loop-entry-4 l = l.entry-end - l.entry

abbrev pub invariant-executables : goal.invariant-executables
invariant-executables l =
    (l.first ≤ l.index) × (l.index - l.first ≤ l.end - l.first) × (faulted l.found ≡ Nothing) × (All l.file l.library.program l.first l.end ≡ From l.file l.library.program l.first l.end l.index)
    × (l.reports ≡ filled (report_of l.file l.library.program) l.first 16 (l.index - l.first) no_report)
    × Known l.file l.words l.earlier

abbrev pub decreases-executables : goal.decreases-executables
decreases-executables l = l.end - l.index
