-- `executables::judge_executables` meets its contract: what is left of the answer at each stage of an
-- executable is kept from one loop to the next, and what is known of the executable before it.
-- Assumes nothing.
use mathlib.Core.Path.{◌≡◌, refl, sym, ap, ◌∙◌}
use Prim.Native.Nat.{ℕ, ◌+◌, ◌-◌, ◌≤◌, ◌<◌}
use native.Mathlib.Omega.{arith}
use borrow.Author.Rules.{rules}
use Rattle.answer.specs.Faults.{Nothing}
use Rattle.answer.proofs.Laws.{stop, hit, over}
use Rattle.container.specs.Executable.{executable_fault}
use Rattle.answer.specs.Answers.{answered}
use Rattle.std.specs.Prelude.{Err}
use Rattle.std.proofs.lemmas.Option.{IfSome_then}
use Rattle.answer.specs.Faults.{faulted}
use Rattle.tables.specs.Constants.{constant_fault}
use Rattle.tables.specs.Entries.{label_fault, output_fault, uniform_fault}
use Rattle.verifier.specs.Executables.{place_of, no_report, report_of}
use Rattle.verifier.specs.Lists.{filled}
use Rattle.verifier.proofs.Sharing.{constant_placeless, label_placeless, output_placeless, uniform_placeless, begun, next, all_good, begins, now_known}
use Rattle.verifier.proofs.Stages.{All, begin, at_head, past_head, seen, seen_names, constants_fit, labels_fit, outputs_fit, uniforms_fit, word_inside, flow_stops, flow_goes_on, report_added, none_yet, Left, left_by, found_by, passes, told_refused, told_reports}
use Rattle.verifier.proofs.executables.judge_executables.Goals.{After-executable_of-e, Left-executables, else-executables-test, then-executables-test+then-is_err, then-executables-test+else-is_err+then-loop-entry-test+then-is_err-2, then-executables-test+else-is_err+else-loop-entry-test+then-loop-entry-2-test+then-is_err-3, then-executables-test+else-is_err+else-loop-entry-test+else-loop-entry-2-test+then-loop-entry-3-test+then-is_err-4, then-executables-test+else-is_err+else-loop-entry-test+else-loop-entry-2-test+else-loop-entry-3-test+then-loop-entry-4-test+then-is_err-5, then-executables-test+else-is_err+else-loop-entry-test+else-loop-entry-2-test+else-loop-entry-3-test+else-loop-entry-4-test+in-Err}
use Rattle.verifier.proofs.executables.judge_executables.Goals as goal

-- an executable that is read: it is one of those asked for, and has no fault before its tables
module _ (c : After-executable_of-e) where
  abbrev at_index : ℕ
  at_index = c.executables.index

  in_range : (c.args.first ≤ at_index) × (at_index < c.args.end) × (c.args.end ≤ 16)
  in_range = (c.executables.invariant.0, c.executables-test.true, c.requires.1)

  head_passed : executable_fault 1 c.args.library.program.words c.args.file.now at_index (place_of at_index) ≡ Nothing
  head_passed = sym c.executable_fault-found.ensures ∙ passes _ (sym c.is_err.ensures.value ∙ c.if-is_err.false)

-- where the ways out of the loop meet: it is over, or one of the tests stopped it
at_left : (c : Left-executables)
    → Left (All c.args.file.now c.args.library.program c.args.first c.args.end) c.executables-test.found (c.args.end ≤ c.executables.index)
at_left c =
    let x = c.executables in
    elim c.executables-test.branch [
      | else-executables-test w ↦ (ap faulted w.found-is ∙ x.invariant.2 ∙ sym (over _ _ _ _ _ x.invariant.3 w.executables-test.false), λ e. w.executables-test.false)
      | then-executables-test+then-is_err w ↦ left_by w.found-is (sym w.is_err.ensures.value ∙ w.if-is_err.true) (found_by _ (sym w.is_err.ensures.value ∙ w.if-is_err.true) w.executable_fault-found.ensures (λ n p g. stop _ _ (at_head _ _ _ _ _ x.invariant.3 w.executables-test.true) g))
      | then-executables-test+else-is_err+then-loop-entry-test+then-is_err-2 w ↦ left_by w.found-is (sym w.is_err-in-loop-entry.ensures.value ∙ w.if-is_err-2.true) (found_by _ (sym w.is_err-in-loop-entry.ensures.value ∙ w.if-is_err-2.true) (sym (seen (λ s. constant_fault s (place_of x.index + w.loop-entry.entry)) w.entry_of.ensures w.constant_fault-found.ensures)) (λ n p g. hit _ _ _ _ _ w.loop-entry.invariant.1.left w.loop-entry-test.true g))
      | then-executables-test+else-is_err+else-loop-entry-test+then-loop-entry-2-test+then-is_err-3 w ↦ left_by w.found-is (sym w.is_err-in-loop-entry-2.ensures.value ∙ w.if-is_err-3.true) (found_by _ (sym w.is_err-in-loop-entry-2.ensures.value ∙ w.if-is_err-3.true) (sym (seen_names (λ n s. label_fault s c.args.library.program.words.count n (place_of x.index + w.loop-entry-2.entry)) w.names_after-names.ensures w.entry_of-in-loop-entry-2.ensures w.label_fault-found.ensures)) (λ n p g. hit _ _ _ _ _ w.loop-entry-2.invariant.1.left w.loop-entry-2-test.true g))
      | then-executables-test+else-is_err+else-loop-entry-test+else-loop-entry-2-test+then-loop-entry-3-test+then-is_err-4 w ↦ left_by w.found-is (sym w.is_err-in-loop-entry-3.ensures.value ∙ w.if-is_err-4.true) (found_by _ (sym w.is_err-in-loop-entry-3.ensures.value ∙ w.if-is_err-4.true) (sym (seen (λ s. output_fault s (place_of x.index + w.loop-entry-3.entry)) w.entry_of-in-loop-entry-3.ensures w.output_fault-found.ensures)) (λ n p g. hit _ _ _ _ _ w.loop-entry-3.invariant.1.left w.loop-entry-3-test.true g))
      | then-executables-test+else-is_err+else-loop-entry-test+else-loop-entry-2-test+else-loop-entry-3-test+then-loop-entry-4-test+then-is_err-5 w ↦ left_by w.found-is (sym w.is_err-in-loop-entry-4.ensures.value ∙ w.if-is_err-5.true) (found_by _ (sym w.is_err-in-loop-entry-4.ensures.value ∙ w.if-is_err-5.true) (sym (seen_names (λ n s. uniform_fault s n (place_of x.index + w.loop-entry-4.entry)) w.names_after-names.ensures w.entry_of-in-loop-entry-4.ensures w.uniform_fault-found.ensures)) (λ n p g. hit _ _ _ _ _ w.loop-entry-4.invariant.1.left w.loop-entry-4-test.true g))
      | then-executables-test+else-is_err+else-loop-entry-test+else-loop-entry-2-test+else-loop-entry-3-test+else-loop-entry-4-test+in-Err w ↦ left_by w.found-is refl (ap (λ r. faulted (Err r)) w.at.ensures ∙ flow_stops c.requires.0 x.index w.executable_of-e.ensures (sym w.executable_fault-found.ensures ∙ passes _ (sym w.is_err.ensures.value ∙ w.if-is_err.false)) w.flow_after.result w.flow_after.ensures _ _ (over _ _ _ _ _ w.loop-entry-4.invariant.1.left w.loop-entry-4-test.false) w.in-Err.is)
    ]

pub executables-init : goal.executables-init
executables-init c =
    let none : c.default-reports.result ≡ no_report = search rules in
    (search rules, search rules, refl, begin _ _ _ _, none_yet (report_of c.args.file.now c.args.library.program) c.args.first none, tt)

pub names_after-names-requires : goal.names_after-names-requires
names_after-names-requires c = IfSome_then c.executables.earlier c.executables.invariant.5 (λ k known. known.names)

pub loop-entry-init : goal.loop-entry-init
loop-entry-init c =
    let x = c.executables in (
      passes _ (sym c.is_err.ensures.value ∙ c.if-is_err.false),
      begun _ _ _ _ _ _ _ (begins c.requires.0 c.executable_of-e.result c.names_after-names.ensures x.earlier x.invariant.5 c.good_entries-known.ensures).constants (past_head _ _ _ _ _ x.invariant.3 (in_range (goal.at.loop-entry-init c).After-executable_of-e).1 c.executable_of-e.ensures (head_passed (goal.at.loop-entry-init c).After-executable_of-e)),
    )

pub entry_of-requires : goal.entry_of-requires
entry_of-requires c =
    omega (arith, in_range (goal.at.entry_of-requires c).After-executable_of-e, constants_fit c.requires.0 _ c.executable_of-e.ensures (head_passed (goal.at.entry_of-requires c).After-executable_of-e) c.loop-entry.entry c.loop-entry-test.true)

pub overflow_add-place : goal.overflow_add-place
overflow_add-place c =
    omega (arith, in_range (goal.at.overflow_add-place c).After-executable_of-e, constants_fit c.requires.0 _ c.executable_of-e.ensures (head_passed (goal.at.overflow_add-place c).After-executable_of-e) c.loop-entry.entry c.loop-entry-test.true)

pub loop-entry-preserved : goal.loop-entry-preserved
loop-entry-preserved c = (
  passes _ (sym c.is_err-in-loop-entry.ensures.value ∙ c.if-is_err-2.false),
  next _ _ _ _ _ _ _ constant_placeless c.loop-entry.invariant.1 c.loop-entry-test.true
      (seen (λ s. constant_fault s (place_of (at_index (goal.at.loop-entry-preserved c).After-executable_of-e) + c.loop-entry.entry)) c.entry_of.ensures c.constant_fault-found.ensures ∙ passes _ (sym c.is_err-in-loop-entry.ensures.value ∙ c.if-is_err-2.false)),
)

pub loop-entry-2-init : goal.loop-entry-2-init
loop-entry-2-init c =
    let x = c.executables in
    let l = c.loop-entry in
    (l.invariant.0, begun _ _ _ _ _ _ _ (begins c.requires.0 c.executable_of-e.result c.names_after-names.ensures x.earlier x.invariant.5 c.good_entries-known.ensures).labels (over _ _ _ _ _ l.invariant.1.left c.loop-entry-test.false))

pub entry_of-requires-in-loop-entry-2 : goal.entry_of-requires-in-loop-entry-2
entry_of-requires-in-loop-entry-2 c =
    omega (arith, in_range (goal.at.entry_of-requires-in-loop-entry-2 c).After-executable_of-e, labels_fit c.requires.0 _ c.executable_of-e.ensures (head_passed (goal.at.entry_of-requires-in-loop-entry-2 c).After-executable_of-e) c.loop-entry-2.entry c.loop-entry-2-test.true)

pub overflow_add-place-in-loop-entry-2 : goal.overflow_add-place-in-loop-entry-2
overflow_add-place-in-loop-entry-2 c =
    omega (arith, in_range (goal.at.overflow_add-place-in-loop-entry-2 c).After-executable_of-e, labels_fit c.requires.0 _ c.executable_of-e.ensures (head_passed (goal.at.overflow_add-place-in-loop-entry-2 c).After-executable_of-e) c.loop-entry-2.entry c.loop-entry-2-test.true)

pub loop-entry-2-preserved : goal.loop-entry-2-preserved
loop-entry-2-preserved c = (
  passes _ (sym c.is_err-in-loop-entry-2.ensures.value ∙ c.if-is_err-3.false),
  next _ _ _ _ _ _ _ (label_placeless _ _) c.loop-entry-2.invariant.1 c.loop-entry-2-test.true
      (seen_names (λ n s. label_fault s c.args.library.program.words.count n (place_of (at_index (goal.at.loop-entry-2-preserved c).After-executable_of-e) + c.loop-entry-2.entry)) c.names_after-names.ensures c.entry_of-in-loop-entry-2.ensures c.label_fault-found.ensures ∙ passes _ (sym c.is_err-in-loop-entry-2.ensures.value ∙ c.if-is_err-3.false)),
)

pub loop-entry-3-init : goal.loop-entry-3-init
loop-entry-3-init c =
    let x = c.executables in
    let l = c.loop-entry-2 in
    (l.invariant.0, begun _ _ _ _ _ _ _ (begins c.requires.0 c.executable_of-e.result c.names_after-names.ensures x.earlier x.invariant.5 c.good_entries-known.ensures).outputs (over _ _ _ _ _ l.invariant.1.left c.loop-entry-2-test.false))

pub entry_of-requires-in-loop-entry-3 : goal.entry_of-requires-in-loop-entry-3
entry_of-requires-in-loop-entry-3 c =
    omega (arith, in_range (goal.at.entry_of-requires-in-loop-entry-3 c).After-executable_of-e, outputs_fit c.requires.0 _ c.executable_of-e.ensures (head_passed (goal.at.entry_of-requires-in-loop-entry-3 c).After-executable_of-e) c.loop-entry-3.entry c.loop-entry-3-test.true)

pub overflow_add-place-in-loop-entry-3 : goal.overflow_add-place-in-loop-entry-3
overflow_add-place-in-loop-entry-3 c =
    omega (arith, in_range (goal.at.overflow_add-place-in-loop-entry-3 c).After-executable_of-e, outputs_fit c.requires.0 _ c.executable_of-e.ensures (head_passed (goal.at.overflow_add-place-in-loop-entry-3 c).After-executable_of-e) c.loop-entry-3.entry c.loop-entry-3-test.true)

pub loop-entry-3-preserved : goal.loop-entry-3-preserved
loop-entry-3-preserved c = (
  passes _ (sym c.is_err-in-loop-entry-3.ensures.value ∙ c.if-is_err-4.false),
  next _ _ _ _ _ _ _ output_placeless c.loop-entry-3.invariant.1 c.loop-entry-3-test.true
      (seen (λ s. output_fault s (place_of (at_index (goal.at.loop-entry-3-preserved c).After-executable_of-e) + c.loop-entry-3.entry)) c.entry_of-in-loop-entry-3.ensures c.output_fault-found.ensures ∙ passes _ (sym c.is_err-in-loop-entry-3.ensures.value ∙ c.if-is_err-4.false)),
)

pub loop-entry-4-init : goal.loop-entry-4-init
loop-entry-4-init c =
    let x = c.executables in
    let l = c.loop-entry-3 in
    (l.invariant.0, begun _ _ _ _ _ _ _ (begins c.requires.0 c.executable_of-e.result c.names_after-names.ensures x.earlier x.invariant.5 c.good_entries-known.ensures).uniforms (over _ _ _ _ _ l.invariant.1.left c.loop-entry-3-test.false))

pub entry_of-requires-in-loop-entry-4 : goal.entry_of-requires-in-loop-entry-4
entry_of-requires-in-loop-entry-4 c =
    omega (arith, in_range (goal.at.entry_of-requires-in-loop-entry-4 c).After-executable_of-e, uniforms_fit c.requires.0 _ c.executable_of-e.ensures (head_passed (goal.at.entry_of-requires-in-loop-entry-4 c).After-executable_of-e) c.loop-entry-4.entry c.loop-entry-4-test.true)

pub overflow_add-place-in-loop-entry-4 : goal.overflow_add-place-in-loop-entry-4
overflow_add-place-in-loop-entry-4 c =
    omega (arith, in_range (goal.at.overflow_add-place-in-loop-entry-4 c).After-executable_of-e, uniforms_fit c.requires.0 _ c.executable_of-e.ensures (head_passed (goal.at.overflow_add-place-in-loop-entry-4 c).After-executable_of-e) c.loop-entry-4.entry c.loop-entry-4-test.true)

pub loop-entry-4-preserved : goal.loop-entry-4-preserved
loop-entry-4-preserved c = (
  passes _ (sym c.is_err-in-loop-entry-4.ensures.value ∙ c.if-is_err-5.false),
  next _ _ _ _ _ _ _ (uniform_placeless _) c.loop-entry-4.invariant.1 c.loop-entry-4-test.true
      (seen_names (λ n s. uniform_fault s n (place_of (at_index (goal.at.loop-entry-4-preserved c).After-executable_of-e) + c.loop-entry-4.entry)) c.names_after-names.ensures c.entry_of-in-loop-entry-4.ensures c.uniform_fault-found.ensures ∙ passes _ (sym c.is_err-in-loop-entry-4.ensures.value ∙ c.if-is_err-5.false)),
)

pub flow_after-requires : goal.flow_after-requires
flow_after-requires c = IfSome_then c.executables.earlier c.executables.invariant.5 (λ k known. known.flow)

pub overflow_add-place-in-Err : goal.overflow_add-place-in-Err
overflow_add-place-in-Err c =
    let r = c.flow_after in
    omega (arith, in_range (goal.at.overflow_add-place-in-Err c).After-executable_of-e, word_inside c.requires.0 _ c.executable_of-e.ensures (head_passed (goal.at.overflow_add-place-in-Err c).After-executable_of-e) r.result r.ensures c.in-Err.is)

pub overflow_sub-i : goal.overflow_sub-i
overflow_sub-i c = omega (arith, in_range (goal.at.overflow_sub-i c).After-executable_of-e)

pub overflow_cast-i : goal.overflow_cast-i
overflow_cast-i c = omega (arith, in_range (goal.at.overflow_cast-i c).After-executable_of-e)

pub offset_bounds-reports-i : goal.offset_bounds-reports-i
offset_bounds-reports-i c = omega (arith, in_range (goal.at.offset_bounds-reports-i c).After-executable_of-e)

pub bounds-reports-i : goal.bounds-reports-i
bounds-reports-i c = omega (arith, in_range (goal.at.bounds-reports-i c).After-executable_of-e)

pub executables-smaller : goal.executables-smaller
executables-smaller c = omega (arith, in_range (goal.at.executables-smaller c).After-executable_of-e)

pub executables-preserved : goal.executables-preserved
executables-preserved c =
    let x = c.executables in
    let r = c.flow_after in
    let l = c.loop-entry-4.invariant in (
      search rules,
      search rules,
      l.0,
      flow_goes_on c.requires.0 _ c.executable_of-e.ensures (head_passed (goal.at.executables-preserved c).After-executable_of-e) r.result r.ensures _ _ (over _ _ _ _ _ l.1.left c.loop-entry-4-test.false) c.in-Ok.is,
      report_added c.requires.0 _ c.executable_of-e.ensures (head_passed (goal.at.executables-preserved c).After-executable_of-e) r.result r.ensures _ (in_range (goal.at.executables-preserved c).After-executable_of-e).0 (omega (arith, in_range (goal.at.executables-preserved c).After-executable_of-e)) x.invariant.4 c.in-Ok.is c.report_with.ensures,
      now_known c.requires.0 c.executable_of-e.result c.names_after-names.ensures (ap answered (sym c.in-Ok.is) ∙ r.ensures)
          (all_good _ _ _ _ _ _ _ c.loop-entry.invariant.1 c.loop-entry-test.false)
          (all_good _ _ _ _ _ _ _ c.loop-entry-2.invariant.1 c.loop-entry-2-test.false)
          (all_good _ _ _ _ _ _ _ c.loop-entry-3.invariant.1 c.loop-entry-3-test.false)
          (all_good _ _ _ _ _ _ _ l.1 c.loop-entry-4-test.false),
    )

pub returns-in_err-found : goal.returns-in_err-found
returns-in_err-found c =
    let same : c.from_residual.result ≡ Err c.in_err-found.field-0.0 = search rules in
    rw same (told_refused _ (at_left (goal.at.returns-in_err-found c).Left-executables).0 c.in_err-found.was)

pub returns : goal.returns
returns c =
    let s = c.args in
    let x = c.executables in
    let left = at_left (goal.at.returns c).Left-executables in
    let done : x.index - s.first ≡ s.end - s.first = omega (arith, x.invariant.0, x.invariant.1, left.1 (ap faulted c.in_ok-found.was)) in
    told_reports left.0 c.in_ok-found.was (x.invariant.4 ∙ ap (λ n. filled (report_of s.file.now s.library.program) s.first 16 n no_report) done)
