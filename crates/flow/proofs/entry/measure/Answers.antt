-- `entry::measure` meets its contract: nothing is remembered before. Assumes nothing.
use mathlib.Core.Path.{refl, sym, ◌∙◌}
use mathlib.Core.Bool.{Bool, false}
use lib.ListN.{length-replicate, replicate}
use native.Mathlib.Omega.{arith}
use borrow.Author.Rules.{rules}
use Rattle.flow.specs.Flow.{code_of}
use Rattle.flow.specs.Rules.{full_rules}
use Rattle.flow.specs.Visits.{main_trace}
use Rattle.flow.proofs.Marks.{count_first, flow_stop, flow_28, flow_passed}
use Rattle.flow.proofs.Remembering.{memory_none}
use Rattle.flow.proofs.entry.measure.Goals as goal

pub scan_part-requires : goal.scan_part-requires
scan_part-requires c =
    record {
      within = c.requires.1;
      weighs = search rules;
      under = (omega arith, omega arith, omega arith);
      long = length-replicate {A = Bool} 512 false;
      memory = memory_none (code_of c.args.words.now 0) (full_rules c.args.emits) (replicate 512 false);
    }

pub returns-in_err-outcome : goal.returns-in_err-outcome
unfolding main_trace
returns-in_err-outcome c =
    let f = rw c.in_err-outcome.was at c.scan_part.ensures in
    let y = flow_stop c.args.words.now (full_rules c.args.emits) c.args.main c.args.endmain f.flow refl in
    search (rules, y)

pub returns-then-not-ends_well : goal.returns-then-not-ends_well
unfolding main_trace
returns-then-not-ends_well c =
    let f = rw c.in_ok-outcome.was at c.scan_part.ensures in
    rw c.at.ensures (flow_28 c.args.words.now (full_rules c.args.emits) c.args.main c.args.endmain f.flow refl (sym c.ends_well.ensures ∙ c.if-not-ends_well.true))

pub returns : goal.returns
unfolding main_trace
returns c =
    let f = rw c.in_ok-outcome.was at c.scan_part.ensures in
    flow_passed c.args.words.now (full_rules c.args.emits) c.args.main c.args.endmain f.flow c.requires.1 c.requires.2 refl (sym c.ends_well.ensures ∙ c.if-not-ends_well.false) (c.count_marks.ensures ∙ count_first _ _ (omega (arith, f.long)))
