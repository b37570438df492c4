-- Demand 3 of every report: a library without a fault has words that pass 9, 11 and 12, and mains that pass
-- the flow check.
-- Assumes nothing.
use mathlib.Core.Path.{◌≡◌, ap}
use mathlib.Core.List.{List}
use Prim.Native.Nat.{ℕ, ◌+◌, ◌<◌}
use native.Mathlib.Omega.{arith}
use lib.ListN.{length, get_or}
use Rattle.answer.specs.Answers.{given}
use Rattle.answer.specs.Faults.{Nothing}
use Rattle.container.specs.Executable.{executable_of}
use Rattle.container.specs.Program.{count_of, program_of}
use Rattle.container.specs.declared.executables.Executable.{Executable}
use Rattle.container.specs.declared.programs.Program.{Program}
use Rattle.flow.proofs.Answered.{answered_run}
use Rattle.flow.specs.Flow.{flow_of}
use Rattle.flow.specs.declared.entry.Measured.{Measured}
use Rattle.flow.specs.Visits.{total, distinct}
use Rattle.flow.specs.WholeRun.{GoodWord}
use Rattle.verifier.specs.Clean.{code_in, visits_in, CleanWord}
use Rattle.verifier.specs.Executables.{place_of, rules_for, flow_in, report_with, report_of}
use Rattle.verifier.specs.Promise.{Promised}
use Rattle.verifier.specs.Verdict.{whole_fault}
use Rattle.verifier.specs.Words.{word_at, words_of}
use Rattle.verifier.proofs.Clean.{no_flow_fault, tested, parts, clean}
use Rattle.verifier.proofs.Lists.{length_list, list_at}

module _ (file : List ℕ) (none : whole_fault file ≡ Nothing) where
  abbrev p : Program
  p = program_of file

  abbrev ws : List ℕ
  ws = words_of file p.words

  long : length ws ≡ p.words.count
  long = length_list (word_at file p.words) 0 p.words.count

  good : (k : ℕ) → k < length ws → GoodWord (code_in file p p.descriptors.count) k
  good k h =
      let m : k < p.words.count = omega (arith, long) in
      let z : 0 + k ≡ k = omega arith in
      let w : get_or ws k 0 ≡ word_at file p.words k = rw z at (list_at (word_at file p.words) 0 p.words.count k 0 m) in
      let c : CleanWord p.descriptors.count (get_or ws k 0) = rw w ((clean file none).words k m) in
      record { known = c.no9; described = c.no11; register = λ {r} {d} e. c.no12 r d e }

  module _ (i : ℕ) (l : i < count_of file) where
    abbrev e : Executable
    e = executable_of file i

    -- what the flow check measures
    abbrev m : Measured
    m = record { total = total (visits_in file p e); words = distinct (visits_in file p e) }

    measured : flow_in ws e ≡ given m
    unfolding flow_of
    measured = rw (no_flow_fault ws e (place_of i) (tested file p i ((parts file none).executables i l)).flow)

    reported : (report_of file p i).total ≡ m.total
    unfolding report_of
    reported = ap (λ a. (report_with e a).total) measured

    pub promised : Promised file i (report_of file p i)
    promised =
        let c = (clean file none).executables i l in
        let (a, b) = c.no16 in
        record {
          runs = λ v bytes. rw reported (answered_run ws p.descriptors.count good v e.main.0 e.endmain.0 (rules_for e) bytes a (omega (arith, long)) measured);
          bounded = rw reported c.no27;
          counted = reported;
        }
