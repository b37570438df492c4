-- `Kept::descend`, `Kept::enter`, the same of an IF, and `Kept::scan_part`: what each turn of the scan
-- leaves, and how deep the calls go. Assumes nothing.
use Rattle.std.proofs.Common.{ℕ, ◌-◌, ◌+◌, ◌*◌, max}
use Rattle.flow.specs.Flow.{code_of}
use Rattle.flow.specs.Inside.{rules_of, after_part}
use Rattle.flow.specs.Visits.{size}
use Rattle.flow.specs.declared.look.Part.{Part}
use Rattle.flow.specs.declared.limits.Scan.{Scan}
use Rattle.flow.proofs.Standing.{Standing}
use Rattle.flow.proofs.scan.Kept.+regions.Given as goal

abbrev pub size_of : Scan → Part → ℕ
size_of s r = size (code_of s.words.now 0) (rules_of s.allowed) r.opens r.from.0 r.to.0

abbrev pub decreases-descend : goal.decreases-descend
decreases-descend l = 3 * size_of l.scan l.part + 1

-- of the larger of the two parts
abbrev pub decreases-descend_both : goal.decreases-descend_both
decreases-descend_both l = 3 * max (size_of l.scan l.yes) (size_of l.scan (after_part l.yes l.next)) + 1

abbrev pub decreases-enter : goal.decreases-enter
decreases-enter l = 3 * size_of l.scan l.part + 2

abbrev pub decreases-enter_both : goal.decreases-enter_both
decreases-enter_both l = 3 * max (size_of l.scan l.yes) (size_of l.scan (after_part l.yes l.next)) + 2

abbrev pub decreases-scan_part : goal.decreases-scan_part
decreases-scan_part l = 3 * size_of l.scan l.part

abbrev pub invariant-scan_part-loop-p : goal.invariant-scan_part-loop-p
invariant-scan_part-loop-p l = Standing (code_of l.scan.words.now 0) l.scan.allowed l.part l.total l.initial.self.marks l.self.marks l.self.costs l.self.depths l.p l.t l.depths

abbrev pub decreases-scan_part-loop-p : goal.decreases-scan_part-loop-p
decreases-scan_part-loop-p l = l.end - l.p
