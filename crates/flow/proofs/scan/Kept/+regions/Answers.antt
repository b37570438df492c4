-- `Kept::descend`, `Kept::enter`, the same of an IF, and `Kept::scan_part` meet their contracts: a region is
-- scanned own word by own word, or remembered. Assumes nothing.
use mathlib.Core.Path.{◌≡◌, refl, sym, ap, ◌∙◌}
use Prim.Native.Nat.{ℕ, ◌-◌, ◌<◌, max}
use native.Mathlib.Nat.{max-le}
use native.Mathlib.Omega.{arith}
use borrow.Author.Rules.{rules}
use Rattle.std.proofs.lemmas.Grind.{common_steps}
use Rattle.flow.specs.declared.scan.Cost.{Cost}
use Rattle.flow.specs.Flow.{code_of}
use Rattle.flow.specs.Inside.{rules_of}
use Rattle.flow.proofs.Looks.{light, heavy, later, fits_at, weighs_at}
use Rattle.flow.proofs.NoTests.{none, untested_both}
use Rattle.flow.proofs.Remembering.{asks_one, asks_both}
use Rattle.flow.proofs.Standing.{standing_end, standing_27, standing_known, standing_next, standing_refuse, one_stopped, one_passed, two_stopped, two_passed, ready_part, few_beyond, recalled_scans, remembered_scans, recalled_both_scans, left_both, both_passed, both_remembered}
use Rattle.flow.proofs.Tests.{not_true}
use Rattle.flow.proofs.scan.Kept.+regions.Goals as goal

max_lt : {a b k : ℕ} → a < k → b < k → max a b < k
max_lt {a} {b} {k} h g = omega (arith, max-le {a = a} {b = b} {k = k - 1} (omega (arith, h)) (omega (arith, g)))

pub descend-cost-requires : goal.descend-cost-requires
descend-cost-requires t c =
    let l = c.scan_part.ensures.left _ (c.in_ok-found.was) in
    record { weighs = omega (arith, c.requires.0.weighs, heavy c.args.part.opens.depths.loops); more = omega (arith, l.adds); over = l.over }

pub descend-remember-requires : goal.descend-remember-requires
descend-remember-requires t c =
    let l = c.scan_part.ensures.left _ (c.in_ok-found.was) in
    let s = few_beyond c.args.scan.allowed _ c.args.part.opens.depths (ap (λ (k : Cost). k.depths) c.cost.ensures) l.under in
    (s.0, s.1, s.2)

pub descend-returns : goal.descend-returns
descend-returns t c =
    let f = rw c.in_ok-found.was at c.scan_part.ensures in
    rw c.remember.ensures (remembered_scans c.requires.0 c.args.total c.args.at.word c.requires.1 f c.args.at.small (omega (arith, c.requires.0.weighs, heavy c.args.part.opens.depths.loops)) refl (ap (λ (k : Cost). k.visits) c.cost.ensures) (ap (λ (k : Cost). k.depths) c.cost.ensures) refl refl)

pub descend_both-returns-in-Some : goal.descend_both-returns-in-Some
descend_both-returns-in-Some t c =
    let C = code_of c.args.scan.words.now 0 in
    untested_both C c.args.scan.allowed c.args.scan.few c.args.yes c.args.next c.args.total c.args.at.word c.args.self.now.marks c.requires.0 c.requires.2 c.requires.1 (omega arith) (sym c.no_tests.ensures ∙ c.if-no_tests.true) (sym c.passed_over.ensures ∙ c.in-Some.is) c.mark_all.ensures

pub descend_both-cost-requires : goal.descend_both-cost-requires
descend_both-cost-requires t c =
    let f = rw c.in_ok-first.was at c.scan_part.ensures in
    let f' = rw (c.after_part.ensures, c.in_ok-second.was) at c.scan_part-2.ensures in
    let l = left_both c.requires.0 c.args.total c.args.at.word c.requires.2 f refl f' refl c.max.ensures in
    record { weighs = omega (arith, c.requires.0.weighs, heavy c.args.yes.opens.depths.loops); more = omega (arith, l.adds); over = l.over }

pub descend_both-remember-requires : goal.descend_both-remember-requires
descend_both-remember-requires t c =
    let f = rw c.in_ok-first.was at c.scan_part.ensures in
    let f' = rw (c.after_part.ensures, c.in_ok-second.was) at c.scan_part-2.ensures in
    let s = few_beyond c.args.scan.allowed _ c.args.yes.opens.depths (ap (λ (k : Cost). k.depths) c.cost.ensures) (left_both c.requires.0 c.args.total c.args.at.word c.requires.2 f refl f' refl c.max.ensures).under in
    (s.0, s.1, s.2)

pub descend_both-returns-then-not-yes : goal.descend_both-returns-then-not-yes
descend_both-returns-then-not-yes t c =
    let f = rw c.in_ok-first.was at c.scan_part.ensures in
    let f' = rw (c.after_part.ensures, c.in_ok-second.was) at c.scan_part-2.ensures in
    rw c.remember.ensures (both_remembered c.requires.0 c.args.total c.args.at.word c.requires.2 f refl f' refl c.max.ensures refl refl (not_true _ c.if-not-yes.true) c.args.at.small (omega (arith, c.requires.0.weighs, heavy c.args.yes.opens.depths.loops)) (ap (λ (k : Cost). k.visits) c.cost.ensures) (ap (λ (k : Cost). k.depths) c.cost.ensures) refl refl)

pub descend_both-returns-else-not-yes : goal.descend_both-returns-else-not-yes
descend_both-returns-else-not-yes t c =
    let f = rw c.in_ok-first.was at c.scan_part.ensures in
    let f' = rw (c.after_part.ensures, c.in_ok-second.was) at c.scan_part-2.ensures in
    both_passed c.requires.0 c.args.total c.args.at.word c.requires.2 f refl f' refl c.max.ensures refl refl

pub enter-returns-in-Some : goal.enter-returns-in-Some
enter-returns-in-Some t c =
    recalled_scans c.requires.0 c.args.total c.args.at.word c.requires.1 (sym c.passed_again.ensures ∙ c.in-Some.is)

pub enter_both-returns-in-Some : goal.enter_both-returns-in-Some
enter_both-returns-in-Some t c =
    recalled_both_scans c.requires.0 c.args.total c.args.at.word c.requires.2 (not_true _ c.if-not-yes.true) (sym c.passed_again.ensures ∙ c.in-Some.is)

pub scan_part-returns-then-scan-sum : goal.scan_part-returns-then-scan-sum
scan_part-returns-then-scan-sum t c =
    standing_27 c.loop-p.invariant c.requires.within c.args.scan.few c.loop-p-test.true c.if-scan-sum.true c.at.ensures

pub scan_part-loop-p-preserved-then-goes_on : goal.scan_part-loop-p-preserved-then-goes_on
scan_part-loop-p-preserved-then-goes_on t c =
    let q = c.loop-p in
    standing_known q.invariant c.requires.within c.args.scan.few c.loop-p-test.true c.if-scan-sum.false (omega arith) (sym c.goes_on.ensures ∙ c.if-goes_on.true)

pub scan_part-look_at-requires : goal.scan_part-look_at-requires
scan_part-look_at-requires t c =
    (c.requires.within, c.loop-p-test.true, omega (arith, c.requires.weighs, light c.args.part.opens.depths.loops (omega (arith, c.requires.under, c.args.scan.allowed.small))))

pub scan_part-returns-in_err-look_at : goal.scan_part-returns-in_err-look_at
scan_part-returns-in_err-look_at t c =
    let e = rw c.in_err-look_at.was at c.look_at.ensures in
    let y = standing_refuse c.loop-p.invariant c.requires.within c.args.scan.few c.loop-p-test.true c.if-scan-sum.false e in
    search (rules, y)

pub scan_part-loop-p-preserved-in-Next : goal.scan_part-loop-p-preserved-in-Next
scan_part-loop-p-preserved-in-Next t c =
    let e = rw (c.in_ok-look_at.was, c.in-Next.is) at c.look_at.ensures in
    rw c.remember.ensures (standing_next c.loop-p.invariant c.requires.within c.args.scan.few c.loop-p-test.true c.if-scan-sum.false (omega arith) (record { visits = 1; depths = none }) (omega arith, omega arith, omega arith) e)

pub scan_part-enter-requires : goal.scan_part-enter-requires
scan_part-enter-requires t c =
    let q = c.loop-p in
    let C = code_of c.args.scan.words.now 0 in
    let e = rw (c.in_ok-look_at.was, c.in-One.is) at c.look_at.ensures in
    let f = fits_at C (rules_of c.args.scan.allowed) c.args.part.opens c.args.part.weight q.p c.args.part.to.0 c.loop-p-test.true c.requires.within c.requires.under e in
    (omega (arith, f.0.smaller, later C (rules_of c.args.scan.allowed) c.args.part.opens c.args.part.from.0 q.p c.args.part.to.0 q.invariant.from), (ready_part q.invariant c.requires.within c.args.scan.few c.loop-p-test.true c.if-scan-sum.false _ f.0.within (weighs_at C c.args.scan.allowed c.args.part.opens c.args.part.weight q.p c.args.part.to.0 c.requires.weighs e) f.0.under, asks_one C (rules_of c.args.scan.allowed) c.args.part.opens c.args.part.weight q.p c.args.part.to.0 e))

pub scan_part-returns-in_err-found-in-One : goal.scan_part-returns-in_err-found-in-One
scan_part-returns-in_err-found-in-One t c =
    let e = rw (c.in_ok-look_at.was, c.in-One.is) at c.look_at.ensures in
    let y = one_stopped c.loop-p.invariant c.requires.within c.args.scan.few c.loop-p-test.true c.if-scan-sum.false e c.enter.ensures (c.in_err-found-in-One.was) in
    let z : c.from_residual-in_err-found-in-One.result ≡ c.enter.result = search rules in
    rw z y

pub scan_part-loop-p-smaller-in-One : goal.scan_part-loop-p-smaller-in-One
scan_part-loop-p-smaller-in-One t c =
    let C = code_of c.args.scan.words.now 0 in
    let e = rw (c.in_ok-look_at.was, c.in-One.is) at c.look_at.ensures in
    let f = fits_at C (rules_of c.args.scan.allowed) c.args.part.opens c.args.part.weight c.loop-p.p c.args.part.to.0 c.loop-p-test.true c.requires.within c.requires.under e in
    omega (arith, f.1)

pub scan_part-loop-p-preserved-in-One : goal.scan_part-loop-p-preserved-in-One
scan_part-loop-p-preserved-in-One t c =
    let q = c.loop-p in
    let C = code_of c.args.scan.words.now 0 in
    let e = rw (c.in_ok-look_at.was, c.in-One.is) at c.look_at.ensures in
    let f = fits_at C (rules_of c.args.scan.allowed) c.args.part.opens c.args.part.weight q.p c.args.part.to.0 c.loop-p-test.true c.requires.within c.requires.under e in
    one_passed q.invariant c.requires.within c.args.scan.few c.loop-p-test.true c.if-scan-sum.false e c.enter.ensures (omega (arith, f.1)) (omega arith) (c.in_ok-found-in-One.was) c.max-depths.ensures

pub scan_part-enter_both-requires : goal.scan_part-enter_both-requires
scan_part-enter_both-requires t c =
    let q = c.loop-p in
    let C = code_of c.args.scan.words.now 0 in
    let e = rw (c.in_ok-look_at.was, c.in-Two.is) at c.look_at.ensures in
    let f = fits_at C (rules_of c.args.scan.allowed) c.args.part.opens c.args.part.weight q.p c.args.part.to.0 c.loop-p-test.true c.requires.within c.requires.under e in
    (omega (arith, max_lt f.0.smaller f.1.smaller, later C (rules_of c.args.scan.allowed) c.args.part.opens c.args.part.from.0 q.p c.args.part.to.0 q.invariant.from), (ready_part q.invariant c.requires.within c.args.scan.few c.loop-p-test.true c.if-scan-sum.false _ f.0.within (weighs_at C c.args.scan.allowed c.args.part.opens c.args.part.weight q.p c.args.part.to.0 c.requires.weighs e) f.0.under, f.1.within, asks_both C (rules_of c.args.scan.allowed) c.args.part.opens c.args.part.weight q.p c.args.part.to.0 e))

pub scan_part-returns-in_err-found-in-Two : goal.scan_part-returns-in_err-found-in-Two
scan_part-returns-in_err-found-in-Two t c =
    let e = rw (c.in_ok-look_at.was, c.in-Two.is) at c.look_at.ensures in
    let y = two_stopped c.loop-p.invariant c.requires.within c.args.scan.few c.loop-p-test.true c.if-scan-sum.false e c.enter_both.ensures (c.in_err-found-in-Two.was) in
    let z : c.from_residual-in_err-found-in-Two.result ≡ c.enter_both.result = grind (arith, common_steps) in
    rw z y

pub scan_part-loop-p-smaller : goal.scan_part-loop-p-smaller
scan_part-loop-p-smaller t c =
    let C = code_of c.args.scan.words.now 0 in
    let e = rw (c.in_ok-look_at.was, c.in-Two.is) at c.look_at.ensures in
    let f = fits_at C (rules_of c.args.scan.allowed) c.args.part.opens c.args.part.weight c.loop-p.p c.args.part.to.0 c.loop-p-test.true c.requires.within c.requires.under e in
    omega (arith, f.2)

pub scan_part-loop-p-preserved : goal.scan_part-loop-p-preserved
scan_part-loop-p-preserved t c =
    let q = c.loop-p in
    let C = code_of c.args.scan.words.now 0 in
    let e = rw (c.in_ok-look_at.was, c.in-Two.is) at c.look_at.ensures in
    let f = fits_at C (rules_of c.args.scan.allowed) c.args.part.opens c.args.part.weight q.p c.args.part.to.0 c.loop-p-test.true c.requires.within c.requires.under e in
    two_passed q.invariant c.requires.within c.args.scan.few c.loop-p-test.true c.if-scan-sum.false e c.enter_both.ensures (omega (arith, f.2)) (omega arith) (c.in_ok-found-in-Two.was) c.max-depths-in-Two.ensures

pub scan_part-returns : goal.scan_part-returns
scan_part-returns t c =
    standing_end c.loop-p.invariant c.requires.within c.args.scan.few c.loop-p-test.false refl refl
