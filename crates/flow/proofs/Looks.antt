-- The parts that a visited word asks for: inside the words, weighing what they should, smaller; and it goes
-- on further in its region. Assumes nothing.
use mathlib.Core.Path.{◌≡◌, refl}
use Prim.Native.Nat.{ℕ, zero, suc, ◌+◌, ◌*◌, ◌^◌, ◌≤◌, ◌<◌}
use native.Mathlib.Nat.{pow-suc}
use native.Mathlib.Numerals.{add-one}
use native.Mathlib.Omega.{arith}
use borrow.Author.Tests.{leb-false}
use Rattle.answer.specs.Answers.{Answer, given, refused}
use Rattle.answer.specs.Faults.{Fault}
use Rattle.answer.specs.Faults.{Nothing, At}
use Rattle.instruction.specs.declared.flow_control.Control.{Control}
use Rattle.instruction.specs.declared.flow_control.Control.TheVariants.{Unknown, Plain, Emit, End, Break, If, Loop, Call, Jump}
use Rattle.flow.specs.Inside.{rules_of, unless, part_of, parts_of, look_of, Weighs, Under, after_part}
use Rattle.flow.specs.Rules.{Code, Rules, in_if, in_loop, in_call}
use Rattle.flow.specs.Visits.{fault_at, size}
use Rattle.flow.specs.declared.limits.Allowed.{Allowed}
use Rattle.flow.specs.declared.look.Look.{Look}
use Rattle.flow.specs.declared.look.Look.TheVariants.{Next, One, Two}
use Rattle.flow.specs.declared.look.Opens.{Opens}
use Rattle.flow.specs.declared.look.Part.{Part}
use Rattle.flow.proofs.Depth.{Passed, fault_none, if_bounds, loop_bounds, call_bounds, fewer, spare_if, spare_loop, spare_call}

-- at most 65536
pub light : (l : ℕ) → l ≤ 2 → 256 ^ l ≤ 65536
light zero h = omega arith
light (suc zero) h = omega arith
light (suc (suc zero)) h = omega arith
light (suc (suc (suc l))) h = absurd (omega arith)

pub heavy : (l : ℕ) → 1 ≤ 256 ^ l
heavy zero = omega arith
heavy (suc l) = omega (arith, pow-suc 256 l, heavy l)

-- further on in a region there is less
pub later : (C : Code) (R : Rules) (x : Opens) (p q E : ℕ) → p ≤ q → size C R x q E ≤ size C R x p E
unfolding size
later C R x p q E h = omega arith

module _ (C : Code) (R : Rules) (x : Opens) (w p E : ℕ) where
  pub record Fits (r : Part) : Type 0 where
    pub within : r.to.0 ≤ C.words
    pub under : Under R r.opens.depths
    pub smaller : size C R r.opens r.from.0 r.to.0 < size C R x p E

  abbrev Onward : ℕ → Type 0
  Onward q = (p < q) × (q ≤ E)

  abbrev pub AllFit : Answer Look → Type 0
  AllFit (refused n q) = Unit {0}
  AllFit (given Next) = Unit {0}
  AllFit (given (One r next)) = Fits r × Onward next.0
  AllFit (given (Two r next)) = Fits r × Fits (after_part r next) × Onward next.0

  module _ (l : p < E) (h : E ≤ C.words) (y : Under R x.depths) where
    parts_fit : (i : Control) → Passed C R i x p E → AllFit (given (parts_of R i x w p))
    parts_fit Unknown o = tt
    parts_fit Plain o = tt
    parts_fit Emit o = tt
    parts_fit End o = tt
    parts_fit (Break c) o = tt
    parts_fit (If c dst num) o =
        let b = if_bounds C R c dst num p E o.bounds in
        let s = spare_if C R x o.room in
        let deeper : Under R (in_if x).depths = (y.0, omega (arith, leb-false R.ifs x.depths.ifs o.room), y.2) in (
          record { within = omega arith; under = deeper; smaller = fewer C R x (in_if x) p E (p + 1) dst.0 s (omega arith) },
          record { within = omega arith; under = deeper; smaller = fewer C R x (in_if x) p E dst.0 (dst.0 + num) s (omega arith) },
          omega arith,
        )
    parts_fit (Loop r dst) o =
        let b = loop_bounds C R r dst p E o.bounds in
        let deeper : Under R (in_loop x).depths = (y.0, y.1, omega (arith, leb-false R.loops x.depths.loops o.room)) in
        (record { within = omega arith; under = deeper; smaller = fewer C R x (in_loop x) p E (p + 1) (dst.0 + 1) (spare_loop C R x o.room) (omega arith) }, omega arith)
    parts_fit (Call c dst num) o =
        let b = call_bounds C R c dst num p E o.bounds in
        let deeper : Under R (in_call x).depths = (omega (arith, leb-false R.calls x.depths.calls o.room), y.1, y.2) in
        (record { within = omega arith; under = deeper; smaller = fewer C R x (in_call x) p E dst.0 (dst.0 + num) (spare_call C R x o.room) (omega arith) }, omega arith)
    parts_fit (Jump c dst num) o = tt

    look_fits : AllFit (look_of C R x w p E)
    unfolding look_of
    look_fits = by (fault_at C R x p E) refl
      where
        by : (f : Fault) → fault_at C R x p E ≡ f → AllFit (unless f (parts_of R (C.control p) x w p))
        by (At n q) e = tt
        by Nothing e = parts_fit (C.control p) (fault_none C R x p E e)

    pub fits_at : {k : Answer Look} → k ≡ look_of C R x w p E → AllFit k
    fits_at e = rw e look_fits

-- .. and weighing what they should, where every LOOP is counted as 256 turns
module _ (C : Code) (a : Allowed) (x : Opens) (w p E : ℕ) (g : Weighs (part_of x w p E)) where
  abbrev pub AllWeigh : Answer Look → Type 0
  AllWeigh (refused n q) = Unit {0}
  AllWeigh (given Next) = Unit {0}
  AllWeigh (given (One r next)) = Weighs r
  AllWeigh (given (Two r next)) = Weighs r

  parts_weigh : (i : Control) → Passed C (rules_of a) i x p E → AllWeigh (given (parts_of (rules_of a) i x w p))
  parts_weigh Unknown o = tt
  parts_weigh Plain o = tt
  parts_weigh Emit o = tt
  parts_weigh End o = tt
  parts_weigh (Break c) o = tt
  parts_weigh (If c dst num) o = g
  parts_weigh (Loop r dst) o =
      let heavier : w * 256 ≡ 256 ^ (x.depths.loops + 1) = rw (add-one x.depths.loops, pow-suc 256 x.depths.loops, g) in
      heavier
  parts_weigh (Call c dst num) o = g
  parts_weigh (Jump c dst num) o = tt

  look_weighs : AllWeigh (look_of C (rules_of a) x w p E)
  unfolding look_of
  look_weighs = by (fault_at C (rules_of a) x p E) refl
    where
      by : (f : Fault) → fault_at C (rules_of a) x p E ≡ f → AllWeigh (unless f (parts_of (rules_of a) (C.control p) x w p))
      by (At n q) e = tt
      by Nothing e = parts_weigh (C.control p) (fault_none C (rules_of a) x p E e)

  pub weighs_at : {k : Answer Look} → k ≡ look_of C (rules_of a) x w p E → AllWeigh k
  weighs_at e = rw e look_weighs
