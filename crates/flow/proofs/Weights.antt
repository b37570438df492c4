-- 'Each visit adds 256 to the power of the open LOOPs to the total', where every LOOP counts the same number
-- of turns. Assumes nothing.
use mathlib.Core.Path.{◌≡◌, ap, ◌∙◌}
use mathlib.Core.Bool.{Bool, true, false}
use mathlib.Core.List.{List, [], ◌∷◌, ◌++◌}
use Prim.Native.Nat.{ℕ, zero, suc, ◌+◌, ◌*◌, ◌^◌}
use native.Mathlib.Nat.{pow-zero, pow-suc, mul_assoc, mul_comm}
use native.Mathlib.Omega.{arith}
use lib.Dec.{ltb}
use Rattle.answer.specs.Faults.{Fault}
use Rattle.answer.specs.Faults.{Nothing, At}
use Rattle.instruction.specs.declared.flow_control.Control.{Control}
use Rattle.instruction.specs.declared.flow_control.Control.TheVariants.{Unknown, Plain, Emit, End, Break, If, Loop, Call, Jump}
use Rattle.flow.specs.Own.{next_of}
use Rattle.flow.specs.Rules.{Code, Rules, none_open, in_if, in_loop, in_call, pick}
use Rattle.flow.specs.declared.look.Opens.{Opens}
use Rattle.flow.specs.Visits.{Visit, Trace, nothing, follow, and_then, unless_fault, Tracer, parts, fault_at, visit, region, trace_to, trace, main_trace}

pub data Each (P : Visit → Type 0) : List Visit → Type 0 where
  none : Each P []
  one : {v : Visit} {vs : List Visit} → P v → Each P vs → Each P (v ∷ vs)

each_append : {P : Visit → Type 0} {vs us : List Visit} → Each P vs → Each P us → Each P (vs ++ us)
each_append none b = b
each_append (one p a) b = one p (each_append a b)

pub each_map : {P Q : Visit → Type 0} {vs : List Visit} → ((v : Visit) → P v → Q v) → Each P vs → Each Q vs
each_map f none = none
each_map f (one {v = v} p a) = one (f v p) (each_map f a)

pub and_each : {P : Visit → Type 0} (t more : Trace) → Each P t.visits → Each P more.visits → Each P (and_then t more).visits
and_each {P} t more a c = by t.stopped
  where
    by : (s : Bool) → Each P (follow s t.visits more).visits
    by true = a
    by false = each_append a c

module _ (C : Code) (R : Rules) (b : ℕ) (same : (r : ℕ) → R.turns r ≡ b) where
  -- so many LOOPs deeper, and so much heavier
  record Weighs (x : Opens) (w : ℕ) (v : Visit) : Type 0 where
    d : ℕ
    deeper : v.opens.depths.loops ≡ x.depths.loops + d
    weighs : v.weight ≡ w * b ^ d

  abbrev Weighed : Tracer → Type 0
  Weighed f = (x : Opens) (w p E : ℕ) → Each (Weighs x w) (f x w p E).visits

  from_if : (x : Opens) (w : ℕ) (v : Visit) → Weighs (in_if x) w v → Weighs x w v
  from_if x w v q = record { d = q.d; deeper = q.deeper; weighs = q.weighs }

  from_call : (x : Opens) (w : ℕ) (v : Visit) → Weighs (in_call x) w v → Weighs x w v
  from_call x w v q = record { d = q.d; deeper = q.deeper; weighs = q.weighs }

  from_loop : (x : Opens) (w r : ℕ) (v : Visit) → Weighs (in_loop x) (w * R.turns r) v → Weighs x w v
  from_loop x w r v q =
      let e : w * b * b ^ q.d ≡ w * b ^ suc q.d = rw (pow-suc b q.d, mul_comm (b ^ q.d) b) (mul_assoc w b (b ^ q.d)) in
      record { d = suc q.d; deeper = omega (arith, q.deeper); weighs = q.weighs ∙ rw (same r) e }

  module _ (f : Tracer) (h : Weighed f) (x : Opens) (w p E : ℕ) where
    parts_weighed : (i : Control) → Each (Weighs x w) (parts R f i x w p).visits
    unfolding parts
    parts_weighed Unknown = none
    parts_weighed Plain = none
    parts_weighed Emit = none
    parts_weighed End = none
    parts_weighed (Break c) = none
    parts_weighed (If c dst num) =
        and_each (f (in_if x) w (p + 1) dst.0) (f (in_if x) w dst.0 (dst.0 + num)) (each_map (from_if x w) (h (in_if x) w (p + 1) dst.0)) (each_map (from_if x w) (h (in_if x) w dst.0 (dst.0 + num)))
    parts_weighed (Loop r dst) = each_map (from_loop x w r) (h (in_loop x) (w * R.turns r) (p + 1) (dst.0 + 1))
    parts_weighed (Call c dst num) = each_map (from_call x w) (h (in_call x) w dst.0 (dst.0 + num))
    parts_weighed (Jump c dst num) = none

    unless_weighed : (a : Fault) (more : Trace) → Each (Weighs x w) more.visits → Each (Weighs x w) (unless_fault a more).visits
    unless_weighed (At n q) more t = none
    unless_weighed Nothing more t = t

    visit_weighed : Each (Weighs x w) (visit C R f x w p E).visits
    unfolding visit
    visit_weighed =
        one {v = record { word = p; end = E; opens = x; weight = w }} (record { d = 0; deeper = omega arith; weighs = rw (pow-zero b) (omega arith) })
        (unless_weighed (fault_at C R x p E) (and_then (parts R f (C.control p) x w p) (f x w (next_of (C.control p) p) E))
        (and_each (parts R f (C.control p) x w p) (f x w (next_of (C.control p) p) E) (parts_weighed (C.control p)) (h x w (next_of (C.control p) p) E)))

    region_weighed : (c : Bool) → Each (Weighs x w) (pick c (visit C R f x w p E) nothing).visits
    region_weighed true = visit_weighed
    region_weighed false = none

  trace_weighed : (n : ℕ) → Weighed (trace_to C R n)
  unfolding trace_to region
  trace_weighed zero x w p E = none
  trace_weighed (suc n) x w p E = region_weighed (trace_to C R n) (trace_weighed n) x w p E (ltb p E)

  -- the law
  pub main_weights : (m E : ℕ) → Each (λ v. v.weight ≡ b ^ v.opens.depths.loops) (main_trace C R m E).visits
  unfolding main_trace trace
  main_weights m E = each_map (λ v q. let e : q.d ≡ v.opens.depths.loops = omega (arith, q.deeper) in omega (arith, q.weighs, ap (λ (k : ℕ). b ^ k) e)) (trace_weighed _ none_open 1 m E)
