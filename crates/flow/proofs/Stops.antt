-- A trace is stopped exactly if one of its visits has a fault; so a check without a fault has a trace that is
-- not stopped, and a total within the limit. Assumes nothing.
use mathlib.Core.Path.{◌≡◌, refl, sym, ◌∙◌}
use mathlib.Core.Bool.{Bool, true, false, ◌&&◌, ◌||◌}
use mathlib.Core.List.{List, [], ◌∷◌, ◌++◌}
use Prim.Native.Nat.{ℕ, zero, suc, ◌+◌, ◌*◌, ◌-◌, ◌≤◌, ◌<◌}
use native.Mathlib.Omega.{arith}
use lib.Dec.{ltb}
use borrow.Author.Tests.{ltb-true, ltb-false}
use Rattle.answer.specs.Faults.{fault_if, or_else}
use Rattle.answer.specs.Faults.{Fault}
use Rattle.answer.specs.Faults.{Nothing, At}
use Rattle.instruction.specs.declared.flow_control.Control.{Control}
use Rattle.instruction.specs.declared.flow_control.Control.TheVariants.{Unknown, Plain, Emit, End, Break, If, Loop, Call, Jump}
use Rattle.flow.specs.Own.{next_of, own_words, has}
use Rattle.flow.specs.Rules.{Code, Rules, none_open, in_if, in_loop, in_call, pick}
use Rattle.flow.specs.declared.look.Opens.{Opens}
use Rattle.flow.specs.Visits.{Visit, Trace, nothing, follow, and_then, unless_fault, visiting, Tracer, parts, is_end, fault_at, visit, region, trace_to, size, trace, main_trace, first_fault, flow_fault, total}
use Rattle.flow.proofs.Depth.{Passed, fault_none, if_bounds, loop_bounds, call_bounds, next_in, fewer, nearer, spare_if, spare_loop, spare_call}
use Rattle.flow.proofs.Tests.{not_bad, passed, last_passed}

unfoldable pub is_fault : Fault → Bool
is_fault (At n p) = true
is_fault Nothing = false

module _ (C : Code) (R : Rules) where
  unfoldable pub faulty : List Visit → Bool
  faulty [] = false
  faulty (v ∷ vs) = is_fault (fault_at C R v.opens v.word v.end) || faulty vs

  faulty_append : (vs us : List Visit) → faulty (vs ++ us) ≡ (faulty vs || faulty us)
  unfolding faulty
  faulty_append [] us = refl
  faulty_append (v ∷ vs) us = by (is_fault (fault_at C R v.opens v.word v.end)) (faulty_append vs us)
    where
      by : (a : Bool) → faulty (vs ++ us) ≡ (faulty vs || faulty us) → (a || faulty (vs ++ us)) ≡ (a || faulty vs || faulty us)
      by true e = refl
      by false e = e

  abbrev pub Told : Trace → Type 0
  Told t = t.stopped ≡ faulty t.visits

  and_told : (t more : Trace) → Told t → Told more → Told (and_then t more)
  and_told t more a b = by t.stopped refl
    where
      by : (s : Bool) → t.stopped ≡ s → Told (follow s t.visits more)
      by true e = sym e ∙ a
      by false e = rw (faulty_append t.visits more.visits, ← a, e) b

  abbrev pub Tells : Tracer → ℕ → Type 0
  Tells f n = (x : Opens) (w p E : ℕ) → E ≤ C.words → size C R x p E < n → Told (f x w p E)

  nothing_told : Told nothing
  unfolding faulty
  nothing_told = refl

  module _ (f : Tracer) (n : ℕ) (h : Tells f n) (x : Opens) (w p E : ℕ) (l : p < E) (m : E ≤ C.words) (z : size C R x p E ≤ n) where
    pub parts_told : (i : Control) → Passed C R i x p E → Told (parts R f i x w p)
    unfolding parts
    parts_told Unknown o = nothing_told
    parts_told Plain o = nothing_told
    parts_told Emit o = nothing_told
    parts_told End o = nothing_told
    parts_told (Break c) o = nothing_told
    parts_told (If c dst num) o =
        let b = if_bounds C R c dst num p E o.bounds in
        let s = spare_if C R x o.room in
        and_told (f (in_if x) w (p + 1) dst.0) (f (in_if x) w dst.0 (dst.0 + num))
        (h (in_if x) w (p + 1) dst.0 (omega arith) (omega (arith, fewer C R x (in_if x) p E (p + 1) dst.0 s (omega arith))))
        (h (in_if x) w dst.0 (dst.0 + num) (omega arith) (omega (arith, fewer C R x (in_if x) p E dst.0 (dst.0 + num) s (omega arith))))
    parts_told (Loop r dst) o =
        let b = loop_bounds C R r dst p E o.bounds in
        h (in_loop x) (w * R.turns r) (p + 1) (dst.0 + 1) (omega arith) (omega (arith, fewer C R x (in_loop x) p E (p + 1) (dst.0 + 1) (spare_loop C R x o.room) (omega arith)))
    parts_told (Call c dst num) o =
        let b = call_bounds C R c dst num p E o.bounds in
        h (in_call x) w dst.0 (dst.0 + num) (omega arith) (omega (arith, fewer C R x (in_call x) p E dst.0 (dst.0 + num) (spare_call C R x o.room) (omega arith)))
    parts_told (Jump c dst num) o = nothing_told

    -- a visit whose fault is a, and what follows if there is none
    visiting_told : (v : Visit) (a : Fault) (more : Trace) → fault_at C R v.opens v.word v.end ≡ a → (a ≡ Nothing → Told more) → Told (visiting v (unless_fault a more))
    unfolding faulty is_fault
    visiting_told v (At k q) more e t = rw e
    visiting_told v Nothing more e t = rw e (t refl)

    visit_told : Told (visit C R f x w p E)
    unfolding visit
    visit_told =
        let i = C.control p in
        visiting_told (record { word = p; end = E; opens = x; weight = w }) (fault_at C R x p E) (and_then (parts R f i x w p) (f x w (next_of i p) E)) refl (λ e.
        let o = fault_none C R x p E e in
        let s = next_in C R i p E l o.bounds in
        and_told (parts R f i x w p) (f x w (next_of i p) E) (parts_told i o) (h x w (next_of i p) E m (omega (arith, nearer C R x p (next_of i p) E l s.0))))

  region_told : (f : Tracer) (n : ℕ) → Tells f n → (x : Opens) (w p E : ℕ) (b : Bool) → ltb p E ≡ b → E ≤ C.words → size C R x p E ≤ n → Told (pick b (visit C R f x w p E) nothing)
  region_told f n h x w p E true y m z = visit_told f n h x w p E (ltb-true p E y) m z
  region_told f n h x w p E false y m z = nothing_told

  pub trace_told : (n : ℕ) → Tells (trace_to C R n) n
  unfolding trace_to region
  trace_told zero x w p E m z = absurd (omega arith)
  trace_told (suc n) x w p E m z = region_told (trace_to C R n) n (trace_told n) x w p E (ltb p E) refl m (omega arith)

  -- no fault in order: no visit has one, and the sum stays within the limit
  visit_passed : (v : Visit) (before : ℕ) (rest : Fault) → or_else (fault_if (ltb R.most (before + v.weight)) 27 v.word) (or_else (fault_at C R v.opens v.word v.end) rest) ≡ Nothing
      → (before + v.weight ≤ R.most) × (is_fault (fault_at C R v.opens v.word v.end) ≡ false) × (rest ≡ Nothing)
  unfolding is_fault
  visit_passed v before rest e =
      let (a, e₁) = passed (ltb R.most (before + v.weight)) 27 v.word _ e in
      let (b, e₂) = by (fault_at C R v.opens v.word v.end) e₁ in
      (ltb-false R.most (before + v.weight) a, b, e₂)
    where
      by : (a : Fault) → or_else a rest ≡ Nothing → (is_fault a ≡ false) × (rest ≡ Nothing)
      by (At k q) e = absurd (let z : ◌≡◌ {A = ℕ} 0 1 = cc in omega arith)
      by Nothing e = (refl, e)

  pub first_none : (before : ℕ) (vs : List Visit) → first_fault C R before vs ≡ Nothing → faulty vs ≡ false
  unfolding faulty
  first_none before [] e = refl
  first_none before (v ∷ vs) e =
      let (a, b, c) = visit_passed v before (first_fault C R (before + v.weight) vs) e in
      rw b (first_none (before + v.weight) vs c)

  pub first_total : (before : ℕ) (vs : List Visit) → before ≤ R.most → first_fault C R before vs ≡ Nothing → before + total vs ≤ R.most
  first_total before [] h e = omega arith
  first_total before (v ∷ vs) h e =
      let (a, b, c) = visit_passed v before (first_fault C R (before + v.weight) vs) e in
      omega (arith, first_total (before + v.weight) vs a c)

  -- what a check without a fault says
  pub record Clear (m E : ℕ) : Type 0 where
    pub goes_on : (main_trace C R m E).stopped ≡ false
    pub ends : (is_end (C.control (E - 1)) && has (own_words C m E) (E - 1)) ≡ true
    pub within : total (main_trace C R m E).visits ≤ R.most

  or_none : (a b : Fault) → or_else a b ≡ Nothing → (a ≡ Nothing) × (b ≡ Nothing)
  or_none (At k q) b e = absurd (let z : ◌≡◌ {A = ℕ} 0 1 = cc in omega arith)
  or_none Nothing b e = (refl, e)

  pub clear : (m E : ℕ) → E ≤ C.words → flow_fault C R m E ≡ Nothing → Clear m E
  unfolding flow_fault main_trace trace
  clear m E o e =
      let n = suc (size C R none_open m E) in
      let t = trace_to C R n none_open 1 m E in
      let (a, b) = or_none (first_fault C R 0 t.visits) _ e in
      record {
        goes_on = trace_told n none_open 1 m E o (omega arith) ∙ first_none 0 t.visits a;
        ends = not_bad _ (last_passed _ 28 (E - 1) b);
        within = omega (arith, first_total 0 t.visits (omega arith) a);
      }
