-- Demand 3 by the check's answer: what a total answered for some words says of every run of them, whatever
-- their descriptors. Assumes nothing.
use mathlib.Core.Path.{◌≡◌, refl, sym, ap, ◌∙◌}
use mathlib.Core.Bool.{◌||◌}
use mathlib.Core.List.{List, [], ◌∷◌}
use Prim.Native.Nat.{ℕ, zero, suc, ◌+◌, ◌-◌, ◌≤◌, ◌<◌}
use native.Mathlib.Omega.{arith}
use lib.Dec.{eqb, leb, ltb}
use lib.ListN.{length}
use borrow.Author.Tests.{ltb-true, leb-true}
use Rattle.answer.specs.Answers.{Answer, given}
use Rattle.answer.specs.Faults.{Fault}
use Rattle.answer.specs.Faults.{Nothing, At}
use Rattle.instruction.specs.declared.flow_control.Control.{Control}
use Rattle.instruction.specs.declared.flow_control.Control.TheVariants.{Unknown, Plain, Emit, End, Break, If, Loop, Call, Jump}
use Rattle.std.specs.Prelude.{Option}
use Rattle.flow.specs.Flow.{code_of, measured_by, flow_of, entry_fault, unless_refused, flow_answer}
use Rattle.flow.specs.Own.{next_of, own_from, own_words}
use Rattle.flow.specs.Rules.{Code, Rules, none_open, full_rules}
use Rattle.flow.specs.Stepping.{Settings, start}
use Rattle.flow.specs.Visits.{Visit, Tracer, bad24, bad26, fault_at, visit, region, trace_to, spare, size, trace, main_trace, first_fault, flow_fault, total}
use Rattle.flow.specs.WholeRun.{GoodWord, Whole}
use Rattle.flow.specs.declared.entry.Measured.{Measured}
use Rattle.flow.specs.declared.look.Opens.{Opens}
use Rattle.flow.proofs.Tests.{not_bad, both, passed, last_passed}
use Rattle.flow.proofs.WholeRun.{whole_run}

-- the check does not look at descriptors
module _ (C : Code) (d : ℕ) (u : ℕ → Option ℕ) (R : Rules) where
  abbrev D : Code
  D = record { words = C.words; descriptors = d; control = C.control; uses = u }

  own_same : (n p E : ℕ) → own_from C n p E ≡ own_from D n p E
  unfolding own_from
  own_same zero p E = refl
  own_same (suc n) p E = rw (own_same n (next_of (C.control p) p) E)

  owns_same : (p E : ℕ) → own_words C p E ≡ own_words D p E
  unfolding own_words
  owns_same p E = own_same (E - p) p E

  tests_same : (i : Control) (p E : ℕ) → (bad24 C i p E ≡ bad24 D i p E) × (bad26 C i p E ≡ bad26 D i p E)
  tests_same Unknown p E = (refl, refl)
  tests_same Plain p E = (refl, refl)
  tests_same Emit p E = (refl, refl)
  tests_same End p E = (refl, refl)
  tests_same (Break c) p E = (refl, refl)
  tests_same (If c dst num) p E = (refl, refl)
  tests_same (Loop r dst) p E = (refl, refl)
  tests_same (Call c dst num) p E = (refl, refl)
  tests_same (Jump c dst num) p E = (refl, rw (owns_same (p + 1) E))

  fault_same : (x : Opens) (p E : ℕ) → fault_at C R x p E ≡ fault_at D R x p E
  unfolding fault_at
  fault_same x p E = let (a, b) = tests_same (C.control p) p E in rw (a, b)

  region_same : (f : Tracer) (x : Opens) (w p E : ℕ) → region C R f x w p E ≡ region D R f x w p E
  unfolding region visit
  region_same f x w p E = rw (fault_same x p E)

  trace_same : (n : ℕ) (x : Opens) (w p E : ℕ) → trace_to C R n x w p E ≡ trace_to D R n x w p E
  unfolding trace_to
  trace_same zero x w p E = refl
  trace_same (suc n) x w p E =
      region_same (trace_to C R n) x w p E ∙ ap (λ (f : Tracer). region D R f x w p E) (λ i y v q e. trace_same n y v q e i)

  main_same : (m E : ℕ) → main_trace C R m E ≡ main_trace D R m E
  unfolding main_trace trace size spare
  main_same m E = trace_same (suc (size C R none_open m E)) none_open 1 m E

  first_same : (before : ℕ) (vs : List Visit) → first_fault C R before vs ≡ first_fault D R before vs
  first_same before [] = refl
  first_same before (v ∷ vs) = rw (fault_same v.opens v.word v.end, first_same (before + v.weight) vs)

  flow_same : (m E : ℕ) → flow_fault C R m E ≡ flow_fault D R m E
  unfolding flow_fault
  flow_same m E = rw (owns_same m E, main_same m E, first_same 0 (main_trace D R m E).visits)

measured_is : (f : Fault) (vs : List Visit) {a : Measured} → measured_by f vs ≡ given a → (f ≡ Nothing) × (total vs ≡ a.total)
measured_is (At n p) vs e = absurd (let z : ◌≡◌ {A = ℕ} 0 1 = cc in omega arith)
measured_is Nothing vs e = (refl, cc)

module _ (ws : List ℕ) (descriptors : ℕ) (good : (p : ℕ) → p < length ws → GoodWord (code_of ws descriptors) p) (v : Settings) (m E : ℕ) where
  abbrev C : Code
  C = code_of ws descriptors

  -- over any rules
  pub answered_run : (R : Rules) (fair : (r : ℕ) → r ≤ 3 → v.ints r < R.turns r) {a : Measured} → m < E → E ≤ length ws → flow_of R ws m E ≡ given a
      → Whole C v R.calls R.ifs R.loops a.total (start m E)
  unfolding flow_of
  answered_run R fair h o e =
      let (f, t) = measured_is (flow_fault (code_of ws 0) R m E) (main_trace (code_of ws 0) R m E).visits e in
      let none : flow_fault C R m E ≡ Nothing = sym (flow_same (code_of ws 0) descriptors C.uses R m E) ∙ f in
      let same : total (main_trace C R m E).visits ≡ total (main_trace (code_of ws 0) R m E).visits = ap (λ t. total t.visits) (sym (main_same (code_of ws 0) descriptors C.uses R m E)) in
      rw (same ∙ t) at (whole_run C R good v fair m E h o none)

  -- by the public entry's answer: at most 4 calls, 8 IFs and 2 LOOPs open, for all bytes x
  pub passed_run : (bytes : (r : ℕ) → r ≤ 3 → v.ints r < 256) (type : ℕ) {a : Measured} → flow_answer ws type m E ≡ given a → Whole C v 4 8 2 a.total (start m E)
  unfolding flow_answer
  passed_run bytes type e =
      let (f, q) = entered (entry_fault ws type m E) e in
      let (s, f₁) = passed (eqb (length ws) 0 || ltb 512 (length ws)) 7 0 _ f in
      let (t, f₂) = passed (ltb 1 type) 15 0 _ f₁ in
      let (b, c) = both (ltb m E) (leb E (length ws)) (not_bad _ (last_passed _ 16 0 f₂)) in
      answered_run (full_rules (eqb type 1)) bytes (ltb-true m E b) (leb-true E (length ws) c) q
    where
      entered : (f : Fault) {r : Answer Measured} {a : Measured} → unless_refused f r ≡ given a → (f ≡ Nothing) × (r ≡ given a)
      entered (At n p) e = absurd (let z : ◌≡◌ {A = ℕ} 0 1 = cc in omega arith)
      entered Nothing e = (refl, e)
