-- Where a refusal of the flow check is: at a word of the program. Where 7, 15 and 16 do not apply, the
-- entry's answer is the check's. Assumes nothing.
use mathlib.Core.Path.{◌≡◌, refl}
use mathlib.Core.Bool.{Bool, true, false, not, ◌&&◌}
use mathlib.Core.List.{List}
use Prim.Native.Nat.{ℕ, ◌+◌, ◌-◌, ◌≤◌, ◌<◌}
use native.Mathlib.Omega.{arith}
use lib.Dec.{eqb, ltb}
use lib.ListN.{length}
use borrow.Author.Tests.{lt-ltb, le-ltb, le-leb, ne_eqb}
use Rattle.answer.specs.Answers.{refused}
use Rattle.answer.specs.Faults.{fault_if, or_else}
use Rattle.answer.specs.Faults.{Fault}
use Rattle.answer.specs.Faults.{Nothing, At}
use Rattle.flow.specs.Flow.{code_of, measured_by, flow_of, flow_answer}
use Rattle.flow.specs.Own.{own_words, has}
use Rattle.flow.specs.Rules.{Code, Rules, full_rules}
use Rattle.flow.specs.Visits.{Visit, is_end, fault_at, main_trace, first_fault, flow_fault}
use Rattle.flow.proofs.Marks.{fault_place, main_in}
use Rattle.flow.proofs.Weights.{Each, none, one}

no_fault : {A : Type 0} {k q : ℕ} → Nothing ≡ At k q → A
no_fault e = absurd (let z : ◌≡◌ {A = ℕ} 0 1 = cc in omega arith)

module _ (C : Code) (R : Rules) (n : ℕ) where
  first_place : (before : ℕ) {vs : List Visit} {k q : ℕ} → Each (λ v. v.word < n) vs → first_fault C R before vs ≡ At k q → q < n
  first_place before none e = no_fault e
  first_place before {k = k} {q = q} (one {v = v} {vs = vs} l a) e =
      by (ltb R.most (before + v.weight)) (fault_at C R v.opens v.word v.end) refl (λ r. first_place (before + v.weight) a r) e
    where
      by : (b : Bool) (f : Fault) → fault_at C R v.opens v.word v.end ≡ f → (first_fault C R (before + v.weight) vs ≡ At k q → q < n)
          → or_else (fault_if b 27 v.word) (or_else f (first_fault C R (before + v.weight) vs)) ≡ At k q → q < n
      by true f g h r = let w : q ≡ v.word = cc in omega (arith, l)
      by false (At i p) g h r =
          let w : fault_at C R v.opens v.word v.end ≡ At k q = cc in
          omega (arith, l, fault_place C R v.opens v.word v.end w)
      by false Nothing g h r = h r

-- a refusal's word is in the program
module _ (R : Rules) (ws : List ℕ) (m E : ℕ) where
  abbrev C : Code
  C = code_of ws 0

  abbrev vs : List Visit
  vs = (main_trace C R m E).visits

  by_fault : (f : Fault) (b : Bool) {k q : ℕ} → m < E → E ≤ length ws → first_fault C R 0 vs ≡ f → measured_by (or_else f (fault_if b 28 (E - 1))) vs ≡ refused k q → q < length ws
  by_fault (At i p) b {k} {q} h o g r =
      let w : first_fault C R 0 vs ≡ At k q = cc in
      first_place C R (length ws) 0 (main_in C R m E o) w
  by_fault Nothing true {k} {q} h o g r = let w : q ≡ E - 1 = cc in omega arith
  by_fault Nothing false h o g r = absurd (let z : ◌≡◌ {A = ℕ} 0 1 = cc in omega arith)

  pub refused_inside : {k q : ℕ} → m < E → E ≤ length ws → flow_of R ws m E ≡ refused k q → q < length ws
  unfolding flow_of flow_fault
  refused_inside h o e = by_fault (first_fault C R 0 vs) (not (is_end (C.control (E - 1)) && has (own_words C m E) (E - 1))) h o refl e

pub entered : (ws : List ℕ) (type m E : ℕ) → 1 ≤ length ws → length ws ≤ 512 → type ≤ 1 → m < E → E ≤ length ws
    → flow_answer ws type m E ≡ flow_of (full_rules (eqb type 1)) ws m E
unfolding flow_answer
entered ws type m E some few t h o =
    rw (ne_eqb (length ws) 0 (omega arith), le-ltb 512 (length ws) few, le-ltb 1 type t, lt-ltb m E h, le-leb E (length ws) o)
