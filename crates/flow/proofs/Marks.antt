-- What is left by visits without a fault: the total is their sum, and the marks count the distinct words.
-- Assumes nothing.
use mathlib.Core.Path.{◌≡◌, refl, sym, ap, ◌∙◌}
use mathlib.Core.Bool.{Bool, true, false, ◌&&◌, ◌||◌}
use mathlib.Core.List.{List, [], ◌∷◌}
use Prim.Native.Nat.{ℕ, zero, suc, ◌+◌, ◌-◌, ◌*◌, ◌≤◌, ◌<◌}
use native.Mathlib.Omega.{arith}
use lib.Dec.{eqb, ltb}
use lib.ListN.{length, take, get_or, set, length-set, replicate, get_or-replicate, length-replicate}
use lib.Seq.{get_or-set_same, get_or-set_other}
use mir.Val.{bool_byte}
use borrow.Author.Tests.{ltb-true, ne_eqb, eqb-true, eqb-false}
use Rattle.std.specs.Prelude.{sum_by}
use Rattle.std.proofs.lemmas.List.{length-take-le, get_or-take}
use Rattle.std.proofs.lemmas.List.Sums.{sum_by_more}
use Rattle.answer.specs.Answers.{Answer, given, refused}
use Rattle.answer.specs.Faults.{fault_if, or_else}
use Rattle.answer.specs.Faults.{Fault}
use Rattle.answer.specs.Faults.{Nothing, At}
use Rattle.instruction.specs.declared.flow_control.Control.{Control}
use Rattle.instruction.specs.declared.flow_control.Control.TheVariants.{Unknown, Plain, Emit, End, Break, If, Loop, Call, Jump}
use Rattle.flow.specs.Flow.{code_of, measured_by, flow_of}
use Rattle.flow.specs.Inside.{scanned, stop_or, replay, count_to}
use Rattle.flow.specs.Rules.{Code, Rules, none_open, in_if, in_loop, in_call, pick}
use Rattle.flow.specs.Own.{next_of, own_words, has}
use Rattle.flow.specs.Visits.{Visit, Trace, nothing, and_then, unless_fault, Tracer, parts, visit, region, trace_to, size, trace, main_trace, bad22, bad23, bad24, bad25, bad26, fault_at, first_fault, flow_fault, is_end, total, visited, distinct}
use Rattle.flow.specs.declared.look.Opens.{Opens}
use Rattle.flow.proofs.Depth.{Passed, fault_none, if_bounds, loop_bounds, call_bounds, next_in, fewer, nearer, spare_if, spare_loop, spare_call}
use Rattle.flow.proofs.Weights.{Each, none, one, each_map, and_each}

-- ---- the flow

abbrev pub flow_by : Fault → ℕ → Answer ℕ
flow_by (At number word) t = refused number word
flow_by Nothing t = given t

module _ (C : Code) (R : Rules) where
  -- a fault is at its word
  place_here : (f : Fault) (b : Bool) (k p : ℕ) {n q : ℕ} → (f ≡ At n q → q ≡ p) → or_else (fault_if b k p) f ≡ At n q → q ≡ p
  place_here f true k p g e = cc
  place_here f false k p g e = g e

  pub last_here : (b : Bool) (k p : ℕ) {n q : ℕ} → fault_if b k p ≡ At n q → q ≡ p
  last_here true k p e = cc
  last_here false k p e = absurd (let z : ◌≡◌ {A = ℕ} 0 1 = cc in omega arith)

  pub fault_place : (x : Opens) (p E : ℕ) {n q : ℕ} → fault_at C R x p E ≡ At n q → q ≡ p
  unfolding fault_at
  fault_place x p E e =
      let i = C.control p in
      place_here _ (bad22 R i) 22 p (place_here _ (bad23 i x) 23 p (place_here _ (bad24 C i p E) 24 p (place_here _ (bad25 R i x) 25 p (last_here (bad26 C i p E) 26 p)))) e

  pub replay_flow : (vs : List Visit) (t : ℕ) (m : List Bool) → (replay C R vs t m).flow ≡ flow_by (first_fault C R t vs) (t + total vs)
  unfolding replay
  replay_flow [] t m = ap given (omega arith)
  replay_flow (v ∷ vs) t m = by (set m v.word true) (replay_flow vs (t + v.weight) (set m v.word true)) (ltb R.most (t + v.weight)) (fault_at C R v.opens v.word v.end) refl
    where
      by : (m' : List Bool) → (replay C R vs (t + v.weight) m').flow ≡ flow_by (first_fault C R (t + v.weight) vs) (t + v.weight + total vs)
          → (over : Bool) (f : Fault) → fault_at C R v.opens v.word v.end ≡ f
          → (pick over (scanned (refused 27 v.word) m) (stop_or f m' (replay C R vs (t + v.weight) m'))).flow
          ≡ flow_by (or_else (fault_if over 27 v.word) (or_else f (first_fault C R (t + v.weight) vs))) (t + (v.weight + total vs))
      by m' h true f e = refl
      by m' h false (At n q) e = refl
      by m' h false Nothing e = h ∙ ap (flow_by (first_fault C R (t + v.weight) vs)) (omega arith)

  -- ---- the marks

  -- without a fault a word is marked that was marked before, or is visited
  pub replay_marks : (vs : List Visit) (t : ℕ) (m : List Bool) (i : ℕ) → i < length m → first_fault C R t vs ≡ Nothing
      → get_or (replay C R vs t m).marks i false ≡ (visited vs i || get_or m i false)
  unfolding replay
  replay_marks [] t m i l e = refl
  replay_marks (v ∷ vs) t m i l e =
      by (set m v.word true) (λ q. replay_marks vs (t + v.weight) (set m v.word true) i (rw (length-set m v.word true) l) q ∙ here (eqb v.word i) (visited vs i) refl)
      (ltb R.most (t + v.weight)) (fault_at C R v.opens v.word v.end) e
    where
      here : (b c : Bool) → eqb v.word i ≡ b → (c || get_or (set m v.word true) i false) ≡ ((b || c) || get_or m i false)
      here true true h = refl
      here true false h = rw (eqb-true v.word i h) (get_or-set_same m i true false l)
      here false true h = refl
      here false false h = get_or-set_other m v.word i true false (λ s. eqb-false v.word i h (sym s))

      by : (m' : List Bool) {b : Bool} → (first_fault C R (t + v.weight) vs ≡ Nothing → get_or (replay C R vs (t + v.weight) m').marks i false ≡ b)
          → (over : Bool) (f : Fault) → or_else (fault_if over 27 v.word) (or_else f (first_fault C R (t + v.weight) vs)) ≡ Nothing
          → get_or (pick over (scanned (refused 27 v.word) m) (stop_or f m' (replay C R vs (t + v.weight) m'))).marks i false ≡ b
      by m' h true f q = absurd (let z : ◌≡◌ {A = ℕ} 0 1 = cc in omega arith)
      by m' h false (At n p) q = absurd (let z : ◌≡◌ {A = ℕ} 0 1 = cc in omega arith)
      by m' h false Nothing q = h q

-- ---- counting

count_cong : (n : ℕ) (f g : ℕ → Bool) → ((i : ℕ) → i < n → f i ≡ g i) → count_to n f ≡ count_to n g
unfolding count_to
count_cong zero f g h = refl
count_cong (suc n) f g h = rw (count_cong n f g (λ i l. h i (omega arith)), h n (omega arith))

-- by the bytes that bools are
bool_byte_is : (b : Bool) → bool_byte b ≡ pick b 1 0
bool_byte_is true = refl
bool_byte_is false = refl

pub count_sum : (m : List Bool) (n : ℕ) → n ≤ length m → sum_by bool_byte (take n m) ≡ count_to n (λ i. get_or m i false)
unfolding count_to
count_sum m zero h = refl
count_sum m (suc n) h =
    let e : n + 1 ≡ suc n = omega arith in
    rw e at (sum_by_more bool_byte m n false (omega arith)) ∙ rw (count_sum m n (omega arith), bool_byte_is)

-- of the first n marks
pub count_first : (m : List Bool) (n : ℕ) → n ≤ length m → count_to (length (take n m)) (λ i. get_or (take n m) i false) ≡ count_to n (λ i. get_or m i false)
count_first m n h =
    rw (length-take-le n m h) (count_cong n (λ i. get_or (take n m) i false) (λ i. get_or m i false) (λ i l. get_or-take n m i false l))

-- one more
count_one : (n w : ℕ) (f : ℕ → Bool) → w < n → count_to n (λ i. eqb w i || f i) ≡ pick (f w) 0 1 + count_to n f
unfolding count_to
count_one zero w f l = absurd (omega arith)
count_one (suc n) w f l = by (λ h. count_one n w f h) (eqb w n) refl
  where
    at : (b : Bool) → count_to n f + pick (true || b) 1 0 ≡ pick b 0 1 + (count_to n f + pick b 1 0)
    at true = omega arith
    at false = omega arith

    by : (w < n → count_to n (λ i. eqb w i || f i) ≡ pick (f w) 0 1 + count_to n f) → (b : Bool) → eqb w n ≡ b → count_to n (λ i. eqb w i || f i) + pick (eqb w n || f n) 1 0 ≡ pick (f w) 0 1 + (count_to n f + pick (f n) 1 0)
    by g true e =
        let same = eqb-true w n e in
        rw (e, count_cong n (λ i. eqb w i || f i) f (λ i h. rw (ne_eqb w i (omega arith))), same) (at (f n))
    by g false e = rw (e, g (omega (arith, eqb-false w n e))) (omega arith)

pub count_distinct : (n : ℕ) {vs : List Visit} → Each (λ v. v.word < n) vs → count_to n (visited vs) ≡ distinct vs
unfolding count_to
count_distinct n none = nothing n
  where
    nothing : (n : ℕ) → count_to n (λ i. false) ≡ 0
    nothing zero = refl
    nothing (suc n) = rw (nothing n)
count_distinct n (one {v = v} {vs = vs} l a) = count_one n v.word (visited vs) l ∙ ap (λ k. pick (visited vs v.word) 0 1 + k) (count_distinct n a)

-- ---- every word visited is in the program

module _ (C : Code) (R : Rules) where
  abbrev InCode : List Visit → Type 0
  InCode = Each (λ v. v.word < C.words)

  abbrev Inside : Tracer → ℕ → Type 0
  Inside f n = (x : Opens) (w p E : ℕ) → E ≤ C.words → size C R x p E < n → InCode (f x w p E).visits

  module _ (f : Tracer) (n : ℕ) (h : Inside f n) (x : Opens) (w p E : ℕ) (l : p < E) (m : E ≤ C.words) (z : size C R x p E ≤ n) where
    parts_in : (i : Control) → Passed C R i x p E → InCode (parts R f i x w p).visits
    unfolding parts
    parts_in Unknown o = none
    parts_in Plain o = none
    parts_in Emit o = none
    parts_in End o = none
    parts_in (Break c) o = none
    parts_in (If c dst num) o =
        let b = if_bounds C R c dst num p E o.bounds in
        let s = spare_if C R x o.room in
        and_each (f (in_if x) w (p + 1) dst.0) (f (in_if x) w dst.0 (dst.0 + num))
        (h (in_if x) w (p + 1) dst.0 (omega arith) (omega (arith, fewer C R x (in_if x) p E (p + 1) dst.0 s (omega arith))))
        (h (in_if x) w dst.0 (dst.0 + num) (omega arith) (omega (arith, fewer C R x (in_if x) p E dst.0 (dst.0 + num) s (omega arith))))
    parts_in (Loop r dst) o =
        let b = loop_bounds C R r dst p E o.bounds in
        h (in_loop x) (w * R.turns r) (p + 1) (dst.0 + 1) (omega arith) (omega (arith, fewer C R x (in_loop x) p E (p + 1) (dst.0 + 1) (spare_loop C R x o.room) (omega arith)))
    parts_in (Call c dst num) o =
        let b = call_bounds C R c dst num p E o.bounds in
        h (in_call x) w dst.0 (dst.0 + num) (omega arith) (omega (arith, fewer C R x (in_call x) p E dst.0 (dst.0 + num) (spare_call C R x o.room) (omega arith)))
    parts_in (Jump c dst num) o = none

    unless_in : (a : Fault) (more : Trace) → (a ≡ Nothing → InCode more.visits) → InCode (unless_fault a more).visits
    unless_in (At k q) more t = none
    unless_in Nothing more t = t refl

    visit_in : InCode (visit C R f x w p E).visits
    unfolding visit
    visit_in =
        let i = C.control p in
        one {v = record { word = p; end = E; opens = x; weight = w }} (omega arith)
        (unless_in (fault_at C R x p E) (and_then (parts R f i x w p) (f x w (next_of i p) E)) (λ e.
        let o = fault_none C R x p E e in
        let s = next_in C R i p E l o.bounds in
        and_each (parts R f i x w p) (f x w (next_of i p) E) (parts_in i o) (h x w (next_of i p) E m (omega (arith, nearer C R x p (next_of i p) E l s.0)))))

  region_in : (f : Tracer) (n : ℕ) → Inside f n → (x : Opens) (w p E : ℕ) (b : Bool) → ltb p E ≡ b → E ≤ C.words → size C R x p E ≤ n → InCode (pick b (visit C R f x w p E) nothing).visits
  region_in f n h x w p E true y m z = visit_in f n h x w p E (ltb-true p E y) m z
  region_in f n h x w p E false y m z = none

  trace_in : (n : ℕ) → Inside (trace_to C R n) n
  unfolding trace_to region
  trace_in zero x w p E m z = none
  trace_in (suc n) x w p E m z = region_in (trace_to C R n) n (trace_in n) x w p E (ltb p E) refl m (omega arith)

  pub main_in : (main E : ℕ) → E ≤ C.words → InCode (main_trace C R main E).visits
  unfolding main_trace trace
  main_in main E m = trace_in (suc (size C R none_open main E)) none_open 1 main E m (omega arith)

-- ---- the check's answer, by what scanning main leaves

stop_is : {n q : ℕ} (f g : Fault) (vs : List Visit) → refused n q ≡ flow_by f (total vs) → refused n q ≡ measured_by (or_else f g) vs
stop_is (At k p) g vs h = cc
stop_is Nothing g vs h = absurd (let z : ◌≡◌ {A = ℕ} 0 1 = cc in omega arith)

go_is : {t k : ℕ} (f : Fault) → given t ≡ flow_by f k → (f ≡ Nothing) × (t ≡ k)
go_is (At n p) h = absurd (let z : ◌≡◌ {A = ℕ} 0 1 = cc in omega arith)
go_is Nothing h = (refl, cc)

module _ (ws : List ℕ) (R : Rules) (main E : ℕ) where
  abbrev C : Code
  C = code_of ws 0

  abbrev vs : List Visit
  vs = (main_trace C R main E).visits

  abbrev ended : Bool
  ended = is_end (C.control (E - 1)) && has (own_words C main E) (E - 1)

  abbrev unmarked : List Bool
  unmarked = replicate 512 false

  module _ {s : Answer ℕ} {m' : List Bool} (d : scanned s m' ≡ replay C R vs 0 unmarked) where
    flow_is : s ≡ flow_by (first_fault C R 0 vs) (total vs)
    flow_is = let e : s ≡ (replay C R vs 0 unmarked).flow = ap (λ r. r.flow) d in e ∙ replay_flow C R vs 0 unmarked ∙ ap (flow_by (first_fault C R 0 vs)) (omega arith)

    pub flow_stop : {n q : ℕ} → s ≡ refused n q → refused n q ≡ flow_of R ws main E
    unfolding flow_of flow_fault
    flow_stop e = stop_is (first_fault C R 0 vs) _ vs (sym e ∙ flow_is)

    no_fault : {t : ℕ} → s ≡ given t → (first_fault C R 0 vs ≡ Nothing) × (t ≡ total vs)
    no_fault e = go_is (first_fault C R 0 vs) (sym e ∙ flow_is)

    pub flow_28 : {t : ℕ} → s ≡ given t → ended ≡ false → refused 28 (E - 1) ≡ flow_of R ws main E
    unfolding flow_of flow_fault
    flow_28 e h = rw ((no_fault e).0, h)

    module _ (h : E ≤ length ws) (short : length ws ≤ 512) where
      counted : first_fault C R 0 vs ≡ Nothing → count_to (length ws) (λ i. get_or m' i false) ≡ distinct vs
      counted e =
          count_cong (length ws) (λ i. get_or m' i false) (visited vs) (λ i l. at i (omega arith))
          ∙ count_distinct (length ws) (each_map (λ v b. omega (arith, b)) (main_in C R main E h))
        where
          or_false : (b : Bool) → (b || false) ≡ b
          or_false true = refl
          or_false false = refl

          at : (i : ℕ) → i < 512 → get_or m' i false ≡ visited vs i
          at i l =
              let e' : m' ≡ (replay C R vs 0 unmarked).marks = ap (λ r. r.marks) d in
              ap (λ k. get_or k i false) e'
              ∙ replay_marks C R vs 0 unmarked i (rw (length-replicate 512 false) l) e
              ∙ rw (get_or-replicate 512 i false false l) (or_false (visited vs i))

      pub flow_passed : {t count : ℕ} → s ≡ given t → ended ≡ true → count ≡ count_to (length ws) (λ i. get_or m' i false)
          → given (record { total = t; words = count }) ≡ flow_of R ws main E
      unfolding flow_of flow_fault
      flow_passed e k n = rw ((no_fault e).0, k, (no_fault e).1, n, counted (no_fault e).0)
