-- The derivation that a region is free of faults and what it costs, and that a trace without a fault gives
-- one. Assumes nothing.
use mathlib.Core.Path.{◌≡◌, refl, ◌∙◌}
use mathlib.Core.Bool.{Bool, true, false, ◌&&◌}
use mathlib.Core.List.{List, [], ◌∷◌, ◌++◌}
use Prim.Native.Nat.{ℕ, zero, suc, ◌+◌, ◌*◌, ◌-◌, ◌≤◌, ◌<◌}
use native.Mathlib.Omega.{arith}
use lib.Dec.{ltb, eqb}
use borrow.Author.Tests.{leb-false, ltb-true, ltb-false, eqb-true}
use Rattle.answer.specs.Faults.{Fault}
use Rattle.answer.specs.Faults.{Nothing, At}
use Rattle.binary.specs.declared.WordAddress.{WordAddress}
use Rattle.instruction.specs.declared.flow_control.Condition.{Condition}
use Rattle.instruction.specs.declared.flow_control.Control.{Control}
use Rattle.instruction.specs.declared.flow_control.Control.TheVariants.{Unknown, Plain, Emit, End, Break, If, Loop, Call, Jump}
use Rattle.flow.specs.Own.{next_of, spans, own_from, own_words, has}
use Rattle.flow.specs.Rules.{Code, Rules, none_open, in_if, in_loop, in_call, pick}
use Rattle.flow.specs.declared.look.Opens.{Opens}
use Rattle.flow.specs.Visits.{Visit, Trace, nothing, follow, and_then, unless_fault, Tracer, parts, is_end, fault_at, visit, region, trace_to, size, trace, main_trace, weighted}
use Rattle.flow.specs.WholeRun.{GoodWord}
use Rattle.flow.proofs.Depth.{Passed, fault_none, if_bounds, loop_bounds, call_bounds, next_in}
use Rattle.flow.proofs.Tests.{true_not_false, false_not_true, not_bad, both, either}

module _ (C : Code) where
  -- d is an own word from p on, in a region that ends at E
  pub data Own : ℕ → ℕ → ℕ → Type 0 where
    here : {p E d : ℕ} → p < E → p ≡ d → Own p E d
    later : {p E d : ℕ} → p < E → Own (next_of (C.control p) p) E d → Own p E d

  pub own_lt : {p E d : ℕ} → Own p E d → p < E
  own_lt (here h e) = h
  own_lt (later h o) = h

  own_sound : (n p E d : ℕ) → has (own_from C n p E) d ≡ true → Own p E d
  unfolding own_from
  own_sound zero p E d e = absurd (false_not_true e)
  own_sound (suc n) p E d e = by (ltb p E) refl e (λ e'. own_sound n (next_of (C.control p) p) E d e')
    where
      by : (b : Bool) → ltb p E ≡ b → has (pick b (p ∷ pick (spans (C.control p) p E) (own_from C n (next_of (C.control p) p) E) []) []) d ≡ true
          → (has (own_from C n (next_of (C.control p) p) E) d ≡ true → Own (next_of (C.control p) p) E d) → Own p E d
      by false y e ih = absurd (false_not_true e)
      by true y e ih =
          let l : p < E = ltb-true p E y in
          either (eqb p d) _ e (λ z. here l (eqb-true p d z)) (λ z. on (spans (C.control p) p E) z)
        where
          on : (s : Bool) → has (pick s (own_from C n (next_of (C.control p) p) E) []) d ≡ true → Own p E d
          on true z = later (ltb-true p E y) (ih z)
          on false z = absurd (false_not_true z)

  pub is_own : (p E d : ℕ) → has (own_words C p E) d ≡ true → Own p E d
  unfolding own_words
  is_own p E d e = own_sound (E - p) p E d e

-- g is the cost of a word
module _ (C : Code) (R : Rules) (g : ℕ → ℕ) where
  mutual
    -- from its own word p on, the region that ends at E is free of faults and costs at most k. `c` is whether
    -- it may close: main does not, its last own word is END
    pub data Region : Bool → Opens → ℕ → ℕ → ℕ → Type 0 where
      shut : {c : Bool} {x : Opens} {p E k : ℕ} → c ≡ true → p ≡ E → Region c x p E k
      stop : {c : Bool} {x : Opens} {p E k : ℕ} → p < C.words → p + 1 ≡ E → C.control p ≡ End → g p ≤ k → Region c x p E k
      word : {c : Bool} {x : Opens} {p E k a b : ℕ} → p < E → p < C.words → Parts x p E (C.control p) a → Region c x (next_of (C.control p) p) E b → g p + (a + b) ≤ k → Region c x p E k

    -- the parts of a word cost at most a
    pub data Parts : Opens → ℕ → ℕ → Control → ℕ → Type 0 where
      plain_p : {x : Opens} {p E a : ℕ} → Parts x p E Plain a
      emit_p : {x : Opens} {p E a : ℕ} → Parts x p E Emit a
      end_p : {x : Opens} {p E a : ℕ} → Parts x p E End a
      break_p : {x : Opens} {p E a : ℕ} {c : Condition} → x.looped ≡ true → Parts x p E (Break c) a
      if_p : {x : Opens} {p E num a k₁ k₂ : ℕ} {c : Condition} {d : WordAddress} → x.depths.ifs < R.ifs
          → Region true (in_if x) (p + 1) d.0 k₁ → Region true (in_if x) d.0 (d.0 + num) k₂ → k₁ + k₂ ≤ a → Parts x p E (If c d num) a
      loop_p : {x : Opens} {p E r a k : ℕ} {d : WordAddress} → p < d.0 → x.depths.loops < R.loops
          → Region true (in_loop x) (p + 1) (d.0 + 1) k → R.turns r * k ≤ a → Parts x p E (Loop r d) a
      call_p : {x : Opens} {p E num a k : ℕ} {c : Condition} {d : WordAddress} → x.depths.calls < R.calls
          → Region true (in_call x) d.0 (d.0 + num) k → k ≤ a → Parts x p E (Call c d num) a
      jump_p : {x : Opens} {p E num a : ℕ} {c : Condition} {d : WordAddress} → Own C (p + 1) E d.0 → Parts x p E (Jump c d num) a

  pub weaken : {c : Bool} {x : Opens} {p E k k' : ℕ} → Region c x p E k → k ≤ k' → Region c x p E k'
  weaken (shut f e) h = shut f e
  weaken {k'} (stop i e z l) h = stop {k = k'} i e z (omega arith)
  weaken {k'} (word l i q r b) h = word {k = k'} l i q r (omega arith)

  -- a jump's target is a word of the region, at no greater cost
  pub at_own : {c : Bool} {x : Opens} {p E d k : ℕ} → Own C p E d → Region c x p E k → Region c x d E k
  at_own (here h e) r = rw (← e) r
  at_own (later h o) (shut f s) = absurd (omega arith)
  at_own {p} {E} (later h o) (stop i s z l) = absurd (let w : p + 1 < E = own_lt C (rw z at o) in omega arith)
  at_own (later h o) (word l i q r b) = weaken (at_own o r) (omega arith)

  -- a region whose last own word is END never closes
  pub never_closes : {x : Opens} {p E l k : ℕ} → Own C p E l → l + 1 ≡ E → C.control l ≡ End → Region true x p E k → Region false x p E k
  never_closes (here h e) s z (shut f y) = absurd (omega arith)
  never_closes (here h e) s z (stop i y z' l') = stop i y z' l'
  never_closes {p} {E} {k} (here h e) s z (word l' i q r b) = stop {p = p} {E = E} {k = k} i (omega arith) (rw e z) (omega arith)
  never_closes (later h o) s z (shut f y) = absurd (omega arith)
  never_closes (later h o) s z (stop i y z' l') = stop i y z' l'
  never_closes (later h o) s z (word l' i q r b) = word l' i q (never_closes o s z r) b

  -- ---- a trace without a fault gives a derivation, whose cost is what its visits weigh
  pub record Cost (x : Opens) (w p E : ℕ) (t : Trace) : Type 0 where
    pub k : ℕ
    pub derived : Region true x p E k
    pub adds : weighted g t.visits ≡ w * k

  record PartsCost (i : Control) (x : Opens) (w p E : ℕ) (t : Trace) : Type 0 where
    a : ℕ
    derived : Parts x p E i a
    adds : weighted g t.visits ≡ w * a

  weighted_append : (vs us : List Visit) → weighted g (vs ++ us) ≡ weighted g vs + weighted g us
  weighted_append [] us = omega arith
  weighted_append (v ∷ vs) us = omega (arith, weighted_append vs us)

  -- both of two traces that follow each other
  record Both (t more : Trace) : Type 0 where
    first : t.stopped ≡ false
    second : more.stopped ≡ false
    adds : weighted g (and_then t more).visits ≡ weighted g t.visits + weighted g more.visits

  followed : (t more : Trace) → (and_then t more).stopped ≡ false → Both t more
  followed t more e = by t.stopped refl e
    where
      by : (b : Bool) → t.stopped ≡ b → (follow b t.visits more).stopped ≡ false → Both t more
      by true y e = absurd (true_not_false e)
      by false y e = record { first = y; second = e; adds = rw y (weighted_append t.visits more.visits) }

  abbrev Sound : Tracer → Type 0
  Sound rec = (x : Opens) (w p E : ℕ) → p ≤ E → E ≤ C.words → (rec x w p E).stopped ≡ false → Cost x w p E (rec x w p E)

  module _ (rec : Tracer) (h : Sound rec) (x : Opens) (w p E : ℕ) (l : p < E) (m : E ≤ C.words) (good : GoodWord C p) where
    parts_sound : (i : Control) → C.control p ≡ i → Passed C R i x p E → (parts R rec i x w p).stopped ≡ false → PartsCost i x w p E (parts R rec i x w p)
    unfolding parts
    parts_sound Unknown z o e = absurd (good.known z)
    parts_sound Plain z o e = record { a = 0; derived = plain_p; adds = omega arith }
    parts_sound Emit z o e = record { a = 0; derived = emit_p; adds = omega arith }
    parts_sound End z o e = record { a = 0; derived = end_p; adds = omega arith }
    parts_sound (Break c) z o e = record { a = 0; derived = break_p (not_bad x.looped o.breaks); adds = omega arith }
    parts_sound (If c d num) z o e =
        let b = if_bounds C R c d num p E o.bounds in
        let f = followed (rec (in_if x) w (p + 1) d.0) (rec (in_if x) w d.0 (d.0 + num)) e in
        let c₁ = h (in_if x) w (p + 1) d.0 (omega arith) (omega arith) f.first in
        let c₂ = h (in_if x) w d.0 (d.0 + num) (omega arith) (omega arith) f.second in
        record { a = c₁.k + c₂.k; derived = if_p {a = c₁.k + c₂.k} {k₁ = c₁.k} {k₂ = c₂.k} (leb-false R.ifs x.depths.ifs o.room) c₁.derived c₂.derived (omega arith); adds = omega (arith, f.adds, c₁.adds, c₂.adds) }
    parts_sound (Loop r d) z o e =
        let b = loop_bounds C R r d p E o.bounds in
        let c₁ = h (in_loop x) (w * R.turns r) (p + 1) (d.0 + 1) (omega arith) (omega arith) e in
        record { a = R.turns r * c₁.k; derived = loop_p {r = r} {a = R.turns r * c₁.k} {k = c₁.k} b.0 (leb-false R.loops x.depths.loops o.room) c₁.derived (omega arith); adds = omega (arith, c₁.adds) }
    parts_sound (Call c d num) z o e =
        let b = call_bounds C R c d num p E o.bounds in
        let c₁ = h (in_call x) w d.0 (d.0 + num) (omega arith) b.1 e in
        record { a = c₁.k; derived = call_p {a = c₁.k} {k = c₁.k} (leb-false R.calls x.depths.calls o.room) c₁.derived (omega arith); adds = c₁.adds }
    parts_sound (Jump c d num) z o e =
        let own = (both (ltb d.0 E) _ (both (ltb p d.0) _ (not_bad _ o.jumps)).1).1 in
        record { a = 0; derived = jump_p (is_own C (p + 1) E d.0 own); adds = omega arith }

    unless_none : (a : Fault) (more : Trace) → (unless_fault a more).stopped ≡ false → (a ≡ Nothing) × (more.stopped ≡ false)
    unless_none (At n q) more e = absurd (true_not_false e)
    unless_none Nothing more e = (refl, e)

    visit_adds : fault_at C R x p E ≡ Nothing
        → weighted g (visit C R rec x w p E).visits ≡ w * g p + weighted g (and_then (parts R rec (C.control p) x w p) (rec x w (next_of (C.control p) p) E)).visits
    unfolding visit
    visit_adds none = rw none

    visit_sound : (visit C R rec x w p E).stopped ≡ false → Cost x w p E (visit C R rec x w p E)
    unfolding visit
    visit_sound e =
        let i = C.control p in
        let t = parts R rec i x w p in
        let rest = rec x w (next_of i p) E in
        let (none, e₁) = unless_none (fault_at C R x p E) (and_then t rest) e in
        let o = fault_none C R x p E none in
        let f = followed t rest e₁ in
        let q = parts_sound i refl o f.first in
        let r = h x w (next_of i p) E (next_in C R i p E l o.bounds).1 m f.second in
        record {
          k = g p + (q.a + r.k);
          derived = word {k = g p + (q.a + r.k)} {a = q.a} {b = r.k} l (omega arith) q.derived r.derived (omega arith);
          adds = visit_adds none ∙ omega (arith, f.adds, q.adds, r.adds);
        }

  module _ (good : (p : ℕ) → p < C.words → GoodWord C p) where
    region_sound : (rec : Tracer) → Sound rec → (x : Opens) (w p E : ℕ) (b : Bool) → ltb p E ≡ b → p ≤ E → E ≤ C.words
        → (pick b (visit C R rec x w p E) nothing).stopped ≡ false → Cost x w p E (pick b (visit C R rec x w p E) nothing)
    region_sound rec h x w p E true y l m e = let n : p < E = ltb-true p E y in visit_sound rec h x w p E n m (good p (omega arith)) e
    region_sound rec h x w p E false y l m e = let n : E ≤ p = ltb-false p E y in record { k = 0; derived = shut {p = p} {E = E} refl (omega arith); adds = omega arith }

    trace_sound : (n : ℕ) → Sound (trace_to C R n)
    unfolding trace_to region
    trace_sound zero x w p E l m e = absurd (true_not_false e)
    trace_sound (suc n) x w p E l m e = region_sound (trace_to C R n) (trace_sound n) x w p E (ltb p E) refl l m e

    end_of : (i : Control) → is_end i ≡ true → i ≡ End
    end_of Unknown e = absurd (false_not_true e)
    end_of Plain e = absurd (false_not_true e)
    end_of Emit e = absurd (false_not_true e)
    end_of End e = refl
    end_of (Break c) e = absurd (false_not_true e)
    end_of (If c d n) e = absurd (false_not_true e)
    end_of (Loop r d) e = absurd (false_not_true e)
    end_of (Call c d n) e = absurd (false_not_true e)
    end_of (Jump c d n) e = absurd (false_not_true e)

    -- main, if its trace meets no fault and 28 does not apply: it never closes, and costs what its visits
    -- weigh
    pub main_sound : (m E : ℕ) → m < E → E ≤ C.words → (main_trace C R m E).stopped ≡ false
        → (is_end (C.control (E - 1)) && has (own_words C m E) (E - 1)) ≡ true → Region false none_open m E (weighted g (main_trace C R m E).visits)
    unfolding main_trace trace
    main_sound m E h o e last =
        let (b₁, b₂) = both (is_end (C.control (E - 1))) (has (own_words C m E) (E - 1)) last in
        let c = trace_sound (suc (size C R none_open m E)) none_open 1 m E (omega arith) o e in
        weaken (never_closes (is_own C m E (E - 1) b₂) (omega arith) (end_of (C.control (E - 1)) b₁) c.derived) (omega (arith, c.adds))
