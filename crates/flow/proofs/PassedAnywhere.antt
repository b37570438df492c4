-- Over any rules: a region that the check passes with some opens, weight, total and marks is passed with any
-- others that fit and agree in whether a LOOP is open in the same main or called region,
-- with total + weight × cost, and adds the same words to the marks. The code stands on the steps of it
-- (Passing). Assumes nothing.
use mathlib.Core.Path.{◌≡◌, refl, sym, ap, ap₂, ◌∙◌}
use mathlib.Core.Bool.{Bool, true, false, ◌||◌}
use mathlib.Core.List.{List, [], ◌∷◌, ◌++◌}
use Prim.Native.Nat.{ℕ, zero, suc, ◌+◌, ◌*◌, ◌≤◌, ◌<◌}
use native.Mathlib.Omega.{arith}
use lib.Dec.{eqb, ltb}
use lib.ListN.{length, get_or}
use borrow.Author.Tests.{ltb-true}
use Rattle.answer.specs.Answers.{given}
use Rattle.answer.specs.Faults.{Fault}
use Rattle.answer.specs.Faults.{Nothing, At}
use Rattle.instruction.specs.declared.flow_control.Control.{Control}
use Rattle.instruction.specs.declared.flow_control.Control.TheVariants.{Unknown, Plain, Emit, End, Break, If, Loop, Call, Jump}
use Rattle.flow.specs.Inside.{part_of, Scanned, scanned, scan_of, beyond, Over, Under, Room}
use Rattle.flow.specs.Own.{next_of, has}
use Rattle.flow.specs.Rules.{Code, Rules, in_if, in_loop, in_call, pick}
use Rattle.flow.specs.Visits.{Visit, Trace, nothing, follow, and_then, unless_fault, parts, fault_at, visit, region, size, trace, visited}
use Rattle.flow.specs.declared.look.Opens.{Opens}
use Rattle.flow.specs.declared.look.Part.{Part}
use Rattle.flow.specs.declared.depths.Depths.{Depths}
use Rattle.flow.proofs.Depth.{Passed, fault_none, if_bounds, loop_bounds, call_bounds, next_in, fewer, nearer, spare_if, spare_loop, spare_call, trace_eq}
use Rattle.flow.proofs.EachVisit.{trace_of, went_on, unstopped}
use Rattle.flow.proofs.Marks.{replay_flow, replay_marks}
use Rattle.flow.proofs.PassedOnce.{Within, passed_once}
use Rattle.flow.proofs.Passing.{Below, covers_self}
use Rattle.flow.proofs.Tests.{true_not_false}
use Rattle.flow.proofs.Weights.{Each}

-- the words of visits, in their order
abbrev words_of : List Visit → List ℕ
words_of [] = []
words_of (v ∷ vs) = v.word ∷ words_of vs

words_join : (vs us : List Visit) → words_of (vs ++ us) ≡ words_of vs ++ words_of us
words_join [] us = refl
words_join (v ∷ vs) us = ap (λ (ws : List ℕ). v.word ∷ ws) (words_join vs us)

visited_has : (vs : List Visit) (i : ℕ) → visited vs i ≡ has (words_of vs) i
visited_has [] i = refl
visited_has (v ∷ vs) i = ap (λ (b : Bool). eqb v.word i || b) (visited_has vs i)

-- two traces without a fault have the same words
abbrev Alike : Trace → Trace → Type 0
Alike s t = s.stopped ≡ false → t.stopped ≡ false → words_of s.visits ≡ words_of t.visits

alike_then : (s s' t t' : Trace) → Alike s s' → Alike t t' → Alike (and_then s t) (and_then s' t')
alike_then s s' t t' f g = by s.stopped s'.stopped f
  where
    by : (b b' : Bool) → (b ≡ false → b' ≡ false → words_of s.visits ≡ words_of s'.visits) → Alike (follow b s.visits t) (follow b' s'.visits t')
    by true b' h = λ e e'. absurd (true_not_false e)
    by false true h = λ e e'. absurd (true_not_false e')
    by false false h = λ e e'. words_join s.visits t.visits ∙ ap₂ ◌++◌ (h refl refl) (g e e') ∙ sym (words_join s'.visits t'.visits)

alike_unless : (a a' : Fault) (s s' : Trace) → (a ≡ Nothing → a' ≡ Nothing → Alike s s') → Alike (unless_fault a s) (unless_fault a' s')
alike_unless (At n q) a' s s' f = λ e e'. absurd (true_not_false e)
alike_unless Nothing (At n q) s s' f = λ e e'. absurd (true_not_false e')
alike_unless Nothing Nothing s s' f = f refl refl

-- what is open and the weight do not matter for the words of a region
module _ (C : Code) (R : Rules) where
  abbrev AlikeBelow : ℕ → Type 0
  AlikeBelow n = (x x' : Opens) (w w' p E : ℕ) → E ≤ C.words → size C R x p E < n → Alike (trace C R x w p E) (trace C R x' w' p E)

  module _ (n : ℕ) (h : AlikeBelow n) (x x' : Opens) (w w' p E : ℕ) (l : p < E) (m : E ≤ C.words) (z : size C R x p E ≤ n) where
    parts_alike : (i : Control) → Passed C R i x p E → Alike (parts R (trace C R) i x w p) (parts R (trace C R) i x' w' p)
    unfolding parts
    parts_alike Unknown o = λ e e'. refl
    parts_alike Plain o = λ e e'. refl
    parts_alike Emit o = λ e e'. refl
    parts_alike End o = λ e e'. refl
    parts_alike (Break c) o = λ e e'. refl
    parts_alike (If c dst num) o =
        let b = if_bounds C R c dst num p E o.bounds in
        let s = spare_if C R x o.room in
        alike_then _ _ _ _ (h (in_if x) (in_if x') w w' (p + 1) dst.0 (omega arith) (omega (arith, fewer C R x (in_if x) p E (p + 1) dst.0 s (omega arith))))
        (h (in_if x) (in_if x') w w' dst.0 (dst.0 + num) (omega arith) (omega (arith, fewer C R x (in_if x) p E dst.0 (dst.0 + num) s (omega arith))))
    parts_alike (Loop r dst) o =
        let b = loop_bounds C R r dst p E o.bounds in
        h (in_loop x) (in_loop x') (w * R.turns r) (w' * R.turns r) (p + 1) (dst.0 + 1) (omega arith) (omega (arith, fewer C R x (in_loop x) p E (p + 1) (dst.0 + 1) (spare_loop C R x o.room) (omega arith)))
    parts_alike (Call c dst num) o =
        let b = call_bounds C R c dst num p E o.bounds in
        h (in_call x) (in_call x') w w' dst.0 (dst.0 + num) (omega arith) (omega (arith, fewer C R x (in_call x) p E dst.0 (dst.0 + num) (spare_call C R x o.room) (omega arith)))
    parts_alike (Jump c dst num) o = λ e e'. refl

    visit_alike : Alike (visit C R (trace C R) x w p E) (visit C R (trace C R) x' w' p E)
    unfolding visit
    visit_alike e e' =
        ap (λ (ws : List ℕ). p ∷ ws) (alike_unless (fault_at C R x p E) (fault_at C R x' p E) _ _ (λ f f'.
        let o = fault_none C R x p E f in
        let s = next_in C R (C.control p) p E l o.bounds in
        alike_then _ _ _ _ (parts_alike (C.control p) o) (h x x' w w' (next_of (C.control p) p) E m (omega (arith, nearer C R x p (next_of (C.control p) p) E l s.0)))) e e')

  region_alike : (n : ℕ) → AlikeBelow n → (x x' : Opens) (w w' p E : ℕ) → E ≤ C.words → size C R x p E ≤ n → Alike (region C R (trace C R) x w p E) (region C R (trace C R) x' w' p E)
  unfolding region
  region_alike n h x x' w w' p E m z = by (ltb p E) refl
    where
      by : (b : Bool) → ltb p E ≡ b → Alike (pick b (visit C R (trace C R) x w p E) nothing) (pick b (visit C R (trace C R) x' w' p E) nothing)
      by true y = visit_alike n h x x' w w' p E (ltb-true p E y) m z
      by false y = λ e e'. refl

  trace_alike : (n : ℕ) → AlikeBelow n
  trace_alike zero x x' w w' p E m z = absurd (omega arith)
  trace_alike (suc n) x x' w w' p E m z = rw (trace_eq C R x w p E m, trace_eq C R x' w' p E m) (region_alike n (trace_alike n) x x' w w' p E m (omega arith))

  -- a part is passed: to this total, and with these words added to the marks
  pub record PassedWith (r : Part) (t t₁ : ℕ) (m : List Bool) (added : ℕ → Bool) : Type 0 where
    pub flow : (scan_of C R r t m).flow ≡ given t₁
    pub marks : (i : ℕ) → i < length m → get_or (scan_of C R r t m).marks i false ≡ (added i || get_or m i false)

  -- passed once: its cost; the depths, no more than the most that is open around it and at its visits; and
  -- the words it adds, which are the same wherever it fits
  pub record Anywhere (r : Part) (t t₁ : ℕ) (m m₁ : List Bool) : Type 0 where
    pub cost : ℕ
    pub depths : Depths
    pub least : (top : Depths) → Below r.opens.depths top → Each (Within C R top) (trace_of C R r).visits → Below depths top
    pub over : Over depths r.opens.depths
    pub under : Under R depths
    pub added : ℕ → Bool
    pub adds : t₁ ≡ t + r.weight * cost
    pub marks : (i : ℕ) → i < length m → get_or m₁ i false ≡ (added i || get_or m i false)
    pub again : (x : Opens) (w u : ℕ) (m' : List Bool) → x.looped ≡ r.opens.looped → Room R x.depths (beyond depths r.opens.depths) → u + w * cost ≤ R.most
        → PassedWith (part_of x w r.from.0 r.to.0) u (u + w * cost) m' added

  pub passed_anywhere : (r : Part) (t : ℕ) (m : List Bool) {t₁ : ℕ} {m₁ : List Bool} → r.to.0 ≤ C.words → C.words ≤ length m → Under R r.opens.depths → scanned (given t₁) m₁ ≡ scan_of C R r t m → Anywhere r t t₁ m m₁
  passed_anywhere r t m {t₁} {m₁} h long under e =
      let found = passed_once C R r t m h long under e in
      let l = found.left in
      let first = went_on C R r t m (sym (ap (λ (s : Scanned). s.flow) e)) in
      record {
        cost = l.cost;
        depths = found.depths;
        least = found.least;
        over = l.over;
        under = l.under;
        added = visited (trace_of C R r).visits;
        adds = l.adds;
        marks = λ i b. ap (λ (s : Scanned). get_or s.marks i false) e ∙ replay_marks C R (trace_of C R r).visits t m i b first;
        again = λ x w u m' same room fits.
            let r' = part_of x w r.from.0 r.to.0 in
            let there = ap (λ (s : Scanned). s.flow) (l.passes.again x w u m₁ same room fits (covers_self m₁)) in
            let second = went_on C R r' u m₁ there in
            let words = trace_alike (suc (size C R r.opens r.from.0 r.to.0)) r.opens x r.weight w r.from.0 r.to.0 h (omega arith) (unstopped C R r t m h (sym (ap (λ (s : Scanned). s.flow) e))) (unstopped C R r' u m₁ h there) in
            record {
              flow = replay_flow C R (trace_of C R r').visits u m' ∙ sym (replay_flow C R (trace_of C R r').visits u m₁) ∙ there;
              marks = λ i b.
                  replay_marks C R (trace_of C R r').visits u m' i b second
                  ∙ ap (λ (y : Bool). y || get_or m' i false) (visited_has (trace_of C R r').visits i ∙ ap (λ (ws : List ℕ). has ws i) (sym words) ∙ sym (visited_has (trace_of C R r).visits i));
            };
      }
