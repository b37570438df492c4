-- What holds of each visit of a region, told of its word and of the parts that the word asks for. Assumes
-- nothing.
use mathlib.Core.Path.{◌≡◌, refl, sym, ◌∙◌}
use mathlib.Core.Bool.{Bool, true, false}
use mathlib.Core.List.{List, [], ◌∷◌, ◌++◌}
use Prim.Native.Nat.{ℕ, ◌+◌, ◌*◌, ◌≤◌, ◌<◌}
use native.Mathlib.Omega.{arith}
use borrow.Author.Tests.{lt-ltb}
use Rattle.answer.specs.Answers.{Answer, given, refused}
use Rattle.answer.specs.Faults.{Fault}
use Rattle.answer.specs.Faults.{Nothing, At}
use Rattle.instruction.specs.declared.flow_control.Control.{Control}
use Rattle.instruction.specs.declared.flow_control.Control.TheVariants.{Unknown, Plain, Emit, End, Break, If, Loop, Call, Jump}
use Rattle.flow.specs.Inside.{unless, parts_of, look_of, scan_of, after_part}
use Rattle.flow.specs.Own.{next_of}
use Rattle.flow.specs.Rules.{Code, Rules, in_if, in_loop, in_call}
use Rattle.flow.specs.Visits.{Visit, Trace, follow, and_then, unless_fault, parts, fault_at, visit, region, trace, first_fault, total}
use Rattle.flow.specs.declared.look.Look.{Look}
use Rattle.flow.specs.declared.look.Look.TheVariants.{Next, One, Two}
use Rattle.flow.specs.declared.look.Opens.{Opens}
use Rattle.flow.specs.declared.look.Part.{Part}
use Rattle.flow.proofs.Depth.{Passed, fault_none, if_bounds, loop_bounds, call_bounds, trace_eq}
use Rattle.flow.proofs.Marks.{flow_by, replay_flow}
use Rattle.flow.proofs.Replay.{told}
use Rattle.flow.proofs.Stops.{first_none}
use Rattle.flow.proofs.Tests.{apart, true_not_false}
use Rattle.flow.proofs.Weights.{Each, none, one}

module _ (C : Code) (R : Rules) where
  abbrev pub trace_of : Part → Trace
  trace_of r = trace C R r.opens r.weight r.from.0 r.to.0

  -- a scan that goes on met no fault, so that its trace is not stopped
  no_fault : (f : Fault) (t : ℕ) {t₁ : ℕ} → flow_by f t ≡ given t₁ → f ≡ Nothing
  no_fault (At n q) t e = apart (cc)
  no_fault Nothing t e = refl

  pub went_on : (r : Part) (t : ℕ) (m : List Bool) {t₁ : ℕ} → (scan_of C R r t m).flow ≡ given t₁ → first_fault C R t (trace_of r).visits ≡ Nothing
  went_on r t m e = no_fault (first_fault C R t (trace_of r).visits) (t + total (trace_of r).visits) (sym (replay_flow C R (trace_of r).visits t m) ∙ e)

  pub unstopped : (r : Part) (t : ℕ) (m : List Bool) {t₁ : ℕ} → r.to.0 ≤ C.words → (scan_of C R r t m).flow ≡ given t₁ → (trace_of r).stopped ≡ false
  unstopped r t m h e = told C R r.opens r.weight r.from.0 r.to.0 h ∙ first_none C R t (trace_of r).visits (went_on r t m e)

module _ (P : Visit → Type 0) where
  record Apart (vs us : List Visit) : Type 0 where
    before : Each P vs
    after : Each P us

  each_split : (vs us : List Visit) → Each P (vs ++ us) → Apart vs us
  each_split [] us e = record { before = none; after = e }
  each_split (v ∷ vs) us (one p a) = let s = each_split vs us a in record { before = one p s.before; after = s.after }

  record Parted (t more : Trace) : Type 0 where
    first : Each P t.visits
    rest : t.stopped ≡ false → Each P more.visits

  each_then : (t more : Trace) → Each P (and_then t more).visits → Parted t more
  each_then t more e = by t.stopped refl e
    where
      by : (s : Bool) → t.stopped ≡ s → Each P (follow s t.visits more).visits → Parted t more
      by true z e = record { first = e; rest = λ g. absurd (true_not_false (sym z ∙ g)) }
      by false z e = let s = each_split t.visits more.visits e in record { first = s.before; rest = λ g. s.after }

then_goes : (s t : Trace) → s.stopped ≡ false → t.stopped ≡ false → (and_then s t).stopped ≡ false
then_goes s t e f = rw e f

module _ (C : Code) (R : Rules) (P : Visit → Type 0) (x : Opens) (w p E : ℕ) where
  -- of a word's parts, which have words, and of the rest of the region where these do not stop
  pub record OfOne (r : Part) (rest : List Visit) : Type 0 where
    pub some : r.from.0 < r.to.0
    pub inside : Each P (trace_of C R r).visits
    pub after : (trace_of C R r).stopped ≡ false → Each P rest

  pub record OfTwo (r r' : Part) (rest : List Visit) : Type 0 where
    pub some : r.from.0 < r.to.0
    pub inside : Each P (trace_of C R r).visits
    pub second : (trace_of C R r).stopped ≡ false → Each P (trace_of C R r').visits
    pub after : (trace_of C R r).stopped ≡ false → (trace_of C R r').stopped ≡ false → Each P rest

  abbrev pub EachOf : Answer Look → Type 0
  EachOf (refused n q) = Unit {0}
  EachOf (given Next) = Each P (trace C R x w (p + 1) E).visits
  EachOf (given (One r next)) = OfOne r (trace C R x w next.0 E).visits
  EachOf (given (Two r next)) = OfTwo r (after_part r next) (trace C R x w next.0 E).visits

  parts_each : (i : Control) → Passed C R i x p E → Each P (and_then (parts R (trace C R) i x w p) (trace C R x w (next_of i p) E)).visits → EachOf (given (parts_of R i x w p))
  unfolding parts
  parts_each Unknown o e = e
  parts_each Plain o e = e
  parts_each Emit o e = e
  parts_each End o e = e
  parts_each (Break c) o e = e
  parts_each (If c dst num) o e =
      let yes = trace C R (in_if x) w (p + 1) dst.0 in
      let no = trace C R (in_if x) w dst.0 (dst.0 + num) in
      let s = each_then P (and_then yes no) (trace C R x w (dst.0 + num) E) e in
      let t = each_then P yes no s.first in
      record { some = omega (arith, if_bounds C R c dst num p E o.bounds); inside = t.first; second = t.rest; after = λ f g. s.rest (then_goes yes no f g) }
  parts_each (Loop r dst) o e =
      let s = each_then P (trace C R (in_loop x) (w * R.turns r) (p + 1) (dst.0 + 1)) (trace C R x w (dst.0 + 1) E) e in
      record { some = omega (arith, loop_bounds C R r dst p E o.bounds); inside = s.first; after = s.rest }
  parts_each (Call c dst num) o e =
      let s = each_then P (trace C R (in_call x) w dst.0 (dst.0 + num)) (trace C R x w (p + 1) E) e in
      record { some = omega (arith, call_bounds C R c dst num p E o.bounds); inside = s.first; after = s.rest }
  parts_each (Jump c dst num) o e = e

  abbrev here : Visit
  here = record { word = p; end = E; opens = x; weight = w }

  module _ (l : p < E) (h : E ≤ C.words) (e : Each P (trace C R x w p E).visits) where
    by_word : Each P (visit C R (trace C R) x w p E).visits
    unfolding region
    by_word = rw (lt-ltb p E l) at (rw (trace_eq C R x w p E h) at e)

    head : {v : Visit} {vs : List Visit} → Each P (v ∷ vs) → P v
    head (one q a) = q

    tail : {v : Visit} {vs : List Visit} → Each P (v ∷ vs) → Each P vs
    tail (one q a) = a

    pub each_here : P here
    unfolding visit
    each_here = head by_word

    each_look : (f : Fault) → fault_at C R x p E ≡ f → Each P (unless_fault f (and_then (parts R (trace C R) (C.control p) x w p) (trace C R x w (next_of (C.control p) p) E))).visits
        → EachOf (unless f (parts_of R (C.control p) x w p))
    each_look (At n q) z a = tt
    each_look Nothing z a = parts_each (C.control p) (fault_none C R x p E z) a

    pub each_at : {k : Answer Look} → k ≡ look_of C R x w p E → EachOf k
    unfolding visit look_of
    each_at q = rw q (each_look (fault_at C R x p E) refl (tail by_word))
