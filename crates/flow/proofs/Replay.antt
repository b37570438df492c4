-- Visits replayed one after another are what scanning a region does: by the parts of each word. Assumes
-- nothing.
use mathlib.Core.Path.{◌≡◌, refl, sym, ap, ◌∙◌}
use mathlib.Core.Bool.{Bool, true, false, ◌||◌}
use mathlib.Core.List.{List, [], ◌∷◌, ◌++◌}
use Prim.Native.Nat.{ℕ, suc, ◌+◌, ◌≤◌, ◌<◌}
use native.Mathlib.Omega.{arith}
use lib.Dec.{ltb}
use lib.ListN.{set}
use borrow.Author.Tests.{lt-ltb, le-ltb}
use Rattle.answer.specs.Answers.{Answer, given, refused}
use Rattle.answer.specs.Faults.{Fault}
use Rattle.answer.specs.Faults.{Nothing, At}
use Rattle.binary.specs.declared.WordAddress.{WordAddress}
use Rattle.instruction.specs.declared.flow_control.Control.{Control}
use Rattle.instruction.specs.declared.flow_control.Control.TheVariants.{Unknown, Plain, Emit, End, Break, If, Loop, Call, Jump}
use Rattle.flow.specs.Inside.{unless, part_of, parts_of, look_of, Scanned, scanned, stop_or, replay, scan_of, replay_then, after_part, scan_both}
use Rattle.flow.specs.Own.{next_of}
use Rattle.flow.specs.Rules.{Code, Rules, in_if, pick}
use Rattle.flow.specs.Visits.{Visit, Trace, follow, and_then, unless_fault, parts, fault_at, visit, region, size, trace}
use Rattle.flow.specs.declared.look.Look.{Look}
use Rattle.flow.specs.declared.look.Look.TheVariants.{Next, One, Two}
use Rattle.flow.specs.declared.look.Opens.{Opens}
use Rattle.flow.specs.declared.look.Part.{Part}
use Rattle.flow.proofs.Depth.{fault_none, if_bounds, trace_eq}
use Rattle.flow.proofs.Stops.{is_fault, faulty, Told, Tells, parts_told, trace_told}
use Rattle.flow.proofs.Tests.{false_not_true}

module _ (C : Code) (R : Rules) where
  append_here : (over : Bool) (a : Fault) (v : Visit) (m m' : List Bool) (rest : Scanned) (us : List Visit)
      → replay_then C R (pick over (scanned (refused 27 v.word) m) (stop_or a m' rest)) us
      ≡ pick over (scanned (refused 27 v.word) m) (stop_or a m' (replay_then C R rest us))
  append_here true a v m m' rest us = refl
  append_here false (At n q) v m m' rest us = refl
  append_here false Nothing v m m' rest us = refl

  replay_append : (vs us : List Visit) (t : ℕ) (m : List Bool) → replay C R (vs ++ us) t m ≡ replay_then C R (replay C R vs t m) us
  unfolding replay
  replay_append [] us t m = refl
  replay_append (v ∷ vs) us t m =
      rw (replay_append vs us (t + v.weight) (set m v.word true))
      (sym (append_here (ltb R.most (t + v.weight)) (fault_at C R v.opens v.word v.end) v m (set m v.word true) (replay C R vs (t + v.weight) (set m v.word true)) us))

  stopped_here : (over : Bool) (a : Fault) (b : Bool) (v : Visit) (m m' : List Bool) (rest : Scanned) (us : List Visit) → (is_fault a || b) ≡ true → (b ≡ true → replay_then C R rest us ≡ rest)
      → pick over (scanned (refused 27 v.word) m) (stop_or a m' (replay_then C R rest us))
      ≡ pick over (scanned (refused 27 v.word) m) (stop_or a m' rest)
  unfolding is_fault
  stopped_here true a b v m m' rest us e f = refl
  stopped_here false (At n q) b v m m' rest us e f = refl
  stopped_here false Nothing b v m m' rest us e f = f e

  replay_stopped : (vs us : List Visit) (t : ℕ) (m : List Bool) → faulty C R vs ≡ true → replay_then C R (replay C R vs t m) us ≡ replay C R vs t m
  unfolding replay faulty
  replay_stopped [] us t m e = absurd (false_not_true e)
  replay_stopped (v ∷ vs) us t m e =
      let a = fault_at C R v.opens v.word v.end in
      let m' = set m v.word true in
      let rest = replay C R vs (t + v.weight) m' in
      append_here (ltb R.most (t + v.weight)) a v m m' rest us
      ∙ stopped_here (ltb R.most (t + v.weight)) a (faulty C R vs) v m m' rest us e (replay_stopped vs us (t + v.weight) m')

  -- one trace after another
  replay_and : (one more : Trace) (t : ℕ) (m : List Bool) → Told C R one → replay C R (and_then one more).visits t m ≡ replay_then C R (replay C R one.visits t m) more.visits
  replay_and one more t m told = by one.stopped refl
    where
      by : (s : Bool) → one.stopped ≡ s → replay C R (follow s one.visits more).visits t m ≡ replay_then C R (replay C R one.visits t m) more.visits
      by true e = sym (replay_stopped one.visits more.visits t m (sym told ∙ e))
      by false e = replay_append one.visits more.visits t m

  pub told : (x : Opens) (w p E : ℕ) → E ≤ C.words → Told C R (trace C R x w p E)
  unfolding trace
  told x w p E l = trace_told C R (suc (size C R x p E)) x w p E l (omega arith)

-- a region, by what its first word asks for
module _ (C : Code) (R : Rules) (x : Opens) (w p E : ℕ) (t : ℕ) (m : List Bool) where
  abbrev visits : Opens → ℕ → ℕ → ℕ → List Visit
  visits y v q e = (trace C R y v q e).visits

  abbrev pub part_visits : Part → List Visit
  part_visits r = visits r.opens r.weight r.from.0 r.to.0

  -- with total t and marks m, the word itself counted and marked
  unfoldable pub asked : Answer Look → Scanned
  asked (refused n q) = scanned (refused n q) m
  asked (given Next) = replay C R (visits x w (p + 1) E) t m
  asked (given (One r next)) = replay_then C R (replay C R (part_visits r) t m) (visits x w next.0 E)
  asked (given (Two r next)) = replay_then C R (scan_both C R r next t m) (visits x w next.0 E)

  parts_asked : (i : Control) (l : p < E) (h : E ≤ C.words) → fault_at C R x p E ≡ Nothing → C.control p ≡ i
      → replay_then C R (replay C R (parts R (trace C R) i x w p).visits t m) (visits x w (next_of i p) E) ≡ asked (given (parts_of R i x w p))
  unfolding asked parts replay
  parts_asked Unknown l h o e = refl
  parts_asked Plain l h o e = refl
  parts_asked Emit l h o e = refl
  parts_asked End l h o e = refl
  parts_asked (Break c) l h o e = refl
  parts_asked (If c dst num) l h o e =
      let b = if_bounds C R c dst num p E (rw e at (fault_none C R x p E o).bounds) in
      ap (λ s. replay_then C R s (visits x w (dst.0 + num) E))
      (replay_and C R (trace C R (in_if x) w (p + 1) dst.0) (trace C R (in_if x) w dst.0 (dst.0 + num)) t m (told C R (in_if x) w (p + 1) dst.0 (omega arith)))
  parts_asked (Loop r dst) l h o e = refl
  parts_asked (Call c dst num) l h o e = refl
  parts_asked (Jump c dst num) l h o e = refl

  tells : Tells C R (trace C R) (suc (size C R x p E))
  tells y v q e h z = told C R y v q e h

  looked : (l : p < E) (h : E ≤ C.words) (f : Fault) → fault_at C R x p E ≡ f
      → stop_or f m (replay C R (unless_fault f (and_then (parts R (trace C R) (C.control p) x w p) (trace C R x w (next_of (C.control p) p) E))).visits t m)
      ≡ asked (unless f (parts_of R (C.control p) x w p))
  unfolding asked
  looked l h (At n q) e = refl
  looked l h Nothing e =
      replay_and C R (parts R (trace C R) (C.control p) x w p) (trace C R x w (next_of (C.control p) p) E) t m
      (parts_told C R (trace C R) (suc (size C R x p E)) tells x w p E l h (omega arith) (C.control p) (fault_none C R x p E e))
      ∙ parts_asked (C.control p) l h e refl

-- a region from its word p on, with total t and marks m before it: at its end; at a word that exceeds the
-- total; at any other, by what it asks for
module _ (C : Code) (R : Rules) (part : Part) (p t : ℕ) (m : List Bool) (h : part.to.0 ≤ C.words) where
  abbrev x : Opens
  x = part.opens

  abbrev w : ℕ
  w = part.weight

  abbrev E : ℕ
  E = part.to.0

  abbrev from_here : Scanned
  from_here = scan_of C R (part_of x w p E) t m

  pub scan_end : E ≤ p → scanned (given t) m ≡ from_here
  unfolding replay region
  scan_end l = rw (trace_eq C R x w p E h, le-ltb p E l)

  module _ (l : p < E) where
    pub scan_27 : R.most < t + w → scanned (refused 27 p) m ≡ from_here
    unfolding replay region visit
    scan_27 o = rw (trace_eq C R x w p E h, lt-ltb p E l, lt-ltb R.most (t + w) o)

    module _ (o : t + w ≤ R.most) where
      abbrev m' : List Bool
      m' = set m p true

      scan_word : {k : Answer Look} → k ≡ look_of C R x w p E → asked C R x w p E (t + w) m' k ≡ from_here
      unfolding replay region visit look_of
      scan_word e =
          ap (asked C R x w p E (t + w) m') e
          ∙ rw (trace_eq C R x w p E h, lt-ltb p E l, le-ltb R.most (t + w) o) (sym (looked C R x w p E (t + w) m' l h (fault_at C R x p E) refl))

      pub scan_refuse : {n q : ℕ} → refused n q ≡ look_of C R x w p E → scanned (refused n q) m' ≡ from_here
      unfolding asked
      scan_refuse e = scan_word e

      pub scan_next : given Next ≡ look_of C R x w p E → scan_of C R (part_of x w (p + 1) E) (t + w) m' ≡ from_here
      unfolding asked
      scan_next e = scan_word e

      module _ {r : Part} {next : WordAddress} (e : given (One r next) ≡ look_of C R x w p E) {s : Answer ℕ} {m₁ : List Bool} (d : scanned s m₁ ≡ scan_of C R r (t + w) m') where
        pub scan_one_stop : {n q : ℕ} → s ≡ refused n q → scanned s m₁ ≡ from_here
        unfolding asked
        scan_one_stop g = rw (← scan_word e, ← d, g)

        pub scan_one : {t₁ : ℕ} → s ≡ given t₁ → scan_of C R (part_of x w next.0 E) t₁ m₁ ≡ from_here
        unfolding asked
        scan_one g = rw (← scan_word e, ← d, g)

      module _ {r : Part} {next : WordAddress} (e : given (Two r next) ≡ look_of C R x w p E) {s : Answer ℕ} {m₁ : List Bool} (d : scanned s m₁ ≡ scan_both C R r next (t + w) m') where
        pub scan_two_stop : {n q : ℕ} → s ≡ refused n q → scanned s m₁ ≡ from_here
        unfolding asked
        scan_two_stop g = rw (← scan_word e, ← d, g)

        pub scan_two : {t₁ : ℕ} → s ≡ given t₁ → scan_of C R (part_of x w next.0 E) t₁ m₁ ≡ from_here
        unfolding asked
        scan_two g = rw (← scan_word e, ← d, g)

-- a part after another: not visited after a stop, visited where the first was passed
module _ (C : Code) (R : Rules) (r : Part) (next : WordAddress) (t : ℕ) (m : List Bool) {s : Answer ℕ} {m₁ : List Bool} (d : scanned s m₁ ≡ scan_of C R r t m) where
  pub both_stop : {n q : ℕ} → s ≡ refused n q → scanned s m₁ ≡ scan_both C R r next t m
  both_stop g = rw (← d, g)

  pub both_go : {t₁ : ℕ} {s' : Answer ℕ} {m₂ : List Bool} → s ≡ given t₁ → scanned s' m₂ ≡ scan_of C R (after_part r next) t₁ m₁ → scanned s' m₂ ≡ scan_both C R r next t m
  both_go g f = rw (← d, g) f
