-- The depths to which own words and visits are followed are enough: both meet the equation of the rules, and
-- nobody sees a depth from here on. Assumes nothing.
use mathlib.Core.Path.{◌≡◌, refl, sym, ap, ap₂, ◌∙◌}
use mathlib.Core.Bool.{true, false, ◌&&◌}
use mathlib.Core.List.{List, [], ◌∷◌}
use Prim.Native.Nat.{ℕ, zero, suc, ◌+◌, ◌*◌, ◌-◌, ◌≤◌, ◌<◌}
use native.Mathlib.Omega.{arith}
use lib.Dec.{leb, ltb}
use borrow.Author.Tests.{leb-true, leb-false, ltb-true, le-ltb}
use Rattle.answer.specs.Faults.{Fault}
use Rattle.answer.specs.Faults.{Nothing, At}
use Rattle.binary.specs.declared.WordAddress.{WordAddress}
use Rattle.instruction.specs.declared.flow_control.Condition.{Condition}
use Rattle.instruction.specs.declared.flow_control.Control.{Control}
use Rattle.instruction.specs.declared.flow_control.Control.TheVariants.{Unknown, Plain, Emit, End, Break, If, Loop, Call, Jump}
use Rattle.flow.specs.Own.{next_of, spans, own_from, own_words}
use Rattle.flow.specs.Rules.{Code, Rules, in_if, in_loop, in_call, pick}
use Rattle.flow.specs.declared.look.Opens.{Opens}
use Rattle.flow.specs.Visits.{bad22, bad23, bad24, bad25, bad26, Trace, and_then, unless_fault, visiting, Tracer, parts, fault_at, visit, region, trace_to, spare, size, trace}
use Rattle.flow.proofs.Tests.{not_bad, both, passed, last_passed, pick_cong}

-- where an IF or LOOP has good bounds, the next own word is further on, and in the region
pub spans_in : (i : Control) (p E : ℕ) → p < E → spans i p E ≡ true → (p < next_of i p) × (next_of i p ≤ E)
spans_in Unknown p E l e = omega arith
spans_in Plain p E l e = omega arith
spans_in Emit p E l e = omega arith
spans_in End p E l e = omega arith
spans_in (Break c) p E l e = omega arith
spans_in (If c dst num) p E l e =
    let (b₁, b₂) = both (leb (p + 2) dst.0) (leb (dst.0 + num) E) e in
    omega (arith, leb-true (p + 2) dst.0 b₁, leb-true (dst.0 + num) E b₂)
spans_in (Loop r dst) p E l e =
    let (b₁, b₂) = both (leb (p + 1) dst.0) (ltb dst.0 E) e in
    omega (arith, leb-true (p + 1) dst.0 b₁, ltb-true dst.0 E b₂)
spans_in (Call c dst num) p E l e = omega arith
spans_in (Jump c dst num) p E l e = omega arith

module _ (C : Code) where
  own_past : (n p E : ℕ) → E ≤ p → own_from C n p E ≡ []
  unfolding own_from
  own_past zero p E l = refl
  own_past (suc n) p E l = rw (le-ltb p E l)

  own_cong : (f g p E : ℕ) → E - p ≤ f → E - p ≤ g → own_from C f p E ≡ own_from C g p E
  unfolding own_from
  own_cong zero g p E a b = sym (own_past g p E (omega arith))
  own_cong (suc f) zero p E a b = own_past (suc f) p E (omega arith)
  own_cong (suc f) (suc g) p E a b =
      pick_cong (ltb p E) _ _ _ (λ y. ap (λ (l : List ℕ). p ∷ l) (pick_cong _ _ _ _ (λ s.
      let n = spans_in (C.control p) p E (ltb-true p E y) s in
      own_cong f g (next_of (C.control p) p) E (omega arith) (omega arith))))

  pub own_eq : (p E : ℕ) → own_words C p E ≡ pick (ltb p E) (p ∷ pick (spans (C.control p) p E) (own_words C (next_of (C.control p) p) E) []) []
  unfolding own_words own_from
  own_eq p E =
      own_cong (E - p) (suc (E - p)) p E (omega arith) (omega arith)
      ∙ pick_cong (ltb p E) _ _ _ (λ y. ap (λ (l : List ℕ). p ∷ l) (pick_cong (spans (C.control p) p E) _ _ _ (λ s.
      let n = spans_in (C.control p) p E (ltb-true p E y) s in
      own_cong (E - p) (E - next_of (C.control p) p) (next_of (C.control p) p) E (omega arith) (omega arith))))

module _ (C : Code) (R : Rules) where
  -- what a visit without a fault tells
  pub record Passed (i : Control) (x : Opens) (p E : ℕ) : Type 0 where
    pub emits : bad22 R i ≡ false
    pub breaks : bad23 i x ≡ false
    pub bounds : bad24 C i p E ≡ false
    pub room : bad25 R i x ≡ false
    pub jumps : bad26 C i p E ≡ false

  pub fault_none : (x : Opens) (p E : ℕ) → fault_at C R x p E ≡ Nothing → Passed (C.control p) x p E
  unfolding fault_at
  fault_none x p E e =
      let i = C.control p in
      let (a, e₁) = passed (bad22 R i) 22 p _ e in
      let (b, e₂) = passed (bad23 i x) 23 p _ e₁ in
      let (c, e₃) = passed (bad24 C i p E) 24 p _ e₂ in
      let (d, e₄) = passed (bad25 R i x) 25 p _ e₃ in
      record { emits = a; breaks = b; bounds = c; room = d; jumps = last_passed (bad26 C i p E) 26 p e₄ }

  -- the bounds of each block, as numbers
  pub if_bounds : (c : Condition) (d : WordAddress) (num p E : ℕ) → bad24 C (If c d num) p E ≡ false → (p + 2 ≤ d.0) × (d.0 + num ≤ E)
  if_bounds c d num p E e =
      let (b₁, b₂) = both (leb (p + 2) d.0) (leb (d.0 + num) E) (not_bad (spans (If c d num) p E) e) in
      (leb-true (p + 2) d.0 b₁, leb-true (d.0 + num) E b₂)

  pub loop_bounds : (r : ℕ) (d : WordAddress) (p E : ℕ) → bad24 C (Loop r d) p E ≡ false → (p < d.0) × (d.0 < E)
  loop_bounds r d p E e =
      let (b₁, b₂) = both (leb (p + 1) d.0) (ltb d.0 E) (not_bad (spans (Loop r d) p E) e) in
      (omega (arith, leb-true (p + 1) d.0 b₁), ltb-true d.0 E b₂)

  pub call_bounds : (c : Condition) (d : WordAddress) (num p E : ℕ) → bad24 C (Call c d num) p E ≡ false → (1 ≤ num) × (d.0 + num ≤ C.words)
  call_bounds c d num p E e =
      let (b₁, b₂) = both (leb 1 num) (leb (d.0 + num) C.words) (not_bad (leb 1 num && leb (d.0 + num) C.words) e) in
      (leb-true 1 num b₁, leb-true (d.0 + num) C.words b₂)

  -- a word without a fault has its next own word further on, in the region
  pub next_in : (i : Control) (p E : ℕ) → p < E → bad24 C i p E ≡ false → (p < next_of i p) × (next_of i p ≤ E)
  next_in Unknown p E l e = omega arith
  next_in Plain p E l e = omega arith
  next_in Emit p E l e = omega arith
  next_in End p E l e = omega arith
  next_in (Break c) p E l e = omega arith
  next_in (If c dst num) p E l e = spans_in (If c dst num) p E l (not_bad (spans (If c dst num) p E) e)
  next_in (Loop r dst) p E l e = spans_in (Loop r dst) p E l (not_bad (spans (Loop r dst) p E) e)
  next_in (Call c dst num) p E l e = omega arith
  next_in (Jump c dst num) p E l e = omega arith

  -- an opening less outweighs any region; a word further on counts one
  pub fewer : (x y : Opens) (p E q e : ℕ) → spare C R x ≡ suc (spare C R y) → e ≤ C.words → size C R y q e < size C R x p E
  unfolding size
  fewer x y p E q e h l = rw h (omega arith)

  pub nearer : (x : Opens) (p q E : ℕ) → p < E → p < q → size C R x q E < size C R x p E
  unfolding size
  nearer x p q E h l = omega arith

  pub spare_if : (x : Opens) → leb R.ifs x.depths.ifs ≡ false → spare C R x ≡ suc (spare C R (in_if x))
  unfolding spare
  spare_if x h = omega (arith, leb-false R.ifs x.depths.ifs h)

  pub spare_loop : (x : Opens) → leb R.loops x.depths.loops ≡ false → spare C R x ≡ suc (spare C R (in_loop x))
  unfolding spare
  spare_loop x h = omega (arith, leb-false R.loops x.depths.loops h)

  pub spare_call : (x : Opens) → leb R.calls x.depths.calls ≡ false → spare C R x ≡ suc (spare C R (in_call x))
  unfolding spare
  spare_call x h = omega (arith, leb-false R.calls x.depths.calls h)

  -- two tracers that agree on all that is smaller than n
  abbrev Agree : Tracer → Tracer → ℕ → Type 0
  Agree f g n = (x : Opens) (w p E : ℕ) → E ≤ C.words → size C R x p E < n → f x w p E ≡ g x w p E

  unless_cong : (a : Fault) {m m' : Trace} → (a ≡ Nothing → m ≡ m') → unless_fault a m ≡ unless_fault a m'
  unless_cong (At n p) f = refl
  unless_cong Nothing f = f refl

  module _ (f g : Tracer) (n : ℕ) (h : Agree f g n) (x : Opens) (w p E : ℕ) (l : p < E) (m : E ≤ C.words) (z : size C R x p E ≤ n) where
    parts_cong : (i : Control) → Passed i x p E → parts R f i x w p ≡ parts R g i x w p
    unfolding parts
    parts_cong Unknown o = refl
    parts_cong Plain o = refl
    parts_cong Emit o = refl
    parts_cong End o = refl
    parts_cong (Break c) o = refl
    parts_cong (If c dst num) o =
        let b = if_bounds c dst num p E o.bounds in
        let s = spare_if x o.room in
        ap₂ and_then (h (in_if x) w (p + 1) dst.0 (omega arith) (omega (arith, fewer x (in_if x) p E (p + 1) dst.0 s (omega arith))))
        (h (in_if x) w dst.0 (dst.0 + num) (omega arith) (omega (arith, fewer x (in_if x) p E dst.0 (dst.0 + num) s (omega arith))))
    parts_cong (Loop r dst) o =
        let b = loop_bounds r dst p E o.bounds in
        h (in_loop x) (w * R.turns r) (p + 1) (dst.0 + 1) (omega arith) (omega (arith, fewer x (in_loop x) p E (p + 1) (dst.0 + 1) (spare_loop x o.room) (omega arith)))
    parts_cong (Call c dst num) o =
        let b = call_bounds c dst num p E o.bounds in
        h (in_call x) w dst.0 (dst.0 + num) (omega arith) (omega (arith, fewer x (in_call x) p E dst.0 (dst.0 + num) (spare_call x o.room) (omega arith)))
    parts_cong (Jump c dst num) o = refl

    visit_cong : visit C R f x w p E ≡ visit C R g x w p E
    unfolding visit
    visit_cong = ap (visiting (record { word = p; end = E; opens = x; weight = w })) (unless_cong (fault_at C R x p E) (λ e.
        let o = fault_none x p E e in
        let s = next_in (C.control p) p E l o.bounds in
        ap₂ and_then (parts_cong (C.control p) o) (h x w (next_of (C.control p) p) E m (omega (arith, nearer x p (next_of (C.control p) p) E l s.0)))))

  region_cong : (f g : Tracer) (n : ℕ) → Agree f g n → (x : Opens) (w p E : ℕ) → E ≤ C.words → size C R x p E ≤ n → region C R f x w p E ≡ region C R g x w p E
  unfolding region
  region_cong f g n h x w p E m z = pick_cong (ltb p E) _ _ _ (λ y. visit_cong f g n h x w p E (ltb-true p E y) m z)

  pub trace_cong : (f g : ℕ) (x : Opens) (w p E : ℕ) → E ≤ C.words → size C R x p E < f → size C R x p E < g → trace_to C R f x w p E ≡ trace_to C R g x w p E
  unfolding trace_to
  trace_cong zero g x w p E m a b = absurd (omega arith)
  trace_cong (suc f) zero x w p E m a b = absurd (omega arith)
  trace_cong (suc f) (suc g) x w p E m a b =
      region_cong (trace_to C R f) (trace_to C R g) (size C R x p E) (λ x w p E m z. trace_cong f g x w p E m (omega arith) (omega arith)) x w p E m (omega arith)

  -- the equation of the rules
  pub trace_eq : (x : Opens) (w p E : ℕ) → E ≤ C.words → trace C R x w p E ≡ region C R (trace C R) x w p E
  unfolding trace trace_to
  trace_eq x w p E m =
      region_cong (trace_to C R (size C R x p E)) (trace C R) (size C R x p E) (λ y v q e b z. trace_cong (size C R x p E) (suc (size C R y q e)) y v q e b z (omega arith)) x w p E m (omega arith)
