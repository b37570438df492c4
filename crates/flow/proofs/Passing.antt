-- A region that the check passes with some opens, weight, total and marks is passed with any others that fit,
-- at the same cost, and adds no mark where its words are marked: own word by own word.
-- Assumes nothing.
use mathlib.Core.Path.{◌≡◌, refl, sym, ap, ◌∙◌}
use mathlib.Core.Bool.{Bool, true, false}
use mathlib.Core.List.{List, [], ◌∷◌}
use Prim.Native.Nat.{ℕ, zero, suc, ◌+◌, ◌*◌, ◌≤◌, ◌<◌}
use native.Mathlib.Nat.{le-max_left, le-max_right, max-le, mul_assoc}
use native.Mathlib.Omega.{arith}
use lib.Dec.{eqb}
use lib.ListN.{length, get_or, set}
use lib.Seq.{get_or-set_same, get_or-set_other}
use borrow.Author.Tests.{lt-leb, eqb-true, eqb-false}
use Rattle.answer.specs.Answers.{given}
use Rattle.answer.specs.Faults.{Fault}
use Rattle.answer.specs.Faults.{Nothing, At}
use Rattle.binary.specs.Addresses.{word_address}
use Rattle.binary.specs.declared.WordAddress.{WordAddress}
use Rattle.instruction.specs.declared.flow_control.Control.{Control}
use Rattle.instruction.specs.declared.flow_control.Control.TheVariants.{Unknown, Plain, Emit, End, Break, If, Loop, Call, Jump}
use Rattle.flow.specs.Inside.{unless, part_of, parts_of, look_of, scanned, scan_of, beyond, Over, Under, Room, Covers, Passes, Left, LeftBoth, after_part, scan_both, deepest}
use Rattle.flow.specs.Rules.{Code, Rules, in_if, in_loop, in_call}
use Rattle.flow.specs.Visits.{fault_at}
use Rattle.flow.specs.declared.look.Look.TheVariants.{Next, One, Two}
use Rattle.flow.specs.declared.look.Opens.{Opens}
use Rattle.flow.specs.declared.look.Part.{Part}
use Rattle.flow.specs.declared.depths.Depths.{Depths}
use Rattle.flow.proofs.Depth.{Passed, fault_none}
use Rattle.flow.proofs.Tests.{apart, false_not_true}
use Rattle.flow.proofs.Replay.{scan_end, scan_next, scan_one, scan_two, both_go}

-- marks
pub covers_self : (m : List Bool) → Covers m m
covers_self m = record { marked = λ q e. e }

pub covers_trans : {m₁ m₂ m₃ : List Bool} → Covers m₁ m₂ → Covers m₂ m₃ → Covers m₁ m₃
covers_trans f g = record { marked = λ q e. g.marked q (f.marked q e) }

pub covers_set : (m : List Bool) (p : ℕ) → Covers m (set m p true)
covers_set m p = record { marked = λ q e. by q e (eqb q p) refl }
  where
    inside : (l : List Bool) (i : ℕ) → get_or l i false ≡ true → i < length l
    inside [] i h = absurd (false_not_true h)
    inside (x ∷ l) zero h = omega arith
    inside (x ∷ l) (suc i) h = omega (arith, inside l i h)

    by : (q : ℕ) → get_or m q false ≡ true → (b : Bool) → eqb q p ≡ b → get_or (set m p true) q false ≡ true
    by q e true z = let y = eqb-true q p z in rw y (get_or-set_same m p true false (rw y at (inside m q e)))
    by q e false z = get_or-set_other m p q true false (eqb-false q p z) ∙ e

-- a mark that is there already
marked : (m m' : List Bool) (p : ℕ) → p < length m → Covers (set m p true) m' → set m' p true ≡ m'
marked m m' p h c = same m' p (c.marked p (get_or-set_same m p true false h))
  where
    same : (l : List Bool) (i : ℕ) → get_or l i false ≡ true → set l i true ≡ l
    same [] i e = refl
    same (x ∷ l) zero e = ap (λ y. y ∷ l) (sym e)
    same (x ∷ l) (suc i) e = ap (λ y. x ∷ y) (same l i e)

-- what a word without a fault asks for in other surroundings of the same region
module _ (C : Code) (R : Rules) (x x' : Opens) (w w' p E : ℕ) (same : x'.looped ≡ x.looped) where
  pub look_next : given Next ≡ look_of C R x w p E → given Next ≡ look_of C R x' w' p E
  unfolding look_of fault_at
  look_next e = by (fault_at C R x p E) refl e
    where
      on : (i : Control) → C.control p ≡ i → Passed C R i x p E → given Next ≡ given (parts_of R i x w p) → given Next ≡ unless (fault_at C R x' p E) (parts_of R (C.control p) x' w' p)
      on Unknown z o g = rw z g
      on Plain z o g = rw z g
      on Emit z o g = rw (z, o.emits) g
      on End z o g = rw z g
      on (Break c) z o g = rw (z, same, o.breaks) g
      on (If c dst num) z o g = apart (cc)
      on (Loop r dst) z o g = apart (cc)
      on (Call c dst num) z o g = apart (cc)
      on (Jump c dst num) z o g = rw (z, o.jumps) g

      by : (f : Fault) → fault_at C R x p E ≡ f → given Next ≡ unless f (parts_of R (C.control p) x w p) → given Next ≡ unless (fault_at C R x' p E) (parts_of R (C.control p) x' w' p)
      by (At n q) f g = apart (cc)
      by Nothing f g = on (C.control p) refl (fault_none C R x p E f) g

-- a part in other surroundings: the same region, weighing and opening as much more
record Shift (f : ℕ) (x x' : Opens) (w w' : ℕ) (r r' : Part) : Type 0 where
  weight : r'.weight ≡ w' * f
  from : r'.from ≡ r.from
  to : r'.to ≡ r.to
  looped : r'.opens.looped ≡ r.opens.looped
  calls : (r'.opens.depths.calls + x.depths.calls ≡ r.opens.depths.calls + x'.depths.calls) × (x.depths.calls ≤ r.opens.depths.calls)
  ifs : (r'.opens.depths.ifs + x.depths.ifs ≡ r.opens.depths.ifs + x'.depths.ifs) × (x.depths.ifs ≤ r.opens.depths.ifs)
  loops : (r'.opens.depths.loops + x.depths.loops ≡ r.opens.depths.loops + x'.depths.loops) × (x.depths.loops ≤ r.opens.depths.loops)

-- the deepest of two that are allowed is allowed
pub under_both : (R : Rules) (d e : Depths) → Under R d → Under R e → Under R (deepest d e)
under_both R d e h g = (max-le h.0 g.0, max-le h.1 g.1, max-le h.2 g.2)

abbrev pub Below : Depths → Depths → Type 0
Below d e = (d.calls ≤ e.calls) × (d.ifs ≤ e.ifs) × (d.loops ≤ e.loops)

-- room for a region is room for its parts
part_room : (R : Rules) {f : ℕ} {x x' : Opens} {w w' : ℕ} {r r' : Part} (d e : Depths) → Shift f x x' w w' r r' → Over d r.opens.depths → Below d e → Room R x'.depths (beyond e x.depths) → Room R r'.opens.depths (beyond d r.opens.depths)
part_room R d e s o b h = (omega (arith, s.calls, o, b, h), omega (arith, s.ifs, o, b, h), omega (arith, s.loops, o, b, h))

-- a LOOP's body weighs as often as its turns are counted; a called region weighs no more
abbrev turns_of : Rules → Control → ℕ
turns_of R Unknown = 1
turns_of R Plain = 1
turns_of R Emit = 1
turns_of R End = 1
turns_of R (Break c) = 1
turns_of R (If c dst num) = 1
turns_of R (Loop q dst) = R.turns q
turns_of R (Call c dst num) = 1
turns_of R (Jump c dst num) = 1

record OneAsked (C : Code) (R : Rules) (x x' : Opens) (w w' p E : ℕ) (r : Part) (next : WordAddress) : Type 0 where
  part : Part
  shift : Shift (turns_of R (C.control p)) x x' w w' r part
  asks : given (One part next) ≡ look_of C R x' w' p E

record TwoAsked (C : Code) (R : Rules) (x x' : Opens) (w w' p E : ℕ) (r : Part) (next : WordAddress) : Type 0 where
  first : Part
  shift : Shift 1 x x' w w' r first
  asks : given (Two first next) ≡ look_of C R x' w' p E

module _ (C : Code) (R : Rules) (x x' : Opens) (w w' p E : ℕ) (same-loop : x'.looped ≡ x.looped) (d : Depths) (room : Room R x'.depths (beyond d x.depths)) where
  look_one : {r : Part} {next : WordAddress} → Over d r.opens.depths → given (One r next) ≡ look_of C R x w p E → OneAsked C R x x' w w' p E r next
  unfolding look_of fault_at
  look_one {r} {next} over e = by (fault_at C R x p E) refl e
    where
      on : (i : Control) → C.control p ≡ i → Passed C R i x p E → given (One r next) ≡ given (parts_of R i x w p) → OneAsked C R x x' w w' p E r next
      on Unknown z o g = apart (cc)
      on Plain z o g = apart (cc)
      on Emit z o g = apart (cc)
      on End z o g = apart (cc)
      on (Break c) z o g = apart (cc)
      on (If c dst num) z o g = apart (cc)
      on (Loop q dst) z o g =
          let same : r ≡ part_of (in_loop x) (w * R.turns q) (p + 1) (dst.0 + 1) = cc in
          let n : next ≡ word_address (dst.0 + 1) = cc in
          let deep : Over d (in_loop x).depths = rw same at over in
          record {
            part = part_of (in_loop x') (w' * R.turns q) (p + 1) (dst.0 + 1);
            shift = rw (z, same) (record { weight = refl; from = refl; to = refl; looped = refl; calls = (omega arith, omega arith); ifs = (omega arith, omega arith); loops = (omega arith, omega arith) });
            asks = rw (z, n, o.bounds, lt-leb R.loops x'.depths.loops (omega (arith, deep, room)));
          }
      on (Call c dst num) z o g =
          let same : r ≡ part_of (in_call x) w dst.0 (dst.0 + num) = cc in
          let n : next ≡ word_address (p + 1) = cc in
          let deep : Over d (in_call x).depths = rw same at over in
          record {
            part = part_of (in_call x') w' dst.0 (dst.0 + num);
            shift = rw (z, same) (record { weight = omega arith; from = refl; to = refl; looped = refl; calls = (omega arith, omega arith); ifs = (omega arith, omega arith); loops = (omega arith, omega arith) });
            asks = rw (z, n, o.bounds, lt-leb R.calls x'.depths.calls (omega (arith, deep, room)));
          }
      on (Jump c dst num) z o g = apart (cc)

      by : (f : Fault) → fault_at C R x p E ≡ f → given (One r next) ≡ unless f (parts_of R (C.control p) x w p) → OneAsked C R x x' w w' p E r next
      by (At n q) f g = apart (cc)
      by Nothing f g = on (C.control p) refl (fault_none C R x p E f) g

  look_two : {r : Part} {next : WordAddress} → Over d r.opens.depths → given (Two r next) ≡ look_of C R x w p E → TwoAsked C R x x' w w' p E r next
  unfolding look_of fault_at
  look_two {r} {next} over e = by (fault_at C R x p E) refl e
    where
      on : (i : Control) → C.control p ≡ i → Passed C R i x p E → given (Two r next) ≡ given (parts_of R i x w p) → TwoAsked C R x x' w w' p E r next
      on Unknown z o g = apart (cc)
      on Plain z o g = apart (cc)
      on Emit z o g = apart (cc)
      on End z o g = apart (cc)
      on (Break c) z o g = apart (cc)
      on (If c dst num) z o g =
          let same : r ≡ part_of (in_if x) w (p + 1) dst.0 = cc in
          let n : next ≡ word_address (dst.0 + num) = cc in
          let deep : Over d (in_if x).depths = rw same at over in
          record {
            first = part_of (in_if x') w' (p + 1) dst.0;
            shift = rw same (record { weight = omega arith; from = refl; to = refl; looped = same-loop; calls = (omega arith, omega arith); ifs = (omega arith, omega arith); loops = (omega arith, omega arith) });
            asks = rw (z, n, o.bounds, lt-leb R.ifs x'.depths.ifs (omega (arith, deep, room)));
          }
      on (Loop q dst) z o g = apart (cc)
      on (Call c dst num) z o g = apart (cc)
      on (Jump c dst num) z o g = apart (cc)

      by : (f : Fault) → fault_at C R x p E ≡ f → given (Two r next) ≡ unless f (parts_of R (C.control p) x w p) → TwoAsked C R x x' w w' p E r next
      by (At n q) f g = apart (cc)
      by Nothing f g = on (C.control p) refl (fault_none C R x p E f) g

-- what a part weighs
module _ (C : Code) (R : Rules) (x : Opens) (w p E : ℕ) where
  one_weight : {r : Part} {next : WordAddress} → given (One r next) ≡ look_of C R x w p E → r.weight ≡ w * turns_of R (C.control p)
  unfolding look_of
  one_weight {r} {next} e = by (fault_at C R x p E) e
    where
      on : (i : Control) → given (One r next) ≡ given (parts_of R i x w p) → r.weight ≡ w * turns_of R i
      on Unknown g = apart (cc)
      on Plain g = apart (cc)
      on Emit g = apart (cc)
      on End g = apart (cc)
      on (Break c) g = apart (cc)
      on (If c dst num) g = apart (cc)
      on (Loop q dst) g = let same : r ≡ part_of (in_loop x) (w * R.turns q) (p + 1) (dst.0 + 1) = cc in rw same
      on (Call c dst num) g = let same : r ≡ part_of (in_call x) w dst.0 (dst.0 + num) = cc in rw same (omega arith)
      on (Jump c dst num) g = apart (cc)

      by : (f : Fault) → given (One r next) ≡ unless f (parts_of R (C.control p) x w p) → r.weight ≡ w * turns_of R (C.control p)
      by (At n q) g = apart (cc)
      by Nothing g = on (C.control p) g

  two_weight : {r : Part} {next : WordAddress} → given (Two r next) ≡ look_of C R x w p E → r.weight ≡ w
  unfolding look_of
  two_weight {r} {next} e = by (fault_at C R x p E) e
    where
      on : (i : Control) → given (Two r next) ≡ given (parts_of R i x w p) → r.weight ≡ w
      on Unknown g = apart (cc)
      on Plain g = apart (cc)
      on Emit g = apart (cc)
      on End g = apart (cc)
      on (Break c) g = apart (cc)
      on (If c dst num) g = let same : r ≡ part_of (in_if x) w (p + 1) dst.0 = cc in rw same
      on (Loop q dst) g = apart (cc)
      on (Call c dst num) g = apart (cc)
      on (Jump c dst num) g = apart (cc)

      by : (f : Fault) → given (Two r next) ≡ unless f (parts_of R (C.control p) x w p) → r.weight ≡ w
      by (At n q) g = apart (cc)
      by Nothing g = on (C.control p) g

-- the own words of a part before p, with total t and marks m after them: passed wherever they fit, at the
-- same cost
module _ (C : Code) (R : Rules) (part : Part) (before : ℕ) where
  abbrev X : Opens
  X = part.opens

  abbrev W : ℕ
  W = part.weight

  abbrev Z : ℕ
  Z = part.to.0

  pub record Prefix (p t : ℕ) (d : Depths) (m : List Bool) : Type 0 where
    pub cost : ℕ
    pub adds : t ≡ before + W * cost
    pub over : Over d X.depths
    pub under : Under R d
    pub again : (x : Opens) (w u : ℕ) (m' : List Bool) → x.looped ≡ X.looped → Room R x.depths (beyond d X.depths) → u + w * cost ≤ R.most → Covers m m'
        → scan_of C R (part_of x w p Z) (u + w * cost) m' ≡ scan_of C R (part_of x w part.from.0 Z) u m'

  pub prefix_none : (m : List Bool) → Under R X.depths → Prefix part.from.0 before X.depths m
  prefix_none m under =
      record {
        cost = 0;
        adds = omega arith;
        over = (omega arith, omega arith, omega arith);
        under = under;
        again = λ x w u m' same room fits c. let z : u + w * 0 ≡ u = omega arith in rw z;
      }

  module _ (h : Z ≤ C.words) {p t : ℕ} {d : Depths} {m : List Bool} (f : Prefix p t d m) where
    -- all of it
    pub prefix_end : Z ≤ p → Left C R part before t d m
    prefix_end l =
        record {
          cost = f.cost;
          adds = f.adds;
          over = f.over;
          under = f.under;
          passes = record {
            again = λ x w u m' same room fits c.
                sym (f.again x w u m' same room fits c) ∙ sym (scan_end C R (part_of x w p Z) p (u + w * f.cost) m' h l);
          };
        }

    module _ (l : p < Z) (n : p < length m) where
      pub prefix_next : given Next ≡ look_of C R X W p Z → Prefix (p + 1) (t + W) d (set m p true)
      prefix_next e =
          record {
            cost = f.cost + 1;
            adds = omega (arith, f.adds);
            over = f.over;
            under = f.under;
            again = λ x w u m' same room fits c.
                let sum : u + w * (f.cost + 1) ≡ u + w * f.cost + w = omega arith in
                let step = scan_next C R (part_of x w p Z) p (u + w * f.cost) m' h l (omega arith) (look_next C R X x W w p Z same e) in
                let there = ap (λ y. scan_of C R (part_of x w (p + 1) Z) (u + w * f.cost + w) y) (sym (marked m m' p n c)) in
                rw sum (there ∙ step ∙ f.again x w u m' same room (omega arith) (covers_trans (covers_set m p) c));
          }

      -- a region that was passed, in other surroundings of its part
      passed_there : {r r' : Part} {f : ℕ} {x : Opens} {w q e k : ℕ} {m₁ : List Bool} (d₁ d₂ : Depths) (u : ℕ) (m' : List Bool) → Shift f X x W w r r' → Over d₁ r.opens.depths → Passes C R r.opens.looped q e k (beyond d₁ r.opens.depths) m₁
          → Below d₁ d₂ → Room R x.depths (beyond d₂ X.depths) → u + r'.weight * k ≤ R.most → Covers m₁ m' → scanned (given (u + r'.weight * k)) m' ≡ scan_of C R (part_of r'.opens r'.weight q e) u m'
      passed_there {r' = r'} d₁ d₂ u m' s over g below room fits c = sym (g.again r'.opens r'.weight u m' s.looped (part_room R d₁ d₂ s over below room) fits c)

      deep_left : (d₀ d₁ : Depths) → Below d₀ (deepest d₀ d₁)
      deep_left d₀ d₁ = (le-max_left d₀.calls d₁.calls, le-max_left d₀.ifs d₁.ifs, le-max_left d₀.loops d₁.loops)

      deep_right : (d₀ d₁ : Depths) → Below d₁ (deepest d₀ d₁)
      deep_right d₀ d₁ = (le-max_right d₀.calls d₁.calls, le-max_right d₀.ifs d₁.ifs, le-max_right d₀.loops d₁.loops)

      -- room for the deeper is room for the less deep
      less_room : (x : Depths) (d₁ e : Depths) → Below d₁ e → Room R x (beyond e X.depths) → Room R x (beyond d₁ X.depths)
      less_room x d₁ e b h = (omega (arith, b, h), omega (arith, b, h), omega (arith, b, h))

      over_more : (d₁ e : Depths) (y : Depths) → Over d₁ y → Below d₁ e → Over e y
      over_more d₁ e y o b = (omega (arith, o, b), omega (arith, o, b), omega (arith, o, b))

      pub prefix_one : {r : Part} {next : WordAddress} {t₁ : ℕ} {d₁ : Depths} {m₁ : List Bool} → given (One r next) ≡ look_of C R X W p Z → Left C R r (t + W) t₁ d₁ m₁ → Covers (set m p true) m₁
          → Prefix next.0 t₁ (deepest d d₁) m₁
      prefix_one {r} {next} {t₁} {d₁} {m₁} e g grown =
          let deep = deepest d d₁ in
          record {
            cost = f.cost + 1 + turns_of R (C.control p) * g.cost;
            adds = omega (arith, f.adds, g.adds, ap (λ y. y * g.cost) (one_weight C R X W p Z e));
            over = over_more d deep X.depths f.over (deep_left d d₁);
            under = under_both R d d₁ f.under g.under;
            again = λ x w u m' same room fits c.
                let o = look_one C R X x W w p Z same deep room (over_more d₁ deep r.opens.depths g.over (deep_right d d₁)) e in
                let s = o.shift in
                let v = u + w * f.cost in
                let weigh : o.part.weight * g.cost ≡ w * (turns_of R (C.control p) * g.cost) = ap (λ y. y * g.cost) s.weight ∙ mul_assoc w (turns_of R (C.control p)) g.cost in
                let sum : u + w * (f.cost + 1 + turns_of R (C.control p) * g.cost) ≡ v + w + o.part.weight * g.cost = omega (arith, weigh) in
                let there : scanned (given (v + w + o.part.weight * g.cost)) m' ≡ scan_of C R o.part (v + w) m' = rw (s.from, s.to) (passed_there d₁ deep (v + w) m' s g.over g.passes (deep_right d d₁) room (omega (arith, sum)) c) in
                let marks = ap (λ y. scan_of C R o.part (v + w) y) (sym (marked m m' p n (covers_trans grown c))) in
                let step = scan_one C R (part_of x w p Z) p v m' h l (omega (arith, sum)) o.asks (there ∙ marks) refl in
                rw sum (step ∙ f.again x w u m' same (less_room x.depths d deep (deep_left d d₁) room) (omega (arith, sum)) (covers_trans (covers_set m p) (covers_trans grown c)));
          }

      pub prefix_two : {r : Part} {next : WordAddress} {t₁ : ℕ} {d₁ : Depths} {m₁ : List Bool} → given (Two r next) ≡ look_of C R X W p Z → LeftBoth C R r next (t + W) t₁ d₁ m₁ → Covers (set m p true) m₁
          → Prefix next.0 t₁ (deepest d d₁) m₁
      prefix_two {r} {next} {t₁} {d₁} {m₁} e g grown =
          let deep = deepest d d₁ in
          let q = g.passes in
          record {
            cost = f.cost + 1 + g.cost;
            adds = omega (arith, f.adds, g.adds, ap (λ y. y * g.cost) (two_weight C R X W p Z e));
            over = over_more d deep X.depths f.over (deep_left d d₁);
            under = under_both R d d₁ f.under g.under;
            again = λ x w u m' same room fits c.
                let o = look_two C R X x W w p Z same deep room (over_more d₁ deep r.opens.depths g.over (deep_right d d₁)) e in
                let v = u + w * f.cost in
                let w₁ = o.first.weight in
                let weigh : w₁ * q.first ≡ w * q.first = ap (λ y. y * q.first) o.shift.weight ∙ omega arith in
                let weigh' : w₁ * q.second ≡ w * q.second = ap (λ y. y * q.second) o.shift.weight ∙ omega arith in
                let sum : u + w * (f.cost + 1 + g.cost) ≡ v + w + w₁ * q.first + w₁ * q.second = omega (arith, weigh, weigh', ap (λ y. w * y) q.sum) in
                let there : scanned (given (v + w + w₁ * q.first)) m' ≡ scan_of C R o.first (v + w) m' = rw (o.shift.from, o.shift.to) (passed_there d₁ deep (v + w) m' o.shift g.over q.before (deep_right d d₁) room (omega (arith, sum)) c) in
                let there' : scanned (given (v + w + w₁ * q.first + w₁ * q.second)) m' ≡ scan_of C R (after_part o.first next) (v + w + w₁ * q.first) m' = rw o.shift.to (passed_there d₁ deep (v + w + w₁ * q.first) m' o.shift g.over q.after (deep_right d d₁) room (omega (arith, sum)) c) in
                let marks = ap (λ y. scan_both C R o.first next (v + w) y) (sym (marked m m' p n (covers_trans grown c))) in
                let step = scan_two C R (part_of x w p Z) p v m' h l (omega (arith, sum)) o.asks (both_go C R o.first next (v + w) m' there refl there' ∙ marks) refl in
                rw sum (step ∙ f.again x w u m' same (less_room x.depths d deep (deep_left d d₁) room) (omega (arith, sum)) (covers_trans (covers_set m p) (covers_trans grown c)));
          }
