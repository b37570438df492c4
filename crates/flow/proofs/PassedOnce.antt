-- A region that the check passes once, with some opens, weight, total and marks, is passed with any others
-- that fit, at the same cost, and adds no mark where its words are marked: over any
-- rules. proofs/PassedAnywhere.antt has it for any marks.
-- Assumes nothing.
use mathlib.Core.Path.{◌≡◌, refl, sym, ap, ◌∙◌}
use mathlib.Core.Bool.{Bool, true, false}
use mathlib.Core.List.{List, [], ◌∷◌}
use Prim.Native.Nat.{ℕ, zero, suc, ◌+◌, ◌-◌, ◌≤◌, ◌<◌}
use native.Mathlib.Nat.{max-le}
use native.Mathlib.Omega.{arith}
use lib.Dec.{ltb}
use lib.ListN.{length, set, length-set}
use borrow.Author.Tests.{ltb-true, ltb-false}
use Rattle.answer.specs.Answers.{Answer, given, refused}
use Rattle.answer.specs.Faults.{Fault}
use Rattle.answer.specs.Faults.{Nothing, At}
use Rattle.binary.specs.declared.WordAddress.{WordAddress}
use Rattle.flow.specs.Inside.{part_of, look_of, Scanned, scanned, stop_or, replay, scan_of, after_part, Under, Covers, Left, deepest}
use Rattle.flow.specs.Rules.{Code, Rules, pick}
use Rattle.flow.specs.Visits.{Visit, fault_at, size, trace}
use Rattle.flow.specs.declared.look.Look.{Look}
use Rattle.flow.specs.declared.look.Look.TheVariants.{Next, One, Two}
use Rattle.flow.specs.declared.look.Opens.{Opens}
use Rattle.flow.specs.declared.look.Part.{Part}
use Rattle.flow.specs.declared.depths.Depths.{Depths}
use Rattle.flow.proofs.EachVisit.{trace_of, unstopped, each_here, each_at}
use Rattle.flow.proofs.Looks.{later, fits_at}
use Rattle.flow.proofs.Passing.{Below, covers_self, covers_trans, covers_set, Prefix, prefix_none, prefix_next, prefix_one, prefix_two, prefix_end}
use Rattle.flow.proofs.Remembering.{both_left}
use Rattle.flow.proofs.Replay.{scan_end, scan_27, scan_refuse, scan_next, scan_one_stop, scan_one, scan_two_stop, scan_two, both_stop, both_go}
use Rattle.flow.proofs.Tests.{apart}
use Rattle.flow.proofs.Weights.{Each}

below_both : (d e top : Depths) → Below d top → Below e top → Below (deepest d e) top
below_both d e top a b = (max-le a.0 b.0, max-le a.1 b.1, max-le a.2 b.2)

module _ (C : Code) (R : Rules) where
  -- visits add to the marks
  record Grown (m m' : List Bool) : Type 0 where
    covers : Covers m m'
    long : length m' ≡ length m

  replay_grows : (vs : List Visit) (t : ℕ) (m : List Bool) → Grown m (replay C R vs t m).marks
  unfolding replay
  replay_grows [] t m = record { covers = covers_self m; long = refl }
  replay_grows (v ∷ vs) t m =
      by (ltb R.most (t + v.weight)) (fault_at C R v.opens v.word v.end) (replay C R vs (t + v.weight) (set m v.word true)) (replay_grows vs (t + v.weight) (set m v.word true))
    where
      by : (over : Bool) (f : Fault) (rest : Scanned) → Grown (set m v.word true) rest.marks
          → Grown m (pick over (scanned (refused 27 v.word) m) (stop_or f (set m v.word true) rest)).marks
      by true f rest g = record { covers = covers_self m; long = refl }
      by false (At k q) rest g = record { covers = covers_set m v.word; long = length-set m v.word true }
      by false Nothing rest g = record { covers = covers_trans (covers_set m v.word) g.covers; long = g.long ∙ length-set m v.word true }

  part_grows : (r : Part) (t : ℕ) (m : List Bool) → Grown m (scan_of C R r t m).marks
  part_grows r t m = replay_grows _ t m

  -- no more is open at a visit than this
  abbrev pub Within : Depths → Visit → Type 0
  Within top v = Below v.opens.depths top

  -- what is found of a part that is passed: its cost and its depths, which are no more than the most that is
  -- open around it and at its visits, and that it is passed wherever these fit
  pub record Found (part : Part) (before after : ℕ) (m : List Bool) : Type 0 where
    pub depths : Depths
    pub left : Left C R part before after depths m
    pub least : (top : Depths) → Below part.opens.depths top → Each (Within top) (trace_of C R part).visits → Below depths top

  abbrev Known : ℕ → Type 0
  Known n =
      (part : Part) (t : ℕ) (m : List Bool) (t₁ : ℕ) (m₁ : List Bool) → size C R part.opens part.from.0 part.to.0 < n → part.to.0 ≤ C.words → C.words ≤ length m → Under R part.opens.depths
      → scanned (given t₁) m₁ ≡ scan_of C R part t m → Found part t t₁ m₁

  -- a scan that goes on is not one that stops
  not_stopped : {A : Type 0} {t₁ : ℕ} {m₁ m₂ : List Bool} {k q : ℕ} {s : Answer ℕ} → scanned (given t₁) m₁ ≡ scanned s m₂ → s ≡ refused k q → A
  not_stopped e z = let f = ap (λ (y : Scanned). y.flow) e in apart (cc)

  -- own word by own word
  module _ (n : ℕ) (known : Known n) (part : Part) (before : ℕ) (small : size C R part.opens part.from.0 part.to.0 < suc n) (h : part.to.0 ≤ C.words) (under : Under R part.opens.depths)
      (t₁ : ℕ) (m₁ : List Bool) where
    abbrev X : Opens
    X = part.opens

    abbrev W : ℕ
    W = part.weight

    abbrev E : ℕ
    E = part.to.0

    -- up to the own word q the depths d are not above what bounds the visits, and it bounds those that are
    -- left
    record Reached (top : Depths) (q : ℕ) (d : Depths) : Type 0 where
      deep : Below d top
      rest : Each (Within top) (trace C R X W q E).visits

    abbrev Bounds : ℕ → Depths → Type 0
    Bounds q d = (top : Depths) → Below X.depths top → Each (Within top) (trace_of C R part).visits → Reached top q d

    abbrev Onward : ℕ → Type 0
    Onward p =
        (q t : ℕ) (d : Depths) (m : List Bool) → p < E → p < q → C.words ≤ length m → Prefix C R part before q t d m → Bounds q d → scanned (given t₁) m₁ ≡ scan_of C R (part_of X W q E) t m → Found part before t₁ m₁

    module _ {p t : ℕ} {d : Depths} {m : List Bool} (from : part.from.0 ≤ p) (long : C.words ≤ length m) (f : Prefix C R part before p t d m)
        (bounds : Bounds p d) (e : scanned (given t₁) m₁ ≡ scan_of C R (part_of X W p E) t m) (onward : Onward p) where
      at_end : E ≤ p → Found part before t₁ m₁
      at_end l =
          let same = e ∙ sym (scan_end C R part p t m h l) in
          let flow = ap (λ (y : Scanned). y.flow) same in
          let total : t₁ ≡ t = cc in
          let marks : m₁ ≡ m = ap (λ (y : Scanned). y.marks) same in
          rw (total, marks) (record { depths = d; left = prefix_end C R part before h f l; least = λ top b a. (bounds top b a).deep })

      module _ (l : p < E) (u : t + W ≤ R.most) where
        abbrev m' : List Bool
        m' = set m p true

        here : p < length m
        here = omega arith

        long' : C.words ≤ length m'
        long' = omega (arith, length-set m p true)

        inner : (r : Part) {t₂ : ℕ} (t : ℕ) (m : List Bool) → size C R r.opens r.from.0 r.to.0 < size C R X p E → r.to.0 ≤ C.words → C.words ≤ length m → Under R r.opens.depths → (scan_of C R r t m).flow ≡ given t₂
            → Found r t t₂ (scan_of C R r t m).marks
        inner r {t₂} t m less within long y z =
            known r t m t₂ (scan_of C R r t m).marks (omega (arith, later C R X part.from.0 p E from)) within long y (ap (λ (s : Answer ℕ). scanned s (scan_of C R r t m).marks) (sym z))

        -- what the word and its parts leave of the bounds
        next_bounds : given Next ≡ look_of C R X W p E → Bounds (p + 1) d
        next_bounds g top b a = let s = bounds top b a in record { deep = s.deep; rest = each_at C R (Within top) X W p E l h s.rest g }

        one_bounds : {r : Part} {next : WordAddress} → given (One r next) ≡ look_of C R X W p E → r.to.0 ≤ C.words → (trace_of C R r).stopped ≡ false → {t₂ t₃ : ℕ} {m₂ : List Bool} (found : Found r t₂ t₃ m₂)
            → Bounds next.0 (deepest d found.depths)
        one_bounds {r} g within goes found top b a =
            let s = bounds top b a in
            let o = each_at C R (Within top) X W p E l h s.rest g in
            let here = each_here C R (Within top) r.opens r.weight r.from.0 r.to.0 o.some within o.inside in
            record { deep = below_both d found.depths top s.deep (found.least top here o.inside); rest = o.after goes }

        two_bounds : {r : Part} {next : WordAddress} → given (Two r next) ≡ look_of C R X W p E → r.to.0 ≤ C.words → (trace_of C R r).stopped ≡ false → (trace_of C R (after_part r next)).stopped ≡ false
            → {t₂ t₃ t₄ t₅ : ℕ} {m₂ m₃ : List Bool} (first : Found r t₂ t₃ m₂) (second : Found (after_part r next) t₄ t₅ m₃) → Bounds next.0 (deepest d (deepest first.depths second.depths))
        two_bounds {r} g within goes goes' first second top b a =
            let s = bounds top b a in
            let o = each_at C R (Within top) X W p E l h s.rest g in
            let here = each_here C R (Within top) r.opens r.weight r.from.0 r.to.0 o.some within o.inside in
            let parts = below_both first.depths second.depths top (first.least top here o.inside) (second.least top here (o.second goes)) in
            record { deep = below_both d (deepest first.depths second.depths) top s.deep parts; rest = o.after goes goes' }

        at_one : {r : Part} {next : WordAddress} → given (One r next) ≡ look_of C R X W p E → Found part before t₁ m₁
        at_one {r} {next} g = by (scan_of C R r (t + W) m').flow refl
          where
            by : (s : Answer ℕ) → (scan_of C R r (t + W) m').flow ≡ s → Found part before t₁ m₁
            by (refused k q) z = not_stopped (e ∙ sym (scan_one_stop C R part p t m h l u g refl z)) z
            by (given t₂) z =
                let fit = fits_at C R X W p E l h under g in
                let found = inner r (t + W) m' fit.0.smaller fit.0.within long' fit.0.under z in
                let grown = part_grows r (t + W) m' in
                onward next.0 t₂ (deepest d found.depths) _ l (omega (arith, fit.1)) (omega (arith, long', grown.long)) (prefix_one C R part before h f l here g found.left grown.covers) (one_bounds g fit.0.within (unstopped C R r (t + W) m' fit.0.within z) found) (e ∙ sym (scan_one C R part p t m h l u g refl z))

        at_two : {r : Part} {next : WordAddress} → given (Two r next) ≡ look_of C R X W p E → Found part before t₁ m₁
        at_two {r} {next} g = by (scan_of C R r (t + W) m').flow refl
          where
            second : (t₂ : ℕ) → (scan_of C R r (t + W) m').flow ≡ given t₂ → (s : Answer ℕ) → (scan_of C R (after_part r next) t₂ (scan_of C R r (t + W) m').marks).flow ≡ s → Found part before t₁ m₁
            second t₂ z (refused k q) z' = not_stopped (e ∙ sym (scan_two_stop C R part p t m h l u g (both_go C R r next (t + W) m' refl z refl) z')) z'
            second t₂ z (given t₃) z' =
                let fit = fits_at C R X W p E l h under g in
                let grown = part_grows r (t + W) m' in
                let grown' = part_grows (after_part r next) t₂ (scan_of C R r (t + W) m').marks in
                let one = inner r (t + W) m' fit.0.smaller fit.0.within long' fit.0.under z in
                let two = inner (after_part r next) t₂ (scan_of C R r (t + W) m').marks fit.1.smaller fit.1.within (omega (arith, long', grown.long)) fit.1.under z' in
                onward next.0 t₃ (deepest d (deepest one.depths two.depths)) _ l (omega (arith, fit.2)) (omega (arith, long', grown.long, grown'.long))
                (prefix_two C R part before h f l here g (both_left C R r next one.left two.left grown'.covers) (covers_trans grown.covers grown'.covers))
                (two_bounds g fit.0.within (unstopped C R r (t + W) m' fit.0.within z) (unstopped C R (after_part r next) t₂ (scan_of C R r (t + W) m').marks fit.1.within z') one two)
                (e ∙ sym (scan_two C R part p t m h l u g (both_go C R r next (t + W) m' refl z refl) z'))

            by : (s : Answer ℕ) → (scan_of C R r (t + W) m').flow ≡ s → Found part before t₁ m₁
            by (refused k q) z = not_stopped (e ∙ sym (scan_two_stop C R part p t m h l u g (both_stop C R r next (t + W) m' refl z) z)) z
            by (given t₂) z = second t₂ z (scan_of C R (after_part r next) t₂ (scan_of C R r (t + W) m').marks).flow refl

        at_look : (k : Answer Look) → k ≡ look_of C R X W p E → Found part before t₁ m₁
        at_look (refused k q) g = not_stopped (e ∙ sym (scan_refuse C R part p t m h l u g)) refl
        at_look (given Next) g = onward (p + 1) (t + W) d m' l (omega arith) long' (prefix_next C R part before h f l here g) (next_bounds g) (e ∙ sym (scan_next C R part p t m h l u g))
        at_look (given (One r next)) g = at_one g
        at_look (given (Two r next)) g = at_two g

      step : Found part before t₁ m₁
      step = by (ltb p E) refl
        where
          most : p < E → (b : Bool) → ltb R.most (t + W) ≡ b → Found part before t₁ m₁
          most l true z = not_stopped (e ∙ sym (scan_27 C R part p t m h l (ltb-true R.most (t + W) z))) refl
          most l false z = at_look l (ltb-false R.most (t + W) z) (look_of C R X W p E) refl

          by : (b : Bool) → ltb p E ≡ b → Found part before t₁ m₁
          by true z = most (ltb-true p E z) (ltb R.most (t + W)) refl
          by false z = at_end (ltb-false p E z)

    from_here_lem : (k p t : ℕ) (d : Depths) (m : List Bool) → E - p ≤ k → part.from.0 ≤ p → C.words ≤ length m → Prefix C R part before p t d m → Bounds p d → scanned (given t₁) m₁ ≡ scan_of C R (part_of X W p E) t m → Found part before t₁ m₁
    from_here_lem zero p t d m b from long f bounds e = step from long f bounds e (λ q t d m l. absurd (omega arith))
    from_here_lem (suc k) p t d m b from long f bounds e = step from long f bounds e (λ q t d m l o long f bounds e. from_here_lem k q t d m (omega arith) (omega arith) long f bounds e)

  known_to : (n : ℕ) → Known n
  known_to zero part t m t₁ m₁ small h long under e = absurd (omega arith)
  known_to (suc n) part t m t₁ m₁ small h long under e =
      from_here_lem n (known_to n) part t small h under t₁ m₁ part.to.0 part.from.0 t part.opens.depths m (omega arith) (omega arith) long (prefix_none C R part t m under)
      (λ top b a. record { deep = b; rest = a }) e

  -- the law: what is passed once costs the same and is passed wherever it fits (`Left`, `Passes`)
  pub passed_once : (part : Part) (t : ℕ) (m : List Bool) {t₁ : ℕ} {m₁ : List Bool} → part.to.0 ≤ C.words → C.words ≤ length m → Under R part.opens.depths → scanned (given t₁) m₁ ≡ scan_of C R part t m → Found part t t₁ m₁
  passed_once part t m h long under e = known_to (suc (size C R part.opens part.from.0 part.to.0)) part t m _ _ (omega arith) h long under e
