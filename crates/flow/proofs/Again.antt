-- A jump that goes on in one region goes on up to every end past its target, whatever is open: the target
-- need not be searched again. Assumes nothing.
use mathlib.Core.Path.{◌≡◌, refl}
use mathlib.Core.Bool.{Bool, true, false, ◌&&◌, ◌||◌}
use mathlib.Core.List.{List, [], ◌∷◌}
use Prim.Native.Nat.{ℕ, zero, suc, ◌+◌, ◌-◌, ◌≤◌, ◌<◌}
use native.Mathlib.Omega.{arith}
use lib.Dec.{leb, ltb, eqb}
use borrow.Author.Tests.{ltb-true, lt-ltb, le-leb, eqb-true}
use Rattle.answer.specs.Answers.{given}
use Rattle.instruction.specs.declared.flow_control.Control.{Control}
use Rattle.instruction.specs.declared.flow_control.Control.TheVariants.{Unknown, Plain, Emit, End, Break, If, Loop, Call, Jump}
use Rattle.flow.specs.Inside.{unless, parts_of, look_of, Reaches, Recalled, goes_on}
use Rattle.flow.specs.Own.{next_of, spans, own_from, own_words, has}
use Rattle.flow.specs.Rules.{Code, Rules, pick}
use Rattle.flow.specs.Visits.{fault_at}
use Rattle.flow.specs.declared.look.Look.TheVariants.{Next}
use Rattle.flow.specs.declared.look.Opens.{Opens}
use Rattle.flow.specs.declared.depths.Depths.{Depths}
use Rattle.flow.proofs.Depth.{spans_in}
use Rattle.flow.proofs.Tests.{false_not_true, both, either}

module _ (C : Code) where
  -- an own word is not before the first
  own_from_lem : (n p E d : ℕ) → has (own_from C n p E) d ≡ true → p ≤ d
  unfolding own_from
  own_from_lem zero p E d e = absurd (false_not_true e)
  own_from_lem (suc n) p E d e = by (ltb p E) refl e (own_from_lem n (next_of (C.control p) p) E d)
    where
      by : (b : Bool) → ltb p E ≡ b → has (pick b (p ∷ pick (spans (C.control p) p E) (own_from C n (next_of (C.control p) p) E) []) []) d ≡ true
          → (has (own_from C n (next_of (C.control p) p) E) d ≡ true → next_of (C.control p) p ≤ d) → p ≤ d
      by false y e ih = absurd (false_not_true e)
      by true y e ih = either (eqb p d) _ e (λ z. omega (arith, eqb-true p d z)) (λ z. on (spans (C.control p) p E) refl z)
        where
          on : (s : Bool) → spans (C.control p) p E ≡ s → has (pick s (own_from C n (next_of (C.control p) p) E) []) d ≡ true → p ≤ d
          on true g z = omega (arith, ih z, spans_in (C.control p) p E (ltb-true p E y) g)
          on false g z = absurd (false_not_true z)

  -- good bounds in a region are good in another that holds the next own word
  spans_again : (i : Control) (p E E' : ℕ) → spans i p E ≡ true → next_of i p ≤ E' → spans i p E' ≡ true
  spans_again Unknown p E E' e h = refl
  spans_again Plain p E E' e h = refl
  spans_again Emit p E E' e h = refl
  spans_again End p E E' e h = refl
  spans_again (Break c) p E E' e h = refl
  spans_again (If c dst num) p E E' e h =
      let (a, b) = both (leb (p + 2) dst.0) (leb (dst.0 + num) E) e in
      rw (a, le-leb (dst.0 + num) E' h)
  spans_again (Loop r dst) p E E' e h =
      let (a, b) = both (leb (p + 1) dst.0) (ltb dst.0 E) e in
      rw (a, lt-ltb dst.0 E' (omega arith))
  spans_again (Call c dst num) p E E' e h = refl
  spans_again (Jump c dst num) p E E' e h = refl

  -- an own word of a region is one of every region that holds it, from the same word on
  own_again_to : (n m p E E' d : ℕ) → has (own_from C n p E) d ≡ true → d < E' → E' - p ≤ m → has (own_from C m p E') d ≡ true
  unfolding own_from
  own_again_to zero m p E E' d e h k = absurd (false_not_true e)
  own_again_to (suc n) zero p E E' d e h k = absurd (omega (arith, own_from_lem (suc n) p E d e))
  own_again_to (suc n) (suc m) p E E' d e h k =
      let i = C.control p in
      let l : p < E' = omega (arith, own_from_lem (suc n) p E d e) in
      rw (lt-ltb p E' l) (by (ltb p E) refl e (λ z q. own_again_to n m (next_of i p) E E' d z h (omega arith)))
    where
      by : (b : Bool) → ltb p E ≡ b → has (pick b (p ∷ pick (spans (C.control p) p E) (own_from C n (next_of (C.control p) p) E) []) []) d ≡ true
          → (has (own_from C n (next_of (C.control p) p) E) d ≡ true → p < next_of (C.control p) p → has (own_from C m (next_of (C.control p) p) E') d ≡ true)
          → (eqb p d || has (pick (spans (C.control p) p E') (own_from C m (next_of (C.control p) p) E') []) d) ≡ true
      by false y e ih = absurd (false_not_true e)
      by true y e ih = first (eqb p d) e
        where
          on : (s : Bool) → spans (C.control p) p E ≡ s → has (pick s (own_from C n (next_of (C.control p) p) E) []) d ≡ true
              → has (pick (spans (C.control p) p E') (own_from C m (next_of (C.control p) p) E') []) d ≡ true
          on false g z = absurd (false_not_true z)
          on true g z =
              let s = spans_in (C.control p) p E (ltb-true p E y) g in
              let t = own_from_lem n (next_of (C.control p) p) E d z in
              rw (spans_again (C.control p) p E E' g (omega arith)) (ih z s.0)

          first : (b : Bool) → (b || has (pick (spans (C.control p) p E) (own_from C n (next_of (C.control p) p) E) []) d) ≡ true
              → (b || has (pick (spans (C.control p) p E') (own_from C m (next_of (C.control p) p) E') []) d) ≡ true
          first true z = refl
          first false z = on (spans (C.control p) p E) refl z

  own_again : (p E E' d : ℕ) → has (own_words C p E) d ≡ true → d < E' → has (own_words C p E') d ≡ true
  unfolding own_words
  own_again p E E' d e h = own_again_to (E - p) (E' - p) p E E' d e h (omega arith)

  -- a good jump's target is good up to every end past it
  pub jump_reaches : (p E dst : ℕ) → ltb p dst && (ltb dst E && has (own_words C (p + 1) E) dst) ≡ true → Reaches C p dst
  jump_reaches p E dst e =
      let (after, rest) = both (ltb p dst) _ e in
      let (within, own) = both (ltb dst E) _ rest in
      record { ahead = ltb-true p dst after; own = λ E' h. own_again (p + 1) E E' dst own h }

  -- what is told without the tests is what they tell
  module _ (R : Rules) (m : List Bool) (x : Opens) (w p E : ℕ) (found : Bool) (k : ℕ) (d : Depths) where
    pub goes_next : goes_on (C.control p) found E ≡ true → (found ≡ true → Recalled C R m (C.control p) p k d) → given Next ≡ look_of C R x w p E
    unfolding look_of fault_at
    goes_next e q = on (C.control p) refl e q
      where
        on : (i : Control) → C.control p ≡ i → goes_on i found E ≡ true → (found ≡ true → Recalled C R m i p k d) → given Next ≡ unless (fault_at C R x p E) (parts_of R (C.control p) x w p)
        on Unknown z g f = rw z
        on Plain z g f = rw z
        on End z g f = rw z
        on Emit z g f = absurd (false_not_true g)
        on (Break c) z g f = absurd (false_not_true g)
        on (If c dst num) z g f = absurd (false_not_true g)
        on (Loop r dst) z g f = absurd (false_not_true g)
        on (Call c dst num) z g f = absurd (false_not_true g)
        on (Jump c dst num) z g f =
            let (known, within) = both _ _ g in
            let j = f known in
            rw (z, lt-ltb p dst.0 j.ahead, within, j.own E (ltb-true dst.0 E within))
