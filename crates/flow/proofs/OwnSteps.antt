-- Own words one after another: what the search for a word among them uses. Assumes nothing.
use mathlib.Core.Path.{◌≡◌, refl}
use mathlib.Core.Bool.{Bool, true, false}
use mathlib.Core.List.{[], ◌∷◌}
use Rattle.std.specs.Prelude.{Some, None}
use Prim.Native.Nat.{ℕ, zero, suc, ◌+◌, ◌-◌, ◌<◌, ◌≤◌}
use native.Mathlib.Omega.{arith}
use lib.Dec.{ltb, eqb}
use borrow.Author.Tests.{ltb-true, eqb-true, eqb-false, lt-ltb, eq-eqb, ne_eqb}
use Rattle.instruction.specs.Control.{is_block}
use Rattle.instruction.specs.declared.flow_control.Control.{Control}
use Rattle.instruction.specs.declared.flow_control.Control.TheVariants.{Unknown, Plain, Emit, End, Break, If, Loop, Call, Jump}
use Rattle.flow.specs.Inside.{after_of}
use Rattle.flow.specs.Own.{next_of, spans, own_from, own_words, has}
use Rattle.flow.specs.Rules.{Code, pick}
use Rattle.flow.proofs.Depth.{spans_in, own_eq}
use Rattle.flow.proofs.Tests.{true_not_false}

pub at_of : (b : Bool) {n m : ℕ} → pick b (Some n) None ≡ Some m → (b ≡ true) × (m ≡ n)
at_of true e = (refl, cc)
at_of false e = absurd (let z : ◌≡◌ {A = ℕ} 0 1 = cc in omega arith)

pub stop_of : (b : Bool) (n : ℕ) → pick b (Some n) None ≡ None → b ≡ false
stop_of true n e = absurd (let z : ◌≡◌ {A = ℕ} 0 1 = cc in omega arith)
stop_of false n e = refl

own_none_to : (C : Code) (n p E d : ℕ) → (p ≤ d → E ≤ d) → false ≡ has (own_from C n p E) d
unfolding own_from
own_none_to C zero p E d h = refl
own_none_to C (suc n) p E d h = by (ltb p E) refl (own_none_to C n (next_of (C.control p) p) E d)
  where
    by : (b : Bool) → ltb p E ≡ b → ((next_of (C.control p) p ≤ d → E ≤ d) → false ≡ has (own_from C n (next_of (C.control p) p) E) d)
        → false ≡ has (pick b (p ∷ pick (spans (C.control p) p E) (own_from C n (next_of (C.control p) p) E) []) []) d
    by false y ih = refl
    by true y ih =
        let l = ltb-true p E y in
        rw (ne_eqb p d (λ e. omega (arith, h (omega arith)))) (on (spans (C.control p) p E) refl)
      where
        on : (s : Bool) → spans (C.control p) p E ≡ s → false ≡ has (pick s (own_from C n (next_of (C.control p) p) E) []) d
        on false g = refl
        on true g = ih (λ q. h (omega (arith, spans_in (C.control p) p E (ltb-true p E y) g)))

module _ (C : Code) (p E d : ℕ) where
  -- own words ascend and are in the region: before p and from the end on there are none
  pub own_none : (p ≤ d → E ≤ d) → false ≡ has (own_words C p E) d
  unfolding own_words
  own_none h = own_none_to C (E - p) p E d h

  pub own_here : p < E → p ≡ d → true ≡ has (own_words C p E) d
  own_here l e = rw (own_eq C p E, lt-ltb p E l, eq-eqb p d e)

  pub own_next : p < E → (p ≡ d → ⊥) → {n : ℕ} → after_of (C.control p) p E ≡ Some n → has (own_words C p E) d ≡ has (own_words C n E) d
  own_next l n e =
      let (s, z) = at_of (spans (C.control p) p E) {n = next_of (C.control p) p} e in
      rw (own_eq C p E, lt-ltb p E l, ne_eqb p d n, s, z)

  pub own_last : p < E → (p ≡ d → ⊥) → after_of (C.control p) p E ≡ None → false ≡ has (own_words C p E) d
  own_last l n e = rw (own_eq C p E, lt-ltb p E l, ne_eqb p d n, stop_of (spans (C.control p) p E) (next_of (C.control p) p) e)

  -- where the search ends
  pub own_reached : d ≤ p → d < E → eqb p d ≡ has (own_words C p E) d
  own_reached l h = by (eqb p d) refl
    where
      by : (b : Bool) → eqb p d ≡ b → b ≡ has (own_words C p E) d
      by true e = let q = eqb-true p d e in own_here (omega arith) q
      by false e = own_none (λ g. absurd (eqb-false p d e (omega arith)))

-- after a word that is no block comes the next word
pub after_no_block : (i : Control) (p E : ℕ) → is_block i ≡ false → after_of i p E ≡ Some (p + 1)
after_no_block Unknown p E e = refl
after_no_block Plain p E e = refl
after_no_block Emit p E e = refl
after_no_block End p E e = refl
after_no_block (Break c) p E e = refl
after_no_block (If c dst num) p E e = absurd (true_not_false e)
after_no_block (Loop r dst) p E e = absurd (true_not_false e)
after_no_block (Call c dst num) p E e = refl
after_no_block (Jump c dst num) p E e = refl
