-- Laws of the open regions in an array: arriving at a word, leaving a LOOP. Assumes nothing.
use Rattle.std.proofs.Common.{◌≡◌, refl, sym, ap, ◌∙◌, Bool, true, false, not, ◌&&◌, List, [], ◌∷◌, ◌⊎◌, inl, inr, ℕ, zero, suc, ◌+◌, ◌-◌, ◌≤◌, ◌<◌, arith, length, get_or, set, take, reverse, Some, None}
use Rattle.std.proofs.lemmas.List.{get_or-take, take_more, take_more_set, reverse-append}
use lib.Dec.{eqb, ltb}
use borrow.Author.Tests.{lt-ltb, le-ltb, eq-eqb, ne_eqb}
use Rattle.walk.specs.Inside.{frame, standing, closing, repeats, leaving}
use Rattle.walk.specs.declared.frames.After.TheVariants.{GoOn, Turns}
use Rattle.walk.specs.declared.frames.Frame.{Frame}

-- the first n of an array, the last of them innermost
abbrev pub opened : List Frame → ℕ → List Frame
opened fs n = reverse (take n fs)

abbrev pub none : Frame
none = frame 0 (GoOn 0)

module _ (fs : List Frame) (n : ℕ) (some : 0 < n) (room : n ≤ length fs) where
  abbrev top : Frame
  top = get_or fs (n - 1) none

  last : n - 1 + 1 ≡ n
  last = omega arith

  inside : n - 1 < length fs
  inside = omega arith

  split : opened fs n ≡ top ∷ opened fs (n - 1)
  split = ap reverse (rw last at (take_more fs (n - 1) none inside)) ∙ reverse-append (take (n - 1) fs) (top ∷ [])

  split_set : (f : Frame) → opened (set fs (n - 1) f) n ≡ f ∷ opened fs (n - 1)
  split_set f = ap reverse (rw last at (take_more_set fs (n - 1) f inside)) ∙ reverse-append (take (n - 1) fs) (f ∷ [])

  -- arriving: at another word than the innermost region's end; at the end of a region that goes on; at the
  -- end of a LOOP, with turns left or over
  module _ (p : ℕ) where
    pub arrives_inside : (p ≡ top.end → ⊥) → standing p (opened fs n) ≡ closing p (opened fs n)
    unfolding closing
    arrives_inside h = rw (split, ne_eqb p top.end h)

    pub arrives_past : {q : ℕ} → p ≡ top.end → top.after ≡ GoOn q → closing q (opened fs (n - 1)) ≡ closing p (opened fs n)
    unfolding closing
    arrives_past h a = rw (split, eq-eqb p top.end h, a)

    module _ {s k : ℕ} (h : p ≡ top.end) (a : top.after ≡ Turns s k) where
      pub arrives_again : 0 < k → (s ≡ p → ⊥) → standing s (opened (set fs (n - 1) (frame top.end (Turns s (k - 1)))) n) ≡ closing p (opened fs n)
      unfolding closing
      arrives_again l g = rw (split, split_set (frame top.end (Turns s (k - 1))), eq-eqb p top.end h, a, lt-ltb 0 k l, ne_eqb s top.end (λ e. g (e ∙ sym h)))

      pub arrives_over : ((0 < k) × (s ≡ p)) ⊎ (k ≤ 0) → closing p (opened fs (n - 1)) ≡ closing p (opened fs n)
      unfolding closing
      arrives_over o = rw (split, eq-eqb p top.end h, a, over o, h)
        where
          neither : (b : Bool) → (b && not true) ≡ false
          neither true = refl
          neither false = refl

          over : ((0 < k) × (s ≡ p)) ⊎ (k ≤ 0) → (ltb 0 k && not (eqb s top.end)) ≡ false
          over (inr l) = ap (λ b. b && not (eqb s top.end)) (le-ltb 0 k l)
          over (inl e) = ap (λ b. ltb 0 k && not b) (eq-eqb s top.end (e.1 ∙ h)) ∙ neither (ltb 0 k)

  -- leaving: at a LOOP; at another region
  pub leaves_here : repeats top.after ≡ true → Some (standing top.end (opened fs (n - 1))) ≡ leaving (opened fs n)
  unfolding leaving
  leaves_here h = rw (split, h)

  pub leaves_on : repeats top.after ≡ false → leaving (opened fs (n - 1)) ≡ leaving (opened fs n)
  unfolding leaving
  leaves_on h = rw (split, h)

-- leaving the LOOP at i, with d regions inside it
leaves_in : (fs : List Frame) (i d n : ℕ) → n ≡ i + 1 + d → n ≤ length fs → repeats (get_or fs i none).after ≡ true
    → ((k : ℕ) → i < k → k < n → repeats (get_or fs k none).after ≡ false) → Some (standing (get_or fs i none).end (opened fs i)) ≡ leaving (opened fs n)
leaves_in fs i zero n e room h f =
    let z : i ≡ n - 1 = omega (arith, e) in
    rw z (leaves_here fs n (omega (arith, e)) room (rw z at h))
leaves_in fs i (suc d) n e room h f =
    leaves_in fs i d (n - 1) (omega (arith, e)) (omega (arith, room)) h (λ k l m. f k l (omega (arith, m)))
    ∙ leaves_on fs n (omega (arith, e)) room (f (n - 1) (omega (arith, e)) (omega (arith, e)))

module _ (fs : List Frame) (n : ℕ) (room : n ≤ length fs) where
  pub leaves_at : (i : ℕ) → i < n → repeats (get_or (take n fs) i none).after ≡ true
      → ((k : ℕ) → i < k → k < n → repeats (get_or (take n fs) k none).after ≡ false)
      → Some (standing (get_or (take n fs) i none).end (opened fs i)) ≡ leaving (opened fs n)
  leaves_at i l h f =
      let here = get_or-take n fs i none l in
      rw here (leaves_in fs i (n - (i + 1)) n (omega arith) room (rw here at h) (λ k m p. rw (get_or-take n fs k none p) at (f k m p)))

leaves_not : (fs : List Frame) (n : ℕ) → n ≤ length fs → ((k : ℕ) → k < n → repeats (get_or fs k none).after ≡ false) → None ≡ leaving (opened fs n)
unfolding leaving
leaves_not fs zero room f = refl
leaves_not fs (suc n) room f =
    let z : suc n - 1 ≡ n = omega arith in
    leaves_not fs n (omega (arith, room)) (λ k l. f k (omega (arith, l))) ∙ rw z at (leaves_on fs (suc n) (omega arith) room (f (suc n - 1) (omega arith)))

pub leaves_none : (fs : List Frame) (n : ℕ) → n ≤ length fs → ((k : ℕ) → k < n → repeats (get_or (take n fs) k none).after ≡ false) → None ≡ leaving (opened fs n)
leaves_none fs n room f = leaves_not fs n room (λ k l. rw (get_or-take n fs k none l) at (f k l))

pub arrives_none : (fs : List Frame) (n p : ℕ) → n ≤ 0 → standing p (opened fs n) ≡ closing p (opened fs n)
unfolding closing
arrives_none fs zero p z = refl
arrives_none fs (suc n) p z = absurd (omega arith)
