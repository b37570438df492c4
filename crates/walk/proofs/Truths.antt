-- Laws of the settings: the truth list, and the bytes x. Assumes nothing.
use mathlib.Core.Path.{◌≡◌, refl, ap, ◌∙◌}
use mathlib.Core.Bool.{Bool, false}
use mathlib.Core.List.{List, [], ◌∷◌}
use Prim.Native.Nat.{ℕ, zero, suc, ◌+◌}
use native.Mathlib.Omega.{arith}
use lib.ListN.{get_or, drop}
use Rattle.std.proofs.lemmas.List.{get_or-drop}
use Rattle.flow.specs.Stepping.{Settings, holds, reads}
use Rattle.instruction.specs.declared.flow_control.Condition.{Condition}
use Rattle.instruction.specs.declared.flow_control.Condition.TheVariants.{Always, Compared, Uniform}
use Rattle.walk.specs.Inside.{truth_of, left_by}
use Rattle.walk.specs.Walk.{non_zero, truths_in}

-- false past the list's end
pub truth_at : (l : List ℕ) (n : ℕ) → non_zero (get_or l n 0) ≡ get_or (truths_in l) n false
truth_at [] n = refl
truth_at (b ∷ l) zero = refl
truth_at (b ∷ l) (suc n) = truth_at l n

-- the outcomes that are left after so many
abbrev pub Left : Settings → ℕ → List ℕ → Type 0
Left v n l = truths_in l ≡ drop n v.truths

pub truth_is : (v : Settings) (c : Condition) (n : ℕ) (l : List ℕ) → Left v n l → truth_of v c l ≡ holds v c n
truth_is v Always n l h = refl
truth_is v Compared n l h =
    let z : n + 0 ≡ n = omega arith in
    truth_at l 0 ∙ ap (λ k. get_or k 0 false) h ∙ rw z at (get_or-drop n v.truths 0 false)
truth_is v (Uniform b) n l h = refl

rest_truths : (l : List ℕ) → truths_in (drop 1 l) ≡ drop 1 (truths_in l)
rest_truths [] = refl
rest_truths (b ∷ l) = refl

rest_more : (ts : List Bool) (n : ℕ) → drop 1 (drop n ts) ≡ drop (suc n) ts
rest_more [] zero = refl
rest_more [] (suc n) = refl
rest_more (t ∷ ts) zero = refl
rest_more (t ∷ ts) (suc n) = rest_more ts n

pub left_is : (v : Settings) (c : Condition) (n : ℕ) (l : List ℕ) → Left v n l → Left v (reads c n) (left_by c l)
left_is v Always n l h = h
left_is v Compared n l h = rest_truths l ∙ ap (drop 1) h ∙ rest_more v.truths n
left_is v (Uniform b) n l h = h
