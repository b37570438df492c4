-- Packing from the last part down: what the loop of `encoding::packed` keeps. Assumes nothing.
use mathlib.Core.Path.{◌≡◌, refl, sym, ap, ◌∙◌}
use mathlib.Core.Bool.{false, ◌&&◌}
use mathlib.Core.Logic.{◌⊎◌, ⊎_elim}
use mathlib.Core.List.{List, [], ◌∷◌}
use Prim.Native.Nat.{ℕ, suc, ◌+◌, ◌*◌, ◌%◌, ◌^◌, ◌<◌, ◌≤◌}
use native.Mathlib.Omega.{arith}
use lib.Dec.{ltb}
use lib.ListN.{length}
use Rattle.std.proofs.Common.{IsTrue, Some, None}
use Rattle.std.proofs.Common.{length-append}
use Rattle.std.proofs.Math.Nat.{mul-le-mul_right, le-mul_of_pos_right}
use lib.Pow.{pow_pos}
use Rattle.std.proofs.lemmas.Nat.{pow-add}
use Rattle.std.proofs.lemmas.List.Folds.{list_all-append}
use Rattle.std.proofs.lemmas.Bool.Decides.{nat_tests}
use Rattle.std.specs.List.{list_all, push}
use Rattle.bits.proofs.Laws.{shifted_one}
use Rattle.bits.specs.Fields.{total, pack, fit}
use Rattle.instruction.specs.Words.{word_if}

-- the word that has these parts at the widths, and above them another word
abbrev over : List ℕ → List ℕ → ℕ → ℕ
over [] fs word = word
over (n ∷ ns) [] word = 0
over (n ∷ ns) (f ∷ fs) word = over ns fs word * 2 ^ n + f

over_none : (ns fs : List ℕ) → over ns fs 0 ≡ pack ns fs
over_none [] fs = refl
over_none (n ∷ ns) [] = refl
over_none (n ∷ ns) (f ∷ fs) = ap (λ (x : ℕ). x * 2 ^ n + f) (over_none ns fs)

over_push : (ns fs : List ℕ) (n f word : ℕ) → length fs ≡ length ns → over (push ns n) (push fs f) word ≡ over ns fs (word * 2 ^ n + f)
over_push [] [] n f word e = refl
over_push [] (g ∷ fs) n f word e = absurd (omega arith)
over_push (m ∷ ns) [] n f word e = absurd (omega arith)
over_push (m ∷ ns) (g ∷ fs) n f word e = ap (λ (x : ℕ). x * 2 ^ m + g) (over_push ns fs n f word (omega arith))

fit_push : (ns fs : List ℕ) (n f : ℕ) → length fs ≡ length ns → fit (push ns n) (push fs f) ≡ (fit ns fs && ltb f (2 ^ n))
fit_push [] [] n f e = grind (arith, nat_tests)
fit_push [] (g ∷ fs) n f e = absurd (omega arith)
fit_push (m ∷ ns) [] n f e = absurd (omega arith)
fit_push (m ∷ ns) (g ∷ fs) n f e = let h = fit_push ns fs n f (omega arith) in grind (arith, nat_tests)

total_push : (ns : List ℕ) (n : ℕ) → total (push ns n) ≡ total ns + n
total_push [] n = refl
total_push (m ∷ ns) n = omega (arith, total_push ns n)

-- of the widths and parts, ns and fs are left; the parts above them fit, and are packed in the word
pub record Left (widths parts ns fs : List ℕ) (word : ℕ) : Type 0 where
  pub long : length fs ≡ length ns
  pub narrow : IsTrue (list_all (λ n. ltb n 32) ns)
  pub is : pack widths parts ≡ over ns fs word
  pub fits : fit widths parts ≡ fit ns fs
  pub room : suc word * 2 ^ total ns ≤ 2 ^ 32

pub all_left : {ns fs : List ℕ} → length fs ≡ length ns → total ns ≡ 32 → IsTrue (list_all (λ n. ltb n 32) ns) → Left ns fs ns fs 0
all_left {ns} {fs} e t narrow = record { long = e; narrow = narrow; is = sym (over_none ns fs); fits = refl; room = rw t (omega arith) }

pub word_lt : {widths parts ns fs : List ℕ} {word : ℕ} → Left widths parts ns fs word → word < 2 ^ 32
word_lt {ns} {word} l = omega (arith, l.room, le-mul_of_pos_right (suc word) (pow_pos (total ns)))

pub none_left : {widths parts ns fs : List ℕ} {word : ℕ} → Left widths parts ns fs word → (length ns ≡ 0) ⊎ (length fs ≡ 0) → Some word ≡ word_if (fit widths parts) (pack widths parts)
none_left {ns = []} {fs = []} l e = rw (l.is, l.fits)
none_left {ns = []} {fs = f ∷ fs} l e = absurd (omega (arith, l.long))
none_left {ns = n ∷ ns} {fs} l e = absurd (⊎_elim (λ x. omega arith) (λ x. omega (arith, l.long)) e)

-- 1 << n, as the code computes it
abbrev limit : ℕ → ℕ
limit n = 1 * 2 ^ n % 2 ^ 32

module _ {widths parts : List ℕ} {word : ℕ} (ns fs : List ℕ) (n f : ℕ) (l : Left widths parts (push ns n) (push fs f) word) where
  long : length fs ≡ length ns
  long = omega (arith, l.long, length-append {A = ℕ})

  narrow : IsTrue (list_all (λ n. ltb n 32) ns && ltb n 32)
  narrow = grind (arith, l.narrow, list_all-append, nat_tests)

  pub narrow_next : n < 32
  narrow_next = grind (arith, narrow, nat_tests)

  limit_is : limit n ≡ 2 ^ n
  limit_is = shifted_one n narrow_next

  pub turn : f < limit n → Left widths parts ns fs (word * limit n + f)
  turn h =
      let r : suc word * (2 ^ total ns * 2 ^ n) ≤ 2 ^ 32 = rw (total_push ns n, pow-add 2 (total ns) n) at l.room in
      let g : f < 2 ^ n = rw limit_is at h in
      rw limit_is
      (record {
        long = long;
        narrow = grind (arith, narrow, nat_tests);
        is = l.is ∙ over_push ns fs n f word long;
        fits = l.fits ∙ fit_push ns fs n f long ∙ grind (arith, nat_tests);
        room = omega (arith, r, mul-le-mul_right {m = suc f} {n = 2 ^ n} (2 ^ total ns) g);
      })

  pub does_not_fit : limit n ≤ f → None ≡ word_if (fit widths parts) (pack widths parts)
  does_not_fit h =
      let g : 2 ^ n ≤ f = rw limit_is at h in
      let e : fit widths parts ≡ false = l.fits ∙ fit_push ns fs n f long ∙ grind (arith, nat_tests) in
      rw e
