-- Laws of records written one after another. Assumes nothing.
use mathlib.Core.Path.{◌≡◌, refl, sym, ap}
use mathlib.Core.Bool.{Bool, true, false, cond}
use mathlib.Core.List.{List, append_assoc}
use Prim.Native.Nat.{ℕ, zero, suc, ◌+◌, ◌*◌, ◌-◌, ◌≤◌, ◌<◌}
use native.Mathlib.Numerals.{add-one}
use native.Mathlib.Omega.{arith}
use lib.Dec.{ltb}
use lib.ListN.{length, take, drop, length-append}
use lib.Seq.{sets, sets-eq, drop-drop}
use borrow.Author.Tests.{lt-ltb, le-ltb, ltb-false}
use borrow.Rule.Slice.PartMut.{put_mid}
use Rattle.answer.specs.Answers.{given, refused}
use Rattle.listing.specs.Listing.{records_of, room}
use Rattle.verifier.proofs.Lists.{sets_append}

-- a buffer that is too short for n records, and one that has room for them
pub too_short : (size n : ℕ) → size < n * 80 → room size n ≡ refused 30 0
too_short size n h = ap (λ b. cond b (refused 30 0) (given (n * 80))) (lt-ltb size (n * 80) h)

pub enough : (size n : ℕ) → n * 80 ≤ size → room size n ≡ given (n * 80)
enough size n h = ap (λ b. cond b (refused 30 0) (given (n * 80))) (le-ltb size (n * 80) h)

-- .. and one for which a number is given
pub has_room : {k : ℕ} (size n : ℕ) → given k ≡ room size n → n * 80 ≤ size
has_room {k} size n e = by (ltb size (n * 80)) refl e
  where
    by : (b : Bool) → ltb size (n * 80) ≡ b → given k ≡ cond b (refused 30 0) (given (n * 80)) → n * 80 ≤ size
    by true t e = absurd (let z : ◌≡◌ {A = ℕ} 0 1 = cc in omega arith)
    by false t e = ltb-false size (n * 80) t

-- a part that was lent comes back as stores
put_mid_lem : (a k : ℕ) (xs ys : List ℕ) → length ys ≡ k → a + k ≤ length xs → put_mid a k xs ys ≡ sets xs a ys
put_mid_lem a k xs ys e h =
    let h' : a + length ys ≤ length xs = rw e h in
    rw (sets-eq ys xs a h', e) (rw (drop-drop k a xs) (sym (append_assoc (take a xs) ys (drop (a + k) xs))))

-- records of 80 bytes each
module _ (f : ℕ → List ℕ) (wide : (i : ℕ) → length (f i) ≡ 80) where
  pub records_length : (n : ℕ) → length (records_of f n) ≡ n * 80
  unfolding records_of
  records_length zero = refl
  records_length (suc n) = omega (arith, length-append (records_of f n) (f n), records_length n, wide n)

-- a buffer in which the first n records are written, and no byte beyond
pub record Written (f : ℕ → List ℕ) (n : ℕ) (old out : List ℕ) : Type 0 where
  pub bytes : out ≡ sets old 0 (records_of f n)
  pub wide : length (records_of f n) ≡ n * 80

module _ (f : ℕ → List ℕ) (old : List ℕ) where
  pub written_none : Written f 0 old old
  unfolding records_of
  written_none = record { bytes = refl; wide = refl }

  pub written_next : (n : ℕ) {out line : List ℕ} → Written f n old out → line ≡ f n → length line ≡ 80 → n * 80 + 80 ≤ length out
      → Written f (n + 1) old (put_mid (n * 80) (n * 80 + 80 - n * 80) out line)
  unfolding records_of
  written_next n {out} {line} w e k h =
      let t : n * 80 + 80 - n * 80 ≡ 80 = omega arith in
      let q : 0 + length (records_of f n) ≡ n * 80 = omega (arith, w.wide) in
      record {
        bytes = rw (t, put_mid_lem (n * 80) 80 out line k h, add-one n, sets_append (records_of f n) (f n) old 0, q, e, w.bytes);
        wide = rw (add-one n) (omega (arith, length-append (records_of f n) (f n), w.wide, k, ap length e));
      }
