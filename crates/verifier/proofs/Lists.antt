-- Laws of lists that are filled from their start on, of tables of numbers, and of stores one after another.
-- Assumes nothing.
use mathlib.Core.Path.{◌≡◌, refl, sym, ap, ◌∙◌}
use mathlib.Core.List.{List, [], ◌∷◌, ◌++◌, append_assoc}
use Prim.Native.Nat.{ℕ, zero, suc, ◌+◌, ◌*◌, ◌-◌, ◌≤◌, ◌<◌, min}
use native.Mathlib.Nat.{add-zero, add-suc, suc-add}
use native.Mathlib.Numerals.{add-one}
use native.Mathlib.Omega.{arith}
use lib.ListN.{length, get_or, set, take, drop, replicate, length-take, get_or-append}
use lib.Seq.{sets, set_at, take_at, get_or-drop}
use Rattle.std.proofs.lemmas.List.{same_lists, drop-replicate}
use Rattle.binary.specs.Bytes.{u32_at}
use Rattle.container.specs.declared.placement.Table.{Table}
use Rattle.verifier.specs.Lists.{list_of, filled}
use Rattle.verifier.specs.Words.{word_at, words_of, loaded_words}

module _ {A : Type 0} (f : ℕ → A) where
  pub length_list : (i n : ℕ) → length (list_of f i n) ≡ n
  unfolding list_of
  length_list i zero = refl
  length_list i (suc n) = ap suc (length_list (i + 1) n)

  -- one more at the end
  list_next : (i n : ℕ) → list_of f i (suc n) ≡ list_of f i n ++ f (i + n) ∷ []
  unfolding list_of
  list_next i zero =
      let z : i + 0 ≡ i = omega arith in
      rw z
  list_next i (suc n) =
      let z : i + 1 + n ≡ i + suc n = omega arith in
      ap (λ (l : List A). f i ∷ l) (rw z at (list_next (i + 1) n))

  pub list_at : (i n k : ℕ) (d : A) → k < n → get_or (list_of f i n) k d ≡ f (i + k)
  unfolding list_of
  list_at i zero k d h = absurd (omega arith)
  list_at i (suc n) zero d h =
      let z : i + 0 ≡ i = omega arith in
      rw z
  list_at i (suc n) (suc k) d h =
      let z : i + 1 + k ≡ i + suc k = omega arith in
      rw z at (list_at (i + 1) n k d (omega arith))

  module _ (i m : ℕ) (z : A) where
    pub filled_none : replicate m z ≡ filled f i m 0 z
    unfolding list_of
    filled_none =
        let e : m - 0 ≡ m = omega arith in
        rw e

    pub filled_next : (n : ℕ) → n < m → set (filled f i m n z) n (f (i + n)) ≡ filled f i m (n + 1) z
    filled_next n h =
        let e : m - n ≡ suc (m - suc n) = omega arith in
        rw (add-one n, e)
        (set_at (list_of f i n) z (replicate (m - suc n) z) (f (i + n)) n (length_list i n)
        ∙ sym (append_assoc (list_of f i n) (f (i + n) ∷ []) (replicate (m - suc n) z))
        ∙ ap (λ (l : List A). l ++ replicate (m - suc n) z) (sym (list_next i n)))

    pub take_filled : (n : ℕ) → take n (filled f i m n z) ≡ list_of f i n
    take_filled n = take_at (list_of f i n) (replicate (m - n) z) n (length_list i n)

    pub filled_at : (n k : ℕ) (d : A) → k < n → get_or (filled f i m n z) k d ≡ f (i + k)
    filled_at n k d h = get_or-append (list_of f i n) (replicate (m - n) z) d k (omega (arith, length_list i n)) ∙ list_at i n k d h

-- numbers of 32 bits, size bytes apart, read from a table's start on
pub u32_drop : (s : List ℕ) (at k : ℕ) → u32_at (drop at s) k ≡ u32_at s (at + k)
u32_drop s at k =
    let a : at + (k + 1) ≡ at + k + 1 = omega arith in
    let b : at + (k + 2) ≡ at + k + 2 = omega arith in
    let c : at + (k + 2 + 1) ≡ at + k + 2 + 1 = omega arith in
    rw (get_or-drop at s k 0, get_or-drop at s (k + 1) 0, get_or-drop at s (k + 2) 0, get_or-drop at s (k + 2 + 1) 0, a, b, c)

-- the words of an opcode table, of more than 512 the first, and zeros after them
pub words_then_zeros : (file : List ℕ) (t : Table) (xs : List ℕ) {bytes zeros : List ℕ} → bytes ≡ drop t.start.0 file → zeros ≡ replicate 512 0 → length xs ≡ min t.count 512
    → ((k d : ℕ) → k < length xs → get_or xs k d ≡ u32_at bytes (k * 4)) → xs ++ drop (min t.count 512) zeros ≡ loaded_words file t
words_then_zeros file t xs {bytes} {zeros} e z n each =
    let f = word_at file t in
    let m = min t.count 512 in
    let same = same_lists xs (list_of f 0 m) (omega (arith, length_list f 0 m)) (λ k d h.
    let i : 0 + k ≡ k = omega arith in
    each k d h ∙ rw e (u32_drop file t.start.0 (k * 4)) ∙ sym (rw i at (list_at f 0 m k d (omega arith)))) in
    rw (z, same, drop-replicate {X = ℕ} m 512 0)

-- the words of an opcode table that 7 lets pass, out of their array
module _ (file : List ℕ) (t : Table) {all : List ℕ} (d : all ≡ loaded_words file t) (few : t.count ≤ 512) where
  pub loaded_words_lem : take t.count all ≡ words_of file t
  loaded_words_lem =
      let n : min t.count 512 ≡ t.count = omega arith in
      rw (d, n) (take_filled (word_at file t) 0 512 0 t.count)

  pub loaded_length : length (take t.count all) ≡ t.count
  loaded_length = ap length loaded_words_lem ∙ length_list (word_at file t) 0 t.count

  pub loaded_enough : t.count ≤ length all
  loaded_enough = omega (arith, loaded_length, length-take t.count all)

-- stores one after another
pub sets_append : (p q l : List ℕ) (i : ℕ) → sets l i (p ++ q) ≡ sets (sets l i p) (i + length p) q
sets_append [] q l i = rw (add-zero i)
sets_append (b ∷ p) q l i = sets_append p q (set l i b) (suc i) ∙ rw (suc-add i (length p), add-suc i (length p))
