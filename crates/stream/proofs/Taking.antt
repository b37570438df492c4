-- A library's length is read, and then the library; and a visit of it. Assumes nothing.
use Rattle.std.proofs.Common.{◌≡◌, ℕ, ◌<◌, ◌≤◌, Option, Some, None, Result, Ok, Err, Bool, MatchOption, IfOk, List, ◌++◌, length, take, get_or, refl, subst, arith, length-append}
use Rattle.std.proofs.KnownBytes.{Consumes-trans}
use Rattle.std.proofs.lemmas.List.{take_all, get_or_append_left}
use Rattle.std.specs.Borrow.{Bor, MutBor}
use Rattle.std.specs.Io.KnownBytes.{Consumes}
use Rattle.binary.specs.Bytes.{u32_at}
use Rattle.stream.specs.Stream.{Takes, TakesLibrary, TakesCut, IsOver, Visits}

-- the number of the first four bytes
u32_first : (four rest : List ℕ) → length four ≡ 4 → u32_at (four ++ rest) 0 ≡ u32_at four 0
u32_first four rest e =
    let at : (k : ℕ) → k < 4 → get_or (four ++ rest) k 0 ≡ get_or four k 0 = λ k h. get_or_append_left four rest 0 k (omega arith) in
    cc (at 0 (omega arith), at 1 (omega arith), at 2 (omega arith), at 3 (omega arith))

module _ (old between new : Option (List ℕ)) (four : List ℕ) {n : ℕ} (e : n ≡ 4) (f : length four ≡ 4) (h : Consumes old between (take n four)) where
  first : Consumes old between four
  first = let w : length four ≤ n = omega arith in rw (take_all n four w) at h

  cut : TakesCut between new (u32_at four 0) → IsOver old new
  cut c = record {
    left = four ++ c.left;
    short = omega (arith, c.short, f, length-append four c.left, u32_first four c.left f);
    taken = Consumes-trans _ _ _ _ _ first c.taken;
    over = c.over;
  }

  whole : (library : List ℕ) → TakesLibrary between new (u32_at four 0) library → Takes old new library
  whole library c = record {
    length_bytes = four;
    passed = c.passed;
    four = f;
    told = c.whole;
    taken = Consumes-trans _ _ _ _ _ first c.taken;
    kept = c.kept;
  }

  pub taking : {E : Type 0} (r : Result (Option ℕ) E) (bytes : List ℕ) → IfOk r (λ next. MatchOption next (TakesCut between new (u32_at four 0)) (λ kept. TakesLibrary between new (u32_at four 0) (take kept bytes)))
      → IfOk r (λ next. MatchOption next (IsOver old new) (λ kept. Takes old new (take kept bytes)))
  taking (Ok None) bytes c = cut c
  taking (Ok (Some kept)) bytes c = whole (take kept bytes) c
  taking (Err e) bytes c = tt

-- the library that was taken is visited
pub visits : {R W F E : Type 0} (remaining : R → Option (List ℕ)) (step : F → MutBor R → MutBor W → Bor (List ℕ) → Result Bool E → MutBor R → MutBor W → F → Type 0)
    (more : Bool) {from : R} {o : W} {f f' : F} {r : Result Bool E} {input left : MutBor R} {output kept : MutBor W} {file : Bor (List ℕ)}
    → Takes (remaining from) (remaining input.now) file.now → output.now ≡ o → step f input output file r left kept f' → r ≡ Ok more
    → Visits remaining step more (from, (o, f)) file.now (left.now, (kept.now, f'))
visits remaining step more {f = f} {f' = f'} {input = input} {left = left} {output = output} {kept = kept} {file = file} taken shown called e = record {
  input = input;
  output = output;
  file = file;
  taken = taken;
  shown = (shown, refl);
  left = (left, kept);
  called = subst (λ r. step f input output file r left kept f') e called;
  leaves = (refl, refl);
}
