-- What the check's answer says of a library that is taken out of it, for the calls that make the check first.
-- Assumes nothing.
use mathlib.Core.Path.{◌≡◌, sym, ap, ◌∙◌}
use mathlib.Core.List.{List}
use Prim.Native.Nat.{ℕ, ◌≤◌}
use Rattle.std.specs.Prelude.{Result, Ok, Err}
use Rattle.answer.specs.Answers.{given, answered}
use Rattle.answer.specs.declared.Refusal.{Refusal}
use Rattle.verifier.specs.Clean.{Clean}
use Rattle.verifier.specs.Verdict.{library_of, check_of}
use Rattle.verifier.specs.declared.verdict.Library.{Library}
use Rattle.verifier.proofs.Answers.{exactly}

module _ (file : List ℕ) where
  -- an accepted library: the check's answer, and its sizes
  pub record Taken (l : Library) : Type 0 where
    pub answer : check_of file ≡ given l
    pub clean : Clean file
    pub words : l.program.words.count ≤ 512
    pub descriptors : l.program.descriptors.count ≤ 128
    pub executables : l.executables ≤ 16
    pub same : l ≡ library_of file

  pub taken : {r : Result Library Refusal} {l : Library} → answered r ≡ check_of file → r ≡ Ok l → Taken l
  taken {r} {l} e h =
      let x = exactly file {r = r} e in
      let c = x.clean l h in
      let (some, few, d) = c.library.no7 in
      let (n, m) = c.library.no4 in
      let q : l ≡ library_of file = inside h (x.accepted c) in
      record {
        answer = sym e ∙ ap answered h;
        clean = c;
        words = rw q few;
        descriptors = rw q d;
        executables = rw q m;
        same = q;
      }
    where
      inside : {a b : Library} {r : Result Library Refusal} → r ≡ Ok a → r ≡ Ok b → a ≡ b
      inside p q = cc

  -- a refused one
  pub refused_check : {r : Result Library Refusal} {e : Refusal} → answered r ≡ check_of file → r ≡ Err e → check_of file ≡ answered (Err e)
  refused_check e h = sym e ∙ ap answered h
