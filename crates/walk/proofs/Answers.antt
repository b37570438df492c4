-- The walk's answers: the check's refusal; 29; 30; the run. Assumes nothing.
use mathlib.Core.Path.{◌≡◌, refl, sym, ap, ◌∙◌}
use mathlib.Core.Bool.{Bool, true, false, ◌||◌}
use mathlib.Core.List.{List}
use mathlib.Core.Logic.{◌⊎◌, inl, inr}
use Prim.Native.Nat.{ℕ, zero, suc, ◌≤◌, ◌<◌}
use native.Mathlib.Omega.{arith}
use lib.Dec.{ltb}
use lib.ListN.{length, get_or}
use lib.Seq.{sets}
use borrow.Author.Tests.{lt-ltb, le-ltb}
use Rattle.std.specs.Prelude.{Result, Ok, Err}
use Rattle.answer.specs.Reasons.{number_of}
use Rattle.answer.specs.declared.Refusal.{Refusal}
use Rattle.answer.specs.declared.reason.Reason.TheVariants.{BufferTooShort}
use Rattle.answer.specs.Answers.{answered, given}
use Rattle.container.specs.Executable.{executable_of}
use Rattle.container.specs.Program.{program_of}
use Rattle.flow.specs.Rules.{Code}
use Rattle.flow.specs.Stepping.{Settings, State, start, Next, ends, stuck, goes, step, Run, done, failed, unfinished, after, onward, run}
use Rattle.flow.specs.WholeRun.{Whole}
use Rattle.verifier.proofs.Clean.{accepted}
use Rattle.verifier.proofs.Lists.{length_list}
use Rattle.verifier.proofs.Promise.{promised}
use Rattle.verifier.proofs.Taken.{Taken, refused_check}
use Rattle.verifier.specs.Executables.{report_of}
use Rattle.verifier.specs.Promise.{code_for, start_for}
use Rattle.verifier.specs.Verdict.{check_of, library_of}
use Rattle.verifier.specs.Words.{word_at, words_of}
use Rattle.verifier.specs.declared.verdict.Library.{Library}
use Rattle.walk.specs.Inside.{Runs, fetches_by}
use Rattle.walk.specs.Walk.{settings_of, run_of, fetches_in, walk_fetches, RunsWhole, steps_of, written_to}
use Rattle.walk.proofs.Running.{run_same}

-- a run that ends makes the same steps with a larger bound
longer : (C : Code) (v : Settings) (n m : ℕ) (s : State) {l : List State} → n ≤ m → run C v n s ≡ done l → run C v m s ≡ done l
unfolding run
longer C v zero m s h e = absurd (let z : ◌≡◌ {A = ℕ} 0 1 = cc in omega arith)
longer C v (suc n) zero s h e = absurd (omega arith)
longer C v (suc n) (suc m) s {l} h e = by (λ t l' q. longer C v n m t (omega arith) q) (step C v s) e
  where
    of : (t : State) (r : Run) → ((l' : List State) → r ≡ done l' → run C v m t ≡ done l') → after s r ≡ done l → after s (run C v m t) ≡ done l
    of t (done l') f d = ap (after s) (f l' refl) ∙ d
    of t (failed l') f d = absurd (let z : ◌≡◌ {A = ℕ} 0 1 = cc in omega arith)
    of t (unfinished l') f d = absurd (let z : ◌≡◌ {A = ℕ} 0 1 = cc in omega arith)

    by : ((t : State) (l' : List State) → run C v n t ≡ done l' → run C v m t ≡ done l') → (x : Next) → onward s x (run C v n) ≡ done l → onward s x (run C v m) ≡ done l
    by f ends d = d
    by f stuck d = d
    by f (goes t) d = of t (run C v n t) (f t) d

module _ (file : List ℕ) (index : ℕ) (bools ints truth : List ℕ) where
  abbrev v : Settings
  v = settings_of bools ints truth

  abbrev ws : List ℕ
  ws = words_of file (program_of file).words

  abbrev m : ℕ
  m = (executable_of file index).main.0

  abbrev e : ℕ
  e = (executable_of file index).endmain.0

  -- what the contract says of an answer and a final list
  abbrev pub Told : Result ℕ Refusal → List ℕ → List ℕ → Type 0
  Told r old list =
      (answered r ≡ steps_of (walk_fetches file index bools ints truth)) × ((list ≡ written_to old (walk_fetches file index bools ints truth)) × RunsWhole file index bools ints truth r)

  no_steps : {f : Refusal} → RunsWhole file index bools ints truth (Err f)
  no_steps k h = absurd (let z : ◌≡◌ {A = ℕ} 0 1 = cc in omega arith)

  pub walk_refused : {r : Result Library Refusal} {f : Refusal} (old : List ℕ) → answered r ≡ check_of file → r ≡ Err f → Told (Err f) old old
  unfolding walk_fetches
  walk_refused old c h = let a = refused_check file c h in (rw a, (rw a, no_steps))

  module _ {l : Library} (t : Taken file l) where
    pub walk_missing : {f : Refusal} (old : List ℕ) → number_of f.reason ≡ 29 → f.place ≡ 0 → l.executables ≤ index → Told (Err f) old old
    unfolding walk_fetches
    walk_missing old f z h = (rw (f, z, t.answer, le-ltb index l.executables h), (rw (t.answer, le-ltb index l.executables h), no_steps))

    module _ (there : index < l.executables) where
      short : (length bools < 16) ⊎ (length ints < 4) → (ltb (length bools) 16 || ltb (length ints) 4) ≡ true
      short (inl h) = ap (λ b. b || ltb (length ints) 4) (lt-ltb (length bools) 16 h)
      short (inr h) = ap (λ b. ltb (length bools) 16 || b) (lt-ltb (length ints) 4 h) ∙ either (ltb (length bools) 16)
        where
          either : (b : Bool) → (b || true) ≡ true
          either true = refl
          either false = refl

      pub walk_short : {f : Refusal} (old : List ℕ) → f ≡ record { reason = BufferTooShort; place = 0 } → (length bools < 16) ⊎ (length ints < 4) → Told (Err f) old old
      unfolding walk_fetches
      walk_short old f h =
          (rw (f, t.answer, lt-ltb index l.executables there, short h), (rw (t.answer, lt-ltb index l.executables there, short h), no_steps))

      -- the whole run that the report's total promises
      module _ (bytes : (r : ℕ) → r ≤ 3 → get_or ints r 0 < 256) where
        count_is : l.executables ≡ (library_of file).executables
        count_is = ap (λ x. x.executables) t.same

        whole : Whole (code_for file) v 4 8 2 (report_of file (program_of file) index).total (start_for file index)
        whole = (promised file (accepted file t.clean) index (omega (arith, count_is))).runs v bytes

        bounded : (report_of file (program_of file) index).total ≤ 4000000
        bounded = (promised file (accepted file t.clean) index (omega (arith, count_is))).bounded

        pub runs : {words : List ℕ} → words ≡ ws → Runs words v m e
        runs w =
            rw w (record {
              few = omega (arith, length_list (word_at file (program_of file).words) 0 (program_of file).words.count, t.words, ap (λ x. x.program.words.count) t.same);
              descriptors = (program_of file).descriptors.count;
              whole = record {
                fetched = whole.fetched;
                ends = longer _ v (report_of file (program_of file) index).total 4000000 (start m e) bounded whole.ends;
                kept = whole.kept;
                steps = omega (arith, whole.steps, bounded);
              };
            })

        fetches : fetches_by ws v m e ≡ fetches_in (run_of file index v)
        unfolding fetches_by run_of
        fetches = ap fetches_in (sym (run_same ws v _ 4000000 (start m e)) ∙ longer _ v (report_of file (program_of file) index).total 4000000 (start m e) bounded whole.ends ∙ sym whole.ends)

        answer : 16 ≤ length bools → 4 ≤ length ints → walk_fetches file index bools ints truth ≡ given (fetches_in (run_of file index v))
        unfolding walk_fetches
        answer b i = rw (t.answer, lt-ltb index l.executables there, le-ltb (length bools) 16 b, le-ltb (length ints) 4 i)

        pub walk_done : {words : List ℕ} {n : ℕ} {list : List ℕ} (old : List ℕ) → 16 ≤ length bools → 4 ≤ length ints → words ≡ ws
            → n ≡ length (fetches_by words v m e) → list ≡ sets old 0 (fetches_by words v m e) → Told (Ok n) old list
        walk_done old b i w n k =
            let a = answer b i in
            (rw (a, n, w, fetches), (rw (a, k, w, fetches), λ x h. whole))
