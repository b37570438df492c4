-- The answers of the constant call: the check's refusal; 29; the constant. Assumes nothing.
use mathlib.Core.Path.{◌≡◌, sym, ap, ◌∙◌}
use mathlib.Core.List.{List}
use Prim.Native.Nat.{ℕ, ◌*◌, ◌≤◌, ◌<◌}
use native.Mathlib.Omega.{arith}
use lib.ListN.{drop}
use lib.Seq.{drop-drop}
use borrow.Author.Tests.{lt-ltb, le-ltb}
use Rattle.container.specs.Executable.{executable_of}
use Rattle.container.specs.declared.executables.Executable.{Executable}
use Rattle.flow.proofs.Tests.{true_not_false}
use Rattle.tables.specs.Constants.{entry_of, convert_of, is_bad}
use Rattle.tables.specs.declared.constants.Constant.{Constant}
use Rattle.tables.specs.declared.constants.ConstantEntry.{ConstantEntry}
use Rattle.verifier.proofs.Taken.{Taken, refused_check}
use Rattle.verifier.specs.Executables.{entry_at}
use Rattle.verifier.specs.Verdict.{check_of}
use Rattle.verifier.specs.declared.verdict.Library.{Library}
use Rattle.walk.specs.Constants.{constant_answer, Hands}
use Rattle.std.specs.Prelude.{Option, Some, None, Result, Err, ok_or}
use Rattle.answer.specs.Answers.{answered}
use Rattle.answer.specs.Reasons.{number_of}
use Rattle.answer.specs.declared.Refusal.{Refusal}
use Rattle.answer.specs.declared.reason.Reason.TheVariants.{NotThere}

module _ (file : List ℕ) (index n : ℕ) where
  abbrev e : Executable
  e = executable_of file index

  -- the entry that the constant is made of
  abbrev held : Option Constant
  held = convert_of (entry_of (entry_at file e.constants 20 n))

  -- what the contract says of an answer
  abbrev Told : Result Constant Refusal → Type 0
  Told r = (answered r ≡ constant_answer file index n) × Hands file r

  pub constant_refused : {r : Result Library Refusal} {f : Refusal} → answered r ≡ check_of file → r ≡ Err f → Told (Err f)
  unfolding constant_answer
  constant_refused c h =
      let a = refused_check file c h in
      (rw a, λ l g. absurd (let z : ◌≡◌ {A = ℕ} 0 1 = cc (sym a ∙ g) in omega arith))

  not_18 : (f : Refusal) → number_of f.reason ≡ 29 → Hands file (Err f)
  not_18 f n l g q h = absurd (let z : ◌≡◌ {A = ℕ} 29 18 = cc (rw n at h) in omega arith)

  module _ {l : Library} (t : Taken file l) where
    pub no_executable_lem : (f : Refusal) → number_of f.reason ≡ 29 → f.place ≡ 0 → l.executables ≤ index → Told (Err f)
    unfolding constant_answer
    no_executable_lem f g z h = (rw (g, z, t.answer, le-ltb index l.executables h), not_18 f g)

    module _ (there : index < l.executables) where
      pub no_constant : {f : Refusal} → f ≡ record { reason = NotThere; place = 0 } → e.constants.count ≤ n → Told (Err f)
      unfolding constant_answer
      no_constant {f} g h = (rw (g, t.answer, lt-ltb index l.executables there, le-ltb n e.constants.count h), not_18 f (ap (λ (r : Refusal). number_of r.reason) g))

      module _ (h : n < e.constants.count) where
        -- the check has refused every bad entry
        pub never_bad : held ≡ None → ⊥
        never_bad b =
            let good = (t.clean.executables index (omega (arith, ap (λ x. x.executables) t.same))).no18 n h in
            true_not_false (sym (ap is_bad b) ∙ good)

        pub constant_given : {r : Option Constant} {x : Result Constant Refusal} (f : Refusal) → r ≡ held → x ≡ ok_or r f → Told x
        unfolding constant_answer
        constant_given {r} {x} f g k = by r (sym g) k
          where
            by : (y : Option Constant) → held ≡ y → x ≡ ok_or y f → Told x
            by (Some c) b d = (rw (d, t.answer, lt-ltb index l.executables there, lt-ltb n e.constants.count h, b), λ l g q k. absurd (let z : ◌≡◌ {A = ℕ} 0 1 = cc (rw d at k) in omega arith))
            by None b d = absurd (never_bad b)

  -- the entry's bytes, read from its table's start on
  pub entry_at_lem : (x : Executable) {rest entry : List ℕ} {k : ConstantEntry} {r : Option Constant} → x ≡ e → rest ≡ drop x.constants.start.0 file → entry ≡ drop (n * 20) rest → k ≡ entry_of entry
      → r ≡ convert_of k → r ≡ held
  entry_at_lem x q a b c d = d ∙ rw (c, b, a, q, drop-drop (n * 20) e.constants.start.0 file)
