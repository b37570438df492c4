-- What a call that replies answers, in its order: every other refusal, then 30, then the value with its
-- numbers. Assumes nothing.
use mathlib.Core.Path.{◌≡◌}
use mathlib.Core.List.{List}
use Prim.Native.Nat.{ℕ, ◌≤◌, ◌<◌}
use borrow.Author.Tests.{lt-ltb, le-ltb}
use Rattle.answer.specs.Answers.{given, refused}
use Rattle.tables.specs.declared.constants.Constant.{Constant}
use Rattle.tables.specs.declared.constants.Constant.TheVariants.{Flag, Bytes, Vector}
use Rattle.verifier.specs.Verdict.{report_answer}
use Rattle.verifier.specs.declared.verdict.Report.{Report}
use Rattle.walk.specs.Constants.{constant_answer}
use Rattle.pica.specs.Executables.{constant_numbers, constant_reply}
use Rattle.pica.specs.Libraries.{report_numbers, report_reply}
use Rattle.pica.specs.Replies.{reply}

module _ (file : List ℕ) (index size : ℕ) where
  pub report_refused : {n p : ℕ} → report_answer file index ≡ refused n p → report_reply file index size ≡ refused n p
  report_refused e = rw e

  pub report_short : {t : Report} → report_answer file index ≡ given t → size < 8 → report_reply file index size ≡ refused 30 0
  report_short e h = rw (e, lt-ltb size 8 h)

  pub report_given : {t : Report} → report_answer file index ≡ given t → 8 ≤ size → report_reply file index size ≡ given (reply 8 (report_numbers t))
  report_given e h = rw (e, le-ltb size 8 h)

  module _ (n : ℕ) where
    pub constant_refused : {k p : ℕ} → constant_answer file index n ≡ refused k p → constant_reply file index n size ≡ refused k p
    constant_refused e = rw e

    pub constant_short : (c : Constant) → constant_answer file index n ≡ given c → size < 4 → constant_reply file index n size ≡ refused 30 0
    constant_short (Flag b) e h = rw (e, lt-ltb size 4 h)
    constant_short (Bytes v) e h = rw (e, lt-ltb size 4 h)
    constant_short (Vector v) e h = rw (e, lt-ltb size 4 h)

    pub constant_given : (c : Constant) → constant_answer file index n ≡ given c → 4 ≤ size → constant_reply file index n size ≡ given (constant_numbers c)
    constant_given (Flag b) e h = rw (e, le-ltb size 4 h)
    constant_given (Bytes v) e h = rw (e, le-ltb size 4 h)
    constant_given (Vector v) e h = rw (e, le-ltb size 4 h)
