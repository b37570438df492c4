-- What an executable shares with the one judged before it: entries of its tables, names, and its main.
-- Assumes nothing.
use mathlib.Core.Path.{◌≡◌, refl, sym, ◌∙◌}
use mathlib.Core.Bool.{Bool, true, false, not, cond}
use mathlib.Core.List.{List}
use mathlib.Core.Logic.{⊎_elim}
use Prim.Native.Nat.{ℕ, zero, suc, ◌+◌, ◌-◌, ◌≤◌, ◌<◌, min}
use native.Mathlib.Nat.{eq-or-lt_of_le}
use native.Mathlib.Omega.{arith}
use lib.Dec.{eqb}
use borrow.Author.Tests.{eqb-true}
use Rattle.answer.specs.Faults.{fault_if, or_else, first_in}
use Rattle.answer.specs.Faults.{Fault}
use Rattle.answer.specs.Faults.{Nothing}
use Rattle.answer.proofs.Laws.{all_left, miss}
use Rattle.container.specs.declared.executables.Executable.{Executable}
use Rattle.container.specs.declared.placement.Table.{Table}
use Rattle.flow.proofs.Tests.{last_passed}
use Rattle.std.specs.Prelude.{Option, Some, None}
use Rattle.answer.specs.Answers.{given}
use Rattle.flow.specs.Flow.{flow_answer}
use Rattle.flow.specs.declared.entry.Measured.{Measured}
use Rattle.tables.specs.Constants.{entry_of, convert_of, is_bad, constant_fault}
use Rattle.tables.specs.Entries.{good_label, label_fault, good_output, output_fault, good_uniform, uniform_fault}
use Rattle.tables.specs.Names.{names_end}
use Rattle.verifier.specs.Executables.{entry_at, symbols_of}
use Rattle.verifier.specs.Inside.{Loaded, good_in, good_entries, Good, Known}
use Rattle.verifier.specs.declared.earlier.Earlier.{Earlier}
use Rattle.verifier.specs.declared.earlier.GoodEntries.{GoodEntries}
use Rattle.verifier.specs.declared.verdict.Library.{Library}
use Rattle.verifier.proofs.Stages.{sizes}

-- where an entry has no fault at its place, it has none at any place
abbrev pub Placeless : (List ℕ → ℕ → Fault) → Type 0
Placeless f = (s : List ℕ) (p q : ℕ) → f s p ≡ Nothing → f s q ≡ Nothing

none_elsewhere : (b : Bool) (n p q : ℕ) → fault_if b n p ≡ Nothing → fault_if b n q ≡ Nothing
none_elsewhere b n p q e = rw (last_passed b n p e)

pub constant_placeless : Placeless constant_fault
unfolding constant_fault
constant_placeless s = none_elsewhere (is_bad (convert_of (entry_of s))) 18

pub label_placeless : (words names : ℕ) → Placeless (λ s. label_fault s words names)
unfolding label_fault
label_placeless words names s = none_elsewhere (not (good_label s words names)) 19

pub output_placeless : Placeless output_fault
unfolding output_fault
output_placeless s = none_elsewhere (not (good_output s)) 20

pub uniform_placeless : (names : ℕ) → Placeless (λ s. uniform_fault s names)
unfolding uniform_fault
uniform_placeless names s = none_elsewhere (not (good_uniform s names)) 21

-- of an answer that is what is left at 0, and then `rest`: the first k have no fault
skip : (f : ℕ → Fault) (m : ℕ) (rest : Fault) {A : Fault} → A ≡ or_else (first_in f 0 m) rest → (k : ℕ) → k ≤ m → ((j : ℕ) → j < k → f j ≡ Nothing) → A ≡ or_else (first_in f k (m - k)) rest
skip f m rest e zero h g = all_left f m rest e
skip f m rest e (suc k) h g =
    let z : k + 1 ≡ suc k = omega arith in
    rw z at (miss f _ rest k m (skip f m rest e k (omega arith) (λ j i. g j (omega arith))) (omega arith) (g k (omega arith)))

-- the first n entries of a table are good
pub record FirstGood (f : List ℕ → ℕ → Fault) (file : List ℕ) (t : Table) (size n : ℕ) : Type 0 where
  pub inside : n ≤ t.count
  pub good : Good f file t size n

-- none of them; and those shared with another table, all of whose entries are good
none_good : (f : List ℕ → ℕ → Fault) (file : List ℕ) (t : Table) (size : ℕ) → FirstGood f file t size 0
none_good f file t size = record { inside = omega arith; good = λ j p h. absurd (omega arith) }

shared : (f : List ℕ → ℕ → Fault) (file : List ℕ) (t : Table) (size : ℕ) (same : Bool) (other : Table) → (same ≡ true → Good f file other size other.count) → FirstGood f file t size (good_in same other t)
shared f file t size false other g = none_good f file t size
shared f file t size true other g = by (eqb other.start.0 t.start.0) (eqb-true _ _)
  where
    by : (b : Bool) → (b ≡ true → other.start.0 ≡ t.start.0) → FirstGood f file t size (cond b (min other.count t.count) 0)
    by true y = record { inside = omega arith; good = λ j p h. rw (← y refl) (g refl j p (omega arith)) }
    by false y = none_good f file t size

-- a loop over the entries of a table, at one of them: those before it are good; the answer is what is left
module _ (f : List ℕ → ℕ → Fault) (file : List ℕ) (t : Table) (size place : ℕ) (A rest : Fault) where
  abbrev tested : ℕ → Fault
  tested j = f (entry_at file t size j) (place + j)

  pub record Upto (entry : ℕ) : Type 0 where
    pub inside : entry ≤ t.count
    pub good : Good f file t size entry
    pub left : A ≡ or_else (first_in tested entry (t.count - entry)) rest

  -- it begins after the entries that are known to be good
  pub begun : {known : ℕ} → FirstGood f file t size known → A ≡ or_else (first_in tested 0 t.count) rest → Upto known
  begun {known} k e =
      record {
        inside = k.inside;
        good = k.good;
        left = skip tested t.count rest e known k.inside (λ j h. k.good j (place + j) h);
      }

  -- an entry without a fault is passed
  pub next : Placeless f → {entry : ℕ} → Upto entry → entry < t.count → tested entry ≡ Nothing → Upto (entry + 1)
  next anywhere {entry} u h e =
      record {
        inside = omega arith;
        good = λ j p i. ⊎_elim (λ q. rw q (anywhere _ _ p e)) (u.good j p) (eq-or-lt_of_le {n = j} {m = entry} (omega arith));
        left = miss tested A rest entry t.count u.left h e;
      }

  -- after the last entry
  pub all_good : {entry : ℕ} → Upto entry → t.count ≤ entry → Good f file t size t.count
  all_good u h j p i = u.good j p (omega arith)

-- the tests of an executable's labels and uniforms
module _ (file : List ℕ) (e : Executable) where
  abbrev pub label_test : ℕ → List ℕ → ℕ → Fault
  label_test words s = label_fault s words (names_end (symbols_of file e.symbols))

  abbrev pub uniform_test : List ℕ → ℕ → Fault
  uniform_test s = uniform_fault s (names_end (symbols_of file e.symbols))

module _ {file ws : List ℕ} {l : Library} (loaded : Loaded file l ws) (e : Executable) {names : ℕ} (n : names ≡ names_end (symbols_of file e.symbols)) where
  -- the entries of its tables that are known to be good
  pub record Begins (g : GoodEntries) : Type 0 where
    pub constants : FirstGood constant_fault file e.constants 20 g.constants
    pub labels : FirstGood (label_test file e l.program.words.count) file e.labels 16 g.labels
    pub outputs : FirstGood output_fault file e.outputs 8 g.outputs
    pub uniforms : FirstGood (uniform_test file e) file e.uniforms 8 g.uniforms

  pub begins : (earlier : Option Earlier) → Known file ws earlier → {g : GoodEntries} → g ≡ good_entries earlier e names → Begins g
  begins None k q =
      rw q
      (record {
        constants = none_good _ _ _ _;
        labels = none_good _ _ _ _;
        outputs = none_good _ _ _ _;
        uniforms = none_good _ _ _ _;
      })
  begins (Some x) k q =
      let same = λ (h : eqb names x.names ≡ true). sym (eqb-true names x.names h) ∙ n in
      rw q
      (record {
        constants = shared _ _ _ _ true x.executable.constants (λ h. k.constants);
        labels = shared (label_test file e l.program.words.count) file e.labels 16 (eqb names x.names) x.executable.labels (λ h. rw (← (sizes loaded).2, ← same h) k.labels);
        outputs = shared _ _ _ _ true x.executable.outputs (λ h. k.outputs);
        uniforms = shared (uniform_test file e) file e.uniforms 8 (eqb names x.names) x.executable.uniforms (λ h. rw (← same h) k.uniforms);
      })

  -- an executable whose entries are all good is known
  pub now_known : {m : Measured} → given m ≡ flow_answer ws e.shader_type e.main.0 e.endmain.0
      → Good constant_fault file e.constants 20 e.constants.count
      → Good (label_test file e l.program.words.count) file e.labels 16 e.labels.count
      → Good output_fault file e.outputs 8 e.outputs.count
      → Good (uniform_test file e) file e.uniforms 8 e.uniforms.count
      → Known file ws (Some (record { executable = e; names = names; measured = m }))
  now_known a c b o u =
      record {
        names = n;
        flow = a;
        constants = c;
        labels = rw ((sizes loaded).2, n) b;
        outputs = o;
        uniforms = rw n u;
      }
