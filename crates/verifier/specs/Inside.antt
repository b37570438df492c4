-- What the functions inside this crate answer and rely on, for their contracts. The rules are in the other
-- files.
-- Assumes nothing.
use Rattle.std.specs.Prelude.{◌≡◌, ℕ, ◌<◌, min, Bool, true, ◌&&◌, cond, List, eqb, length, Option, Some, None, IfSome}
use Rattle.answer.specs.Faults.{Fault, Nothing}
use Rattle.container.specs.Program.{program_of, library_fault}
use Rattle.container.specs.declared.executables.Executable.{Executable}
use Rattle.container.specs.declared.placement.Table.{Table}
use Rattle.answer.specs.Answers.{given}
use Rattle.flow.specs.Flow.{flow_answer}
use Rattle.tables.specs.Constants.{constant_fault}
use Rattle.tables.specs.Entries.{label_fault, output_fault, uniform_fault}
use Rattle.tables.specs.Names.{names_end}
use Rattle.verifier.specs.Executables.{entry_at, symbols_of}
use Rattle.verifier.specs.Verdict.{full_limits}
use Rattle.verifier.specs.Words.{words_of}
use Rattle.verifier.specs.declared.earlier.Earlier.{Earlier}
use Rattle.verifier.specs.declared.earlier.GoodEntries.{GoodEntries}
use Rattle.verifier.specs.declared.verdict.Library.{Library}

-- what judging executables relies on: the file has passed 1 to 8, and these are its tables and words
pub record Loaded (file : List ℕ) (l : Library) (ws : List ℕ) : Type 0 where
  pub passed : library_fault full_limits file ≡ Nothing
  pub program : l.program ≡ program_of file
  pub words : ws ≡ words_of file l.program.words

-- how many of the first entries of a table another table has too, where the same is asked of both
abbrev pub good_in : Bool → Table → Table → ℕ
good_in same good t = cond (same && eqb good.start.0 t.start.0) (min good.count t.count) 0

-- .. in each table of an executable with these names; none before the first executable
abbrev pub good_entries : Option Earlier → Executable → ℕ → GoodEntries
good_entries None e names = record { constants = 0; labels = 0; outputs = 0; uniforms = 0 }
good_entries (Some k) e names =
    record {
      constants = good_in true k.executable.constants e.constants;
      labels = good_in (eqb names k.names) k.executable.labels e.labels;
      outputs = good_in true k.executable.outputs e.outputs;
      uniforms = good_in (eqb names k.names) k.executable.uniforms e.uniforms;
    }

-- the first n entries of a table have no fault, whatever their place
abbrev pub Good : (List ℕ → ℕ → Fault) → List ℕ → Table → ℕ → ℕ → Type 0
Good f file t size n = (j place : ℕ) → j < n → f (entry_at file t size j) place ≡ Nothing

-- what was found of an executable: it has no bad entries, and its names and its flow are these
pub record Found (file ws : List ℕ) (k : Earlier) : Type 0 where
  pub names : k.names ≡ names_end (symbols_of file k.executable.symbols)
  pub flow : given k.measured ≡ flow_answer ws k.executable.shader_type k.executable.main.0 k.executable.endmain.0
  pub constants : Good constant_fault file k.executable.constants 20 k.executable.constants.count
  pub labels : Good (λ s. label_fault s (length ws) k.names) file k.executable.labels 16 k.executable.labels.count
  pub outputs : Good output_fault file k.executable.outputs 8 k.executable.outputs.count
  pub uniforms : Good (λ s. uniform_fault s k.names) file k.executable.uniforms 8 k.executable.uniforms.count

-- .. of the one before, if there is one
abbrev pub Known : List ℕ → List ℕ → Option Earlier → Type 0
Known file ws k = IfSome k (Found file ws)
