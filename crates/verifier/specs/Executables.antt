-- An executable: refusals 13 to 28 in their order, and its report (document 01, 'Numbers given back',
-- 'Listing and report').
-- Assumes nothing.
use Rattle.std.specs.Prelude.{ℕ, zero, suc, ◌+◌, ◌*◌, ◌/◌, ◌%◌, List, eqb, take, drop}
use Rattle.answer.specs.Answers.{Answer, given, refused}
use Rattle.answer.specs.Faults.{or_else, first_in}
use Rattle.answer.specs.Faults.{Fault}
use Rattle.answer.specs.Faults.{Nothing, At}
use Rattle.binary.specs.Addresses.{word_address}
use Rattle.container.specs.Executable.{executable_of, executable_fault}
use Rattle.container.specs.declared.executables.Executable.{Executable}
use Rattle.container.specs.declared.placement.Table.{Table}
use Rattle.container.specs.declared.programs.Program.{Program}
use Rattle.flow.specs.Flow.{flow_of}
use Rattle.flow.specs.declared.entry.Measured.{Measured}
use Rattle.flow.specs.Rules.{Rules, full_rules}
use Rattle.tables.specs.Constants.{constant_fault}
use Rattle.tables.specs.Entries.{label_fault, output_fault, uniform_fault}
use Rattle.tables.specs.Names.{names_end}
use Rattle.verifier.specs.Words.{words_of}
use Rattle.verifier.specs.declared.verdict.Report.{Report}

-- 'X is 65,536 × executable, plus the entry or word index where one is named'
abbrev pub place_of : ℕ → ℕ
place_of index = index * 65536

-- the bytes of a table from an entry on
abbrev pub entry_at : List ℕ → Table → ℕ → ℕ → List ℕ
entry_at file t size j = drop (t.start.0 + j * size) file

-- the bytes of the symbol table
abbrev pub symbols_of : List ℕ → Table → List ℕ
symbols_of file t = take t.count (drop t.start.0 file)

-- 18, 19, 20, 21 at an entry; place is the executable's
module _ (file : List ℕ) (e : Executable) (place : ℕ) where
  abbrev pub constant_at : ℕ → Fault
  constant_at j = constant_fault (entry_at file e.constants 20 j) (place + j)

  abbrev pub label_at : ℕ → ℕ → Fault
  label_at words j = label_fault (entry_at file e.labels 16 j) words (names_end (symbols_of file e.symbols)) (place + j)

  abbrev pub output_at : ℕ → Fault
  output_at j = output_fault (entry_at file e.outputs 8 j) (place + j)

  abbrev pub uniform_at : ℕ → Fault
  uniform_at j = uniform_fault (entry_at file e.uniforms 8 j) (names_end (symbols_of file e.symbols)) (place + j)

-- 'EMIT or SETEMIT in type 0' is 22
abbrev pub rules_for : Executable → Rules
rules_for e = full_rules (eqb e.shader_type 1)

-- the flow check of an executable's main
abbrev pub flow_in : List ℕ → Executable → Answer Measured
flow_in ws e = flow_of (rules_for e) ws e.main.0 e.endmain.0

-- 22 to 28, at X + word
abbrev pub flow_at : ℕ → Answer Measured → Fault
flow_at place (given m) = Nothing
flow_at place (refused number word) = At number (place + word)

-- 13 to 28 of one executable: 'table entries ascending'
unfoldable pub one_executable : List ℕ → Program → ℕ → Fault
one_executable file p index =
    let e = executable_of file index in
    let place = place_of index in
    or_else (executable_fault 1 p.words file index place)
    (or_else (first_in (constant_at file e place) 0 e.constants.count)
    (or_else (first_in (label_at file e place p.words.count) 0 e.labels.count)
    (or_else (first_in (output_at file e place) 0 e.outputs.count)
    (or_else (first_in (uniform_at file e place) 0 e.uniforms.count)
    (flow_at place (flow_in (words_of file p.words) e))))))

-- 'ones in the input mask': the ones among the low k bits
unfoldable pub ones_in : ℕ → ℕ → ℕ
ones_in zero n = 0
ones_in (suc k) n = n % 2 + ones_in k (n / 2)

abbrev pub no_report : Report
no_report =
    record {
      shader_type = 0;
      main = word_address 0;
      endmain = word_address 0;
      inputs = 0;
      outputs = 0;
      constants = 0;
      words = 0;
      total = 0;
    }

-- 'type, main, endmain, ones in the input mask, ones in the output mask, constants, distinct words visited,
-- total'; zeros if the flow check refuses
abbrev pub report_with : Executable → Answer Measured → Report
report_with e (given m) =
    record {
      shader_type = e.shader_type;
      main = e.main;
      endmain = e.endmain;
      inputs = ones_in 16 e.input_mask;
      outputs = ones_in 16 e.output_mask;
      constants = e.constants.count;
      words = m.words;
      total = m.total;
    }
report_with e (refused number word) = no_report

unfoldable pub report_of : List ℕ → Program → ℕ → Report
report_of file p index = let e = executable_of file index in report_with e (flow_in (words_of file p.words) e)
