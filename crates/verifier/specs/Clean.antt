-- A clean file: one line for each row of document 01's table of refusals, 1 to 28, that says that it does not
-- apply ('Numbers given back').
-- The check accepts exactly these files: proofs/Clean.antt, clean and accepted.
-- Assumes nothing.
use Rattle.std.specs.Prelude.{◌≡◌, true, false, List, [], ◌∷◌, ℕ, ◌+◌, ◌*◌, ◌-◌, ◌%◌, ◌≤◌, ◌<◌, length, Some}
use Rattle.binary.specs.Addresses.{byte_offset}
use Rattle.binary.specs.Ranges.{Holds}
use Rattle.binary.specs.declared.Range.{Range}
use Rattle.container.specs.Executable.{DVLE, section_at, executable_base, executable_of}
use Rattle.container.specs.Placement.{table_range}
use Rattle.container.specs.Program.{DVLB, DVLP, named, count_of, program_base, program_of}
use Rattle.container.specs.declared.executables.Executable.{Executable}
use Rattle.container.specs.declared.placement.Table.{Table}
use Rattle.container.specs.declared.programs.Program.{Program}
use Rattle.flow.specs.Flow.{code_of}
use Rattle.flow.specs.Own.{own_words, has}
use Rattle.flow.specs.Rules.{Code}
use Rattle.flow.specs.Visits.{Visit, bad22, bad23, bad24, bad25, bad26, is_end, main_trace, total}
use Rattle.instruction.specs.Control.{control_of}
use Rattle.instruction.specs.Operands.{descriptor_of, operators_of}
use Rattle.instruction.specs.declared.flow_control.Control.TheVariants.{Unknown, Loop}
use Rattle.binary.specs.declared.WordAddress.{WordAddress}
use Rattle.instruction.specs.declared.operand.CompareOperators.{CompareOperators}
use Rattle.tables.specs.Constants.{entry_of, is_bad, convert_of}
use Rattle.tables.specs.Entries.{good_output, in_one_kind, label_address, label_name, uniform_name, uniform_start, uniform_end}
use Rattle.tables.specs.Names.{good_name}
use Rattle.verifier.specs.Executables.{entry_at, symbols_of, rules_for}
use Rattle.verifier.specs.Words.{word_at, words_of}

-- 'A table with count 0 has no offset to test'; any other starts at a multiple of align from its section's
-- start, and its entries of size bytes end inside the file
pub record InPlace (align size bytes : ℕ) (t : Table) : Type 0 where
  pub aligned : t.offset % align ≡ 0
  pub inside : t.start.0 + t.count * size ≤ bytes

abbrev pub Placed : ℕ → ℕ → ℕ → Table → Type 0
Placed align size bytes t = (t.count ≡ 0 → ⊥) → InPlace align size bytes t

-- the opcode table shares no byte with a range
abbrev pub Apart : Table → Range → Type 0
Apart words r = (k : ℕ) → Holds (table_range 4 words) k → Holds r k → ⊥

-- the tables of the DVLP, in place; the opcode table apart from the header and the DVLP, which are the file's
-- first bytes, and from the others
pub record ProgramTables (file : List ℕ) (p : Program) : Type 0 where
  pub words : Placed 4 4 (length file) p.words
  pub descriptors : Placed 4 8 (length file) p.descriptors
  pub lines : Placed 4 8 (length file) p.lines
  pub names : Placed 1 1 (length file) p.file_names
  pub apart_header : Apart p.words (record { start = byte_offset 0; size = program_base file + 40 })
  pub apart_descriptors : Apart p.words (table_range 8 p.descriptors)
  pub apart_lines : Apart p.words (table_range 8 p.lines)
  pub apart_names : Apart p.words (table_range 1 p.file_names)

-- a DVLE at a multiple of 4, its 64 bytes inside the file and apart from the opcode table
pub record Section (file : List ℕ) (words : Table) (base : ℕ) : Type 0 where
  pub aligned : base % 4 ≡ 0
  pub inside : base + 64 ≤ length file
  pub apart_words : Apart words (section_at base)

-- the tables of a DVLE, in place and apart from the opcode table
pub record ExecutableTables (file : List ℕ) (words : Table) (e : Executable) : Type 0 where
  pub constants : Placed 4 20 (length file) e.constants
  pub labels : Placed 4 16 (length file) e.labels
  pub outputs : Placed 4 8 (length file) e.outputs
  pub uniforms : Placed 4 8 (length file) e.uniforms
  pub symbols : Placed 1 1 (length file) e.symbols
  pub apart_constants : Apart words (table_range 20 e.constants)
  pub apart_labels : Apart words (table_range 16 e.labels)
  pub apart_outputs : Apart words (table_range 8 e.outputs)
  pub apart_uniforms : Apart words (table_range 8 e.uniforms)
  pub apart_symbols : Apart words (table_range 1 e.symbols)

-- a label in a library of so many words: its address, and its name in the symbol table
pub record GoodLabel (words : ℕ) (symbols s : List ℕ) : Type 0 where
  pub address : label_address s ≤ words
  pub name : good_name symbols (label_name s) ≡ true

pub record GoodUniform (symbols s : List ℕ) : Type 0 where
  pub order : uniform_start s ≤ uniform_end s
  pub kind : in_one_kind (uniform_start s) (uniform_end s) ≡ true
  pub name : good_name symbols (uniform_name s) ≡ true

-- at every visit
abbrev pub Every : (Visit → Type 0) → List Visit → Type 0
Every P [] = Unit
Every P (v ∷ vs) = P v × Every P vs

-- 1 to 8
pub record CleanLibrary (file : List ℕ) : Type 0 where
  -- file over 65,536 bytes
  pub no1 : length file ≤ 65536
  -- file under 8 bytes
  pub no2 : 8 ≤ length file
  -- no "DVLB"
  pub no3 : named DVLB file 0 ≡ true
  -- N is 0 or over 16
  pub no4 : (1 ≤ count_of file) × (count_of file ≤ 16)
  -- 48+4N over the file length
  pub no5 : 48 + 4 * count_of file ≤ length file
  -- no "DVLP"
  pub no6 : named DVLP file (program_base file) ≡ true
  -- words 0 or over 512, or descriptors over 128
  pub no7 : (1 ≤ (program_of file).words.count) × ((program_of file).words.count ≤ 512) × ((program_of file).descriptors.count ≤ 128)
  -- a DVLP table unaligned or outside the file, or the opcode table overlapping the header, DVLP or another
  -- DVLP table
  pub no8 : ProgramTables file (program_of file)

-- 9 to 12 of a word, in a library of so many descriptors
pub record CleanWord (descriptors w : ℕ) : Type 0 where
  -- unknown opcode
  pub no9 : control_of w ≡ Unknown → ⊥
  -- compare operator 6 or 7
  pub no10 : (o : CompareOperators) → operators_of w ≡ Some o → (o.x ≤ 5) × (o.y ≤ 5)
  -- descriptor ID not in the table
  pub no11 : (n : ℕ) → descriptor_of w ≡ Some n → n < descriptors
  -- LOOP register over 3
  pub no12 : (r : ℕ) (dst : WordAddress) → control_of w ≡ Loop r dst → r ≤ 3

-- the words as a program with so many descriptors; the visits of an executable's main, for which the flow
-- check looks at none
abbrev pub code_in : List ℕ → Program → ℕ → Code
code_in file p descriptors = code_of (words_of file p.words) descriptors

abbrev pub visits_in : List ℕ → Program → Executable → List Visit
visits_in file p e = (main_trace (code_in file p 0) (rules_for e) e.main.0 e.endmain.0).visits

-- 13 to 28 of an executable, at an index of a library with this program
module _ (file : List ℕ) (p : Program) (index : ℕ) where
  abbrev e : Executable
  e = executable_of file index

  abbrev C : Code
  C = code_in file p 0

  abbrev EachEntry : Table → ℕ → (List ℕ → Type 0) → Type 0
  EachEntry t size P = (j : ℕ) → j < t.count → P (entry_at file t size j)

  abbrev EachVisit : (Visit → Type 0) → Type 0
  EachVisit P = Every P (visits_in file p e)

  pub record CleanExecutable : Type 0 where
    -- DVLE offset unaligned, or its 64 bytes outside or in the opcode table in part
    pub no13 : Section file p.words (executable_base file index)
    -- no "DVLE"
    pub no14 : named DVLE file (executable_base file index) ≡ true
    -- type not 0 or 1
    pub no15 : e.shader_type ≤ 1
    -- not main < endmain ≤ words
    pub no16 : (e.main.0 < e.endmain.0) × (e.endmain.0 ≤ p.words.count)
    -- a DVLE table unaligned, outside or overlapping the opcode table
    pub no17 : ExecutableTables file p.words e
    -- bad constant, label, output, uniform
    pub no18 : EachEntry e.constants 20 (λ s. is_bad (convert_of (entry_of s)) ≡ false)
    pub no19 : EachEntry e.labels 16 (GoodLabel p.words.count (symbols_of file e.symbols))
    pub no20 : EachEntry e.outputs 8 (λ s. good_output s ≡ true)
    pub no21 : EachEntry e.uniforms 8 (GoodUniform (symbols_of file e.symbols))
    -- EMIT or SETEMIT in type 0
    pub no22 : EachVisit (λ v. bad22 (rules_for e) (C.control v.word) ≡ false)
    -- BREAK or BREAKC with no LOOP open in the same main or called region
    pub no23 : EachVisit (λ v. bad23 (C.control v.word) v.opens ≡ false)
    -- bad bounds
    pub no24 : EachVisit (λ v. bad24 C (C.control v.word) v.word v.end ≡ false)
    -- opening one more than allowed
    pub no25 : EachVisit (λ v. bad25 (rules_for e) (C.control v.word) v.opens ≡ false)
    -- bad jump
    pub no26 : EachVisit (λ v. bad26 C (C.control v.word) v.word v.end ≡ false)
    -- total would pass 4,000,000
    pub no27 : total (visits_in file p e) ≤ 4000000
    -- endmain−1 is not END or not an own word of main
    pub no28 : (is_end (C.control (e.endmain.0 - 1)) ≡ true) × (has (own_words C e.main.0 e.endmain.0) (e.endmain.0 - 1) ≡ true)

-- none of 1 to 28 applies
pub record Clean (file : List ℕ) : Type 0 where
  pub library : CleanLibrary file
  pub words : (k : ℕ) → k < (program_of file).words.count → CleanWord (program_of file).descriptors.count (word_at file (program_of file).words k)
  pub executables : (i : ℕ) → i < count_of file → CleanExecutable file (program_of file) i
