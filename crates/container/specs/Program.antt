-- The header and the DVLP (document 01, 'Layout of a library'; the offsets are those of documents 000 and
-- 001), and refusals 1 to 8.
-- Assumes nothing.
use Rattle.std.specs.Prelude.{ℕ, ◌+◌, ◌*◌, Bool, not, ◌||◌, List, [], ◌∷◌, eqb, ltb, length, drop}
use Rattle.answer.specs.Faults.{fault_if, or_else}
use Rattle.answer.specs.Faults.{Fault}
use Rattle.binary.specs.Addresses.{byte_offset}
use Rattle.binary.specs.Bytes.{u32_at}
use Rattle.container.specs.Placement.{table_at, misplaced, words_meet, words_meet_table}
use Rattle.container.specs.declared.programs.Limits.{Limits}
use Rattle.container.specs.declared.programs.Program.{Program}

-- 'Header: "DVLB", N (u32), N offsets (u32). DVLP follows at byte 8+4N'
abbrev pub count_of : List ℕ → ℕ
count_of file = u32_at file 4

abbrev pub program_base : List ℕ → ℕ
program_base file = 8 + count_of file * 4

abbrev pub program_of : List ℕ → Program
program_of file =
    let base = program_base file in
    let section = drop base file in
    record {
      words = table_at section base 0x08;
      descriptors = table_at section base 0x10;
      lines = table_at section base 0x18;
      file_names = table_at section base 0x20;
    }

-- a section begins with its name of four letters
abbrev pub DVLB : List ℕ
DVLB = 0x44 ∷ 0x56 ∷ 0x4c ∷ 0x42 ∷ []

abbrev pub DVLP : List ℕ
DVLP = 0x44 ∷ 0x56 ∷ 0x4c ∷ 0x50 ∷ []

abbrev pub named : List ℕ → List ℕ → ℕ → Bool
named name file at = eqb (u32_at file at) (u32_at name 0)

-- 1: file over 65,536 bytes. 2: file under 8 bytes. 3: no "DVLB". 4: N is 0 or over 16
unfoldable pub header_fault : List ℕ → Fault
header_fault file =
    or_else (fault_if (ltb 65536 (length file)) 1 0)
    (or_else (fault_if (ltb (length file) 8) 2 0)
    (or_else (fault_if (not (named DVLB file 0)) 3 0)
    (fault_if (eqb (count_of file) 0 || ltb 16 (count_of file)) 4 0)))

-- 7: words 0 or over 512, or descriptors over 128; the limits are parameters
unfoldable pub bad_sizes : Limits → Program → Bool
bad_sizes most p = eqb p.words.count 0 || (ltb most.words p.words.count || ltb most.descriptors p.descriptors.count)

-- 8: a DVLP table unaligned or outside the file; the symbol table needs no alignment ..
unfoldable pub misplaced_table : ℕ → Program → Bool
misplaced_table bytes p =
    misplaced 4 4 bytes p.words
    || (misplaced 4 8 bytes p.descriptors || (misplaced 4 8 bytes p.lines || misplaced 1 1 bytes p.file_names))

-- .. or the opcode table overlapping the header and DVLP, which are the file's first bytes, or another DVLP
-- table
unfoldable pub overlapped_words : ℕ → Program → Bool
overlapped_words size p =
    words_meet p.words (record { start = byte_offset 0; size = size })
    || (words_meet_table p.words 8 p.descriptors || (words_meet_table p.words 8 p.lines || words_meet_table p.words 1 p.file_names))

-- 5: 48+4N over the file length. 6: no "DVLP". 7, 8
unfoldable pub program_fault : Limits → List ℕ → Fault
program_fault most file =
    let p = program_of file in
    or_else (fault_if (ltb (length file) (program_base file + 40)) 5 0)
    (or_else (fault_if (not (named DVLP file (program_base file))) 6 0)
    (or_else (fault_if (bad_sizes most p) 7 0)
    (fault_if (misplaced_table (length file) p || overlapped_words (program_base file + 40) p) 8 0)))

unfoldable pub library_fault : Limits → List ℕ → Fault
library_fault most file = or_else (header_fault file) (program_fault most file)
