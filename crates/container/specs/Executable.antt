-- A DVLE (document 01, 'Layout of a library'; the offsets are those of documents 000 and 001), and refusals
-- 13 to 17.
-- Assumes nothing.
use Rattle.std.specs.Prelude.{ℕ, ◌+◌, ◌*◌, ◌%◌, Bool, not, ◌&&◌, ◌||◌, List, [], ◌∷◌, eqb, leb, ltb, length, drop}
use Rattle.answer.specs.Faults.{fault_if, or_else}
use Rattle.answer.specs.Faults.{Fault}
use Rattle.binary.specs.Addresses.{byte_offset, word_address}
use Rattle.binary.specs.Bytes.{u8_at, u16_at, u32_at}
use Rattle.binary.specs.Ranges.{inside}
use Rattle.binary.specs.declared.Range.{Range}
use Rattle.container.specs.Placement.{table_at, misplaced, words_meet, words_meet_table}
use Rattle.container.specs.Program.{named}
use Rattle.container.specs.declared.executables.Executable.{Executable}
use Rattle.container.specs.declared.placement.Table.{Table}

-- 'DVLE: 64 bytes at each offset'
abbrev pub executable_base : List ℕ → ℕ → ℕ
executable_base file index = u32_at file (8 + index * 4)

abbrev pub executable_of : List ℕ → ℕ → Executable
executable_of file index =
    let base = executable_base file index in
    let section = drop base file in
    record {
      shader_type = u8_at section 0x06;
      main = word_address (u32_at section 0x08);
      endmain = word_address (u32_at section 0x0c);
      input_mask = u16_at section 0x10;
      output_mask = u16_at section 0x12;
      constants = table_at section base 0x18;
      labels = table_at section base 0x20;
      outputs = table_at section base 0x28;
      uniforms = table_at section base 0x30;
      symbols = table_at section base 0x38;
    }

abbrev pub DVLE : List ℕ
DVLE = 0x44 ∷ 0x56 ∷ 0x4c ∷ 0x45 ∷ []

abbrev pub section_at : ℕ → Range
section_at base = record { start = byte_offset base; size = 64 }

-- 13: DVLE offset unaligned, or its 64 bytes outside or in the opcode table in part
unfoldable pub misplaced_section : ℕ → Table → ℕ → Bool
misplaced_section base words bytes =
    not (eqb (base % 4) 0) || (not (inside (section_at base) bytes) || words_meet words (section_at base))

-- 16: not main < endmain ≤ words
unfoldable pub bad_entry : ℕ → ℕ → ℕ → Bool
bad_entry main endmain words = not (ltb main endmain && leb endmain words)

-- 17: a DVLE table unaligned, outside; the symbol table needs no alignment ..
unfoldable pub misplaced_tables : ℕ → Executable → Bool
misplaced_tables bytes e =
    misplaced 4 20 bytes e.constants
    || (misplaced 4 16 bytes e.labels
    || (misplaced 4 8 bytes e.outputs || (misplaced 4 8 bytes e.uniforms || misplaced 1 1 bytes e.symbols)))

-- .. or overlapping the opcode table
unfoldable pub overlapped_by_tables : Table → Executable → Bool
overlapped_by_tables words e =
    words_meet_table words 20 e.constants
    || (words_meet_table words 16 e.labels
    || (words_meet_table words 8 e.outputs || (words_meet_table words 8 e.uniforms || words_meet_table words 1 e.symbols)))

-- 13; 14: no "DVLE"; 15: type not 0 or 1, with the highest type a parameter; 16; 17. The place is the
-- executable's, words is the opcode table
unfoldable pub executable_fault : ℕ → Table → List ℕ → ℕ → ℕ → Fault
executable_fault mostType words file index place =
    let e = executable_of file index in
    or_else (fault_if (misplaced_section (executable_base file index) words (length file)) 13 place)
    (or_else (fault_if (not (named DVLE file (executable_base file index))) 14 place)
    (or_else (fault_if (ltb mostType e.shader_type) 15 place)
    (or_else (fault_if (bad_entry e.main.0 e.endmain.0 words.count) 16 place)
    (fault_if (misplaced_tables (length file) e || overlapped_by_tables words e) 17 place))))
