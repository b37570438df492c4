-- Tables and where they may lie (document 01, 'Layout of a library').
-- Assumes nothing.
use Rattle.std.specs.Prelude.{ℕ, ◌+◌, ◌%◌, Bool, not, ◌&&◌, ◌||◌, List, eqb}
use Rattle.binary.specs.Addresses.{byte_offset}
use Rattle.binary.specs.Bytes.{u32_at}
use Rattle.binary.specs.Ranges.{range_of, inside, share}
use Rattle.binary.specs.declared.Range.{Range}
use Rattle.container.specs.declared.placement.Table.{Table}

-- the table whose offset stands at a field of a section, and its count after it; the section starts at base
abbrev pub table_at : List ℕ → ℕ → ℕ → Table
table_at section base field =
    record {
      offset = u32_at section field;
      start = byte_offset (base + u32_at section field);
      count = u32_at section (field + 4);
    }

-- the bytes of a table, at so many an entry
abbrev pub table_range : ℕ → Table → Range
table_range size t = range_of t.start t.count size

-- 'the others start at multiples of 4 from their section start': unaligned, counted from there, or outside
-- the file; never with count 0, which 'has no offset to test'
unfoldable pub misplaced : ℕ → ℕ → ℕ → Table → Bool
misplaced align size bytes t =
    not (eqb t.count 0) && (not (eqb (t.offset % align) 0) || not (inside (table_range size t) bytes))

-- the opcode table, whose entries have 4 bytes, overlapping a range of bytes or another table; an empty table
-- overlaps nothing
unfoldable pub words_meet : Table → Range → Bool
words_meet words r = share (table_range 4 words) r

abbrev pub words_meet_table : Table → ℕ → Table → Bool
words_meet_table words size t = words_meet words (table_range size t)
