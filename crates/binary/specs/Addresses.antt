-- Word addresses and byte offsets ('The source speaks of offsets in bytes and addresses in words').
-- Assumes nothing.
use Rattle.std.specs.Prelude.{ℕ, ◌*◌}
use Rattle.binary.specs.declared.ByteOffset.{ByteOffset}
use Rattle.binary.specs.declared.WordAddress.{WordAddress}

abbrev pub byte_offset : ℕ → ByteOffset
byte_offset n = record { 0 = n }

abbrev pub word_address : ℕ → WordAddress
word_address n = record { 0 = n }

-- the one conversion: where a word starts, counted from the start of the opcode table; a word has 4 bytes
abbrev pub offset_of_word : WordAddress → ByteOffset
offset_of_word a = byte_offset (a.0 * 4)
