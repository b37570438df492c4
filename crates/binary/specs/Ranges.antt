-- Ranges of bytes, in natural numbers: 'Sums of offsets never wrap'.
-- Assumes nothing.
use Rattle.std.specs.Prelude.{ℕ, ◌+◌, ◌*◌, ◌≤◌, ◌<◌, Bool, ◌&&◌, leb, ltb}
use Rattle.binary.specs.declared.ByteOffset.{ByteOffset}
use Rattle.binary.specs.declared.Range.{Range}

-- count entries of size bytes each
abbrev pub range_of : ByteOffset → ℕ → ℕ → Range
range_of start count size = record { start = start; size = count * size }

-- the first byte past the range
abbrev pub end_of : Range → ℕ
end_of r = r.start.0 + r.size

-- ends inside a file of so many bytes. An empty range is asked too: whoever has nothing to test for an empty
-- table does not ask
abbrev pub inside : Range → ℕ → Bool
inside r bytes = leb (end_of r) bytes

-- the byte at an offset is in the range
abbrev pub Holds : Range → ℕ → Type 0
Holds r at = (r.start.0 ≤ at) × (at < end_of r)

-- two ranges share a byte; an empty range shares none
abbrev pub share : Range → Range → Bool
share a b = ltb 0 a.size && ltb 0 b.size && ltb a.start.0 (end_of b) && ltb b.start.0 (end_of a)
