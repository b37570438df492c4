-- `descriptors_of` meets its contract. Before each turn those below index are there. Assumes nothing.
use Rattle.std.proofs.Common.{◌≡◌, ℕ, ◌*◌, ◌<◌, get_or}
use Rattle.binary.specs.Bytes.{u32_at}
use Rattle.listing.proofs.descriptors_of.Given as goal

abbrev pub invariant-loop-index : goal.invariant-loop-index
invariant-loop-index l = (k d : ℕ) → k < l.index → get_or l.descriptor-items k d ≡ u32_at l.bytes (k * 8)
