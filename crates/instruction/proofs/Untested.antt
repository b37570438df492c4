-- Which opcodes a visit tests nothing of.
-- Assumes nothing.
use mathlib.Core.Path.{◌≡◌}
use mathlib.Core.Bool.{not, ◌&&◌, ◌||◌}
use Prim.Native.Nat.{ℕ}
use native.Mathlib.Omega.{arith}
use lib.Dec.{leb, eqb}
use Rattle.bits.specs.Fields.{field}
use Rattle.instruction.specs.Control.{control_of, is_untested}
use Rattle.instruction.specs.Words.{decode_of}
use Rattle.instruction.proofs.Formats.{by_range}

-- all but 20h and 23h to 2Dh
pub untested_of : (w : ℕ) → is_untested (control_of w) ≡ not (eqb (field 26 6 w) 0x20 || (leb 0x23 (field 26 6 w) && leb (field 26 6 w) 0x2d))
unfolding control_of decode_of
untested_of w = grind (arith, by_range)
