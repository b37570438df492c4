-- `words::load_words` meets its contract. Before each turn the words below p are there. Assumes nothing.
use Rattle.std.proofs.Common.{◌≡◌, ℕ, ◌*◌, ◌<◌, get_or}
use Rattle.binary.specs.Bytes.{u32_at}
use Rattle.verifier.proofs.words.load_words.Given as goal

abbrev pub invariant-loop-p : goal.invariant-loop-p
invariant-loop-p l = (k d : ℕ) → k < l.p → get_or l.word-items k d ≡ u32_at l.bytes (k * 4)
