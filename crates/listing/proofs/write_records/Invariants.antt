-- `write_records` meets its contract. Before each turn the records below index are written. Assumes nothing.
use Rattle.std.proofs.Common.{◌≡◌, ℕ, ◌-◌, ◌<◌, ◌≤◌, List}
use Rattle.listing.proofs.Laws.{Written}
use Rattle.listing.proofs.write_records.Given as goal

abbrev pub invariant-loop-index : goal.invariant-loop-index
invariant-loop-index g l =
    record {
      in_range : l.index ≤ l.count;
      written : (f : ℕ → List ℕ) → ((i : ℕ) (r : List ℕ) → i < l.count → goal.F-post g l.record_at i r → r ≡ f i) → Written f l.index l.initial.out l.out;
    }

abbrev pub decreases-loop-index : goal.decreases-loop-index
decreases-loop-index g l = l.count - l.index
