-- The visitor may be called again, and it was called at as many libraries as turns were made; of an input
-- with nothing in it, nothing was read and nothing written.
use Rattle.std.proofs.Common.{◌≡◌, [], Some, true, List, ℕ, length}
use Rattle.std.specs.List.{FoldsTo}
use Rattle.stream.specs.Stream.{Visits}
use Rattle.stream.proofs.each_library.Given as goal

abbrev pub invariant-loop : goal.invariant-loop
invariant-loop g l =
    record {
      callable : goal.F-IsAlwaysCallable g l.visit;
      visited : (libraries : List (List ℕ)) × (length libraries ≡ l.counter) × FoldsTo (Visits g.R.Read.remaining (goal.F-step g) true) (l.initial.input, (l.initial.output, l.initial.visit)) libraries (l.input, (l.output, l.visit));
      nothing : g.R.Read.remaining l.initial.input ≡ Some [] → (l.input ≡ l.initial.input) × (l.output ≡ l.initial.output);
    }
