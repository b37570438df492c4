-- The visitor may be called again, and it was called at as many names as were counted.
use Rattle.std.proofs.Common.{◌≡◌, List, ℕ, length, ◌+◌, Ok}
use Rattle.std.specs.Fn.{CalledAt}
use Rattle.std.specs.List.{FoldsTo}
use Rattle.inputs.proofs.each_argument.Given as goal

abbrev pub invariant-loop-index : goal.invariant-loop-index
invariant-loop-index g l =
    record {
      callable : goal.F-IsAlwaysCallable g l.visit;
      counted : l.visits + 1 ≡ l.index;
      visited : (names : List (List ℕ)) × (length names ≡ l.visits) × FoldsTo (λ f name after. CalledAt g.F.FnMut f name (Ok tt) after) l.initial.visit names l.visit;
    }
