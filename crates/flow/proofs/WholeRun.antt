-- Demand 3, over any rules: if the words pass 9, 11 and 12 and the flow check meets no fault, the whole run
-- stays inside the tables and the limits and ends within the total. Assumes nothing.
use mathlib.Core.Path.{◌≡◌, refl}
use mathlib.Core.List.{List, [], ◌∷◌}
use Prim.Native.Nat.{ℕ, ◌≤◌, ◌<◌}
use native.Mathlib.Omega.{arith}
use lib.ListN.{length}
use Rattle.answer.specs.Faults.{Nothing}
use Rattle.flow.specs.Rules.{Code, Rules}
use Rattle.flow.specs.Stepping.{Settings, State, start}
use Rattle.flow.specs.Visits.{Visit, main_trace, flow_fault, total, weighted}
use Rattle.flow.specs.WholeRun.{GoodWord, Whole, measured}
use Rattle.flow.proofs.Machine.{Spent, main_spent}
use Rattle.flow.proofs.Stops.{clear}

one_each : ℕ → ℕ
one_each p = 1

total_is : (vs : List Visit) → weighted one_each vs ≡ total vs
unfolding one_each
total_is [] = refl
total_is (v ∷ vs) = omega (arith, total_is vs)

length_is : (l : List State) → measured one_each l ≡ length l
unfolding one_each
length_is [] = refl
length_is (s ∷ l) = omega (arith, length_is l)

module _ (C : Code) (R : Rules) (good : (p : ℕ) → p < C.words → GoodWord C p) (v : Settings) (fair : (r : ℕ) → r ≤ 3 → v.ints r < R.turns r)
    (m E : ℕ) (h : m < E) (o : E ≤ C.words) (none : flow_fault C R m E ≡ Nothing) where
  -- at any measure of words that counts each as one at least: the fetches come to no more than the visits
  pub measured_run : (g : ℕ → ℕ) (pos : (p : ℕ) → 1 ≤ g p)
      → Spent C R g pos good v fair (weighted g (main_trace C R m E).visits) (weighted g (main_trace C R m E).visits) (start m E)
  measured_run g pos = let c = clear C R m E o none in main_spent C R g pos good v fair m E h o c.goes_on c.ends

  pub whole_run : Whole C v R.calls R.ifs R.loops (total (main_trace C R m E).visits) (start m E)
  unfolding one_each
  whole_run =
      let w = measured_run one_each (λ p. omega arith) in
      let e = total_is (main_trace C R m E).visits in
      record { fetched = w.fetched; ends = rw e at w.ending; kept = w.kept; steps = omega (arith, e, length_is w.fetched, w.cost) }
