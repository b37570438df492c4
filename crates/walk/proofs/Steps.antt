-- A step of the stepping rules is a move of the engine. Assumes nothing.
use mathlib.Core.Path.{◌≡◌, refl, sym, ap, ◌∙◌}
use mathlib.Core.Bool.{Bool, true, false, not}
use mathlib.Core.List.{List, [], ◌∷◌}
use Rattle.std.proofs.Common.{Option, Some, None, is_none}
use Prim.Native.Nat.{ℕ, zero, suc, ◌+◌, ◌-◌, ◌≤◌}
use native.Mathlib.Omega.{arith}
use lib.Dec.{eqb, leb, ltb}
use lib.ListN.{length}
use borrow.Author.Tests.{lt-ltb, eqb-true}
use Rattle.flow.specs.Rules.{pick}
use Rattle.flow.specs.Stepping.{Settings, State, state, Open, main, part, body, called, Next, ends, stuck, goes, arrive, break, holds, reads, on, execute}
use Rattle.flow.specs.WholeRun.{open_calls, open_ifs, open_loops}
use Rattle.instruction.specs.declared.flow_control.Condition.{Condition}
use Rattle.instruction.specs.declared.flow_control.Condition.TheVariants.{Always, Compared, Uniform}
use Rattle.instruction.specs.declared.flow_control.Control.{Control}
use Rattle.instruction.specs.declared.flow_control.Control.TheVariants.{Unknown, Plain, Emit, End, Break, If, Loop, Call, Jump}
use Rattle.walk.specs.Inside.{frame, shown, Standing, standing, closing, leaving, view, move_of, left_after, arrived_at, arrive_by, followed}
use Rattle.walk.specs.declared.frames.After.TheVariants.{GoOn, Turns}
use Rattle.walk.specs.declared.frames.Frame.{Frame}
use Rattle.walk.specs.declared.moves.Move.{Move}
use Rattle.walk.specs.declared.moves.Move.TheVariants as move
use Rattle.walk.proofs.Truths.{Left, truth_is, left_is}

-- at most as many frames as regions are open, with main
pub shown_few : (os : List Open) → length (shown os) ≤ open_calls os + open_ifs os + open_loops os + 1
shown_few [] = omega arith
shown_few (main e ∷ os) = omega arith
shown_few (part e q ∷ os) = omega (arith, shown_few os)
shown_few (body e s k ∷ os) = omega (arith, shown_few os)
shown_few (called e q ∷ os) = omega (arith, shown_few os)

-- what the engine shows of a state, and the outcomes read there
pub record Shows (n : ℕ) (st : Standing) (s : State) : Type 0 where
  pub seen : st ≡ view s
  pub count : s.read ≡ n

either : {n : ℕ} (b : Bool) {x y : Standing} {s t : State} → Shows n x s → Shows n y t → Shows n (pick b x y) (pick b s t)
either true a b = a
either false a b = b

same : {n : ℕ} {p : ℕ} {os : List Open} → Shows n (standing p (shown os)) (state p os n)
same = record { seen = refl; count = refl }

-- arriving
arrives : (n : ℕ) (os : List Open) (p : ℕ) → Shows n (closing p (shown os)) (arrive n os p)
unfolding closing arrive
arrives n [] p = same
arrives n (main e ∷ os) p = by (eqb p e) refl
  where
    by : (b : Bool) → eqb p e ≡ b → Shows n (pick b (standing e []) (standing p (frame e (GoOn e) ∷ []))) (pick b (state p [] n) (state p (main e ∷ os) n))
    by true h = record { seen = ap (λ k. standing k []) (sym (eqb-true p e h)); count = refl }
    by false h = same
arrives n (part e q ∷ os) p = either (eqb p e) (arrives n os q) same
arrives n (body e s zero ∷ os) p = either (eqb p e) (arrives n os e) same
arrives n (body e s (suc k) ∷ os) p =
    let more : ltb 0 (suc k) ≡ true = lt-ltb 0 (suc k) (omega arith) in
    let less : suc k - 1 ≡ k = omega arith in
    either (eqb p e) (rw (more, less) (by (eqb s e) (arrives n os e))) same
  where
    by : (b : Bool) → Shows n (closing e (shown os)) (arrive n os e)
        → Shows n (pick (not b) (standing s (frame e (Turns s k) ∷ shown os)) (closing e (shown os))) (pick b (arrive n os e) (state s (body e s k ∷ os) n))
    by true h = h
    by false h = same
arrives n (called e q ∷ os) p = either (eqb p e) (arrives n os q) same

inside : {s t : State} → goes s ≡ goes t → s ≡ t
inside e = cc

-- a next state that is arrived at
arrived : {n : ℕ} (os : List Open) (p : ℕ) {s : State} → on n os p ≡ goes s → Shows n (closing p (shown os)) s
arrived {n} os p e = rw (inside e) at (arrives n os p)

-- there is a standing, and arriving there gives the state
record Leaves (n : ℕ) (o : Option Standing) (s : State) : Type 0 where
  there : Standing
  found : o ≡ Some there
  shows : Shows n (closing there.word there.frames) s

-- leaving the innermost LOOP
left : {n : ℕ} (os : List Open) {s : State} → break n os ≡ goes s → Leaves n (leaving (shown os)) s
unfolding break leaving
left [] h = absurd (let z : ◌≡◌ {A = ℕ} 0 1 = cc in omega arith)
left (main e ∷ os) h = absurd (let z : ◌≡◌ {A = ℕ} 0 1 = cc in omega arith)
left (part e q ∷ os) h = left os h
left (body e s k ∷ os) h = record { there = standing e (shown os); found = refl; shows = arrived os e h }
left (called e q ∷ os) h = left os h

-- whether a run has no next step, and whether it has ended
abbrev pub halts : Next → Bool
halts ends = true
halts stuck = true
halts (goes s) = false

abbrev pub finished : Next → Bool
finished ends = true
finished stuck = false
finished (goes s) = false

-- what follows is what the engine reaches, with so many outcomes read
pub record Leads (n : ℕ) (x : Next) (st : Standing) : Type 0 where
  pub next : (s : State) → x ≡ goes s → Shows n st s
  pub on : finished x ≡ false

-- where nothing is reached, a run has no next step
abbrev pub Reached : ℕ → Next → Option Standing → Type 0
Reached n x None = halts x ≡ true
Reached n x (Some st) = Leads n x st

-- what follows a word is what its move leads to, from these frames on; the run ends where no move is asked
-- for, and there alone; k outcomes are read with it, at most one more than the n before
pub record Follows (fs : List Frame) (n k : ℕ) (x : Next) (asked : Option Move) : Type 0 where
  pub leads : Reached k x (followed fs asked)
  pub end : finished x ≡ is_none asked
  pub few : k ≤ n + 1

by_truth : {fs : List Frame} {n k : ℕ} (b : Bool) {x y : Next} {m m' : Move} → Follows fs n k x (Some m) → Follows fs n k y (Some m')
    → Follows fs n k (pick b x y) (Some (pick b m m'))
by_truth true f g = f
by_truth false f g = g

-- a word that goes on or opens a region; one that leaves a LOOP; one that has no next step
going : {fs : List Frame} {n k : ℕ} {m : Move} (os : List Open) (p : ℕ) → arrive_by fs m ≡ Some (closing p (shown os)) → k ≤ n + 1 → Follows fs n k (on k os p) (Some m)
going os p e few = record { leads = rw e (record { next = λ s h. arrived os p h; on = refl }); end = refl; few = few }

goes_on : (n : ℕ) (os : List Open) → finished (break n os) ≡ false
unfolding break
goes_on n [] = refl
goes_on n (main e ∷ os) = refl
goes_on n (part e q ∷ os) = goes_on n os
goes_on n (body e s k ∷ os) = refl
goes_on n (called e q ∷ os) = goes_on n os

breaking : (n : ℕ) (os : List Open) → Reached n (break n os) (arrived_at (leaving (shown os)))
breaking n os = by (leaving (shown os)) (break n os) refl refl
  where
    by : (o : Option Standing) (x : Next) → leaving (shown os) ≡ o → break n os ≡ x → Reached n x (arrived_at o)
    by None ends e q = refl
    by None stuck e q = refl
    by None (goes s) e q = absurd (let z : ◌≡◌ {A = ℕ} 0 1 = cc (sym e ∙ (left os q).found) in omega arith)
    by (Some st) x e q = record {
      next = λ s g.
          let l = left os (q ∙ g) in
          let h : st ≡ l.there = cc (sym e ∙ l.found) in
          rw h l.shows;
      on = sym (ap finished q) ∙ goes_on n os;
    }

leaving_one : (os : List Open) {n k : ℕ} → k ≤ n + 1 → Follows (shown os) n k (break k os) (Some move.Leave)
leaving_one os few = record { leads = breaking _ os; end = goes_on _ os; few = few }

no_step : {fs : List Frame} {n : ℕ} {m : Move} {st : Standing} → arrive_by fs m ≡ Some st → Follows fs n n stuck (Some m)
no_step e = record { leads = rw e (record { next = λ s h. absurd (let z : ◌≡◌ {A = ℕ} 0 1 = cc in omega arith); on = refl }); end = refl; few = omega arith }

-- how many outcomes are read after a word
abbrev pub read_after : Control → ℕ → ℕ
read_after Unknown n = n
read_after Plain n = n
read_after Emit n = n
read_after End n = n
read_after (Break c) n = reads c n
read_after (If c dst num) n = reads c n
read_after (Loop r dst) n = n
read_after (Call c dst num) n = reads c n
read_after (Jump c dst num) n = reads c n

pub left_then : (v : Settings) (i : Control) (n : ℕ) (l : List ℕ) → Left v n l → Left v (read_after i n) (left_after i l)
left_then v Unknown n l h = h
left_then v Plain n l h = h
left_then v Emit n l h = h
left_then v End n l h = h
left_then v (Break c) n l h = left_is v c n l h
left_then v (If c dst num) n l h = left_is v c n l h
left_then v (Loop r dst) n l h = h
left_then v (Call c dst num) n l h = left_is v c n l h
left_then v (Jump c dst num) n l h = left_is v c n l h

reads_few : (c : Condition) (n : ℕ) → reads c n ≤ n + 1
reads_few Always n = omega arith
reads_few Compared n = omega arith
reads_few (Uniform b) n = omega arith

pub follows : (v : Settings) (i : Control) (p : ℕ) (os : List Open) (n : ℕ) (l : List ℕ) → Left v n l
    → Follows (shown os) n (read_after i n) (execute v i p os n) (move_of v i (p + 1) l)
unfolding execute
follows v Unknown p os n l h = no_step refl
follows v Plain p os n l h = going os (p + 1) refl (omega arith)
follows v Emit p os n l h = going os (p + 1) refl (omega arith)
follows v End p os n l h = record { leads = refl; end = refl; few = omega arith }
follows v (Break c) p os n l h =
    let few = reads_few c n in
    rw (truth_is v c n l h) (by_truth (holds v c n) (leaving_one os few) (going os (p + 1) refl few))
follows v (If c dst num) p os n l h =
    let few = reads_few c n in
    rw (truth_is v c n l h) (by_truth (holds v c n)
    (going (part dst.0 (dst.0 + num) ∷ os) (p + 1) refl few)
    (going (part (dst.0 + num) (dst.0 + num) ∷ os) dst.0 refl few))
follows v (Loop r dst) p os n l h = one (leb r 3)
  where
    one : (b : Bool)
        → Follows (shown os) n n (pick b (on n (body (dst.0 + 1) (p + 1) (v.ints r) ∷ os) (p + 1)) stuck) (Some (move.Open (frame (dst.0 + 1) (Turns (p + 1) (v.ints r))) (p + 1)))
    one true = going (body (dst.0 + 1) (p + 1) (v.ints r) ∷ os) (p + 1) refl (omega arith)
    one false = no_step refl
follows v (Call c dst num) p os n l h =
    let few = reads_few c n in
    rw (truth_is v c n l h) (by_truth (holds v c n) (going (called (dst.0 + num) (p + 1) ∷ os) dst.0 refl few) (going os (p + 1) refl few))
follows v (Jump c dst num) p os n l h =
    let few = reads_few c n in
    rw (truth_is v c n l h) (by_truth (holds v c n) (going os dst.0 refl few) (going os (p + 1) refl few))
