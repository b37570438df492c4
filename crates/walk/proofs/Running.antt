-- The engine's loop: where a run stands after some steps, and what is left of it. All that is known of the
-- run is that it ends as a whole. Assumes nothing.
use mathlib.Core.Path.{◌≡◌, refl, sym, ap, ◌∙◌}
use mathlib.Core.Bool.{Bool, true, false, ◌&&◌}
use mathlib.Core.List.{List, [], ◌∷◌, ◌++◌, append_assoc, append-nil}
use Rattle.std.proofs.Common.{Some, None}
use Prim.Native.Nat.{ℕ, zero, suc, ◌+◌, ◌≤◌, ◌<◌}
use native.Mathlib.Omega.{arith}
use lib.Dec.{ltb}
use lib.ListN.{length, get_or, set, length-append}
use lib.Seq.{sets}
use Rattle.flow.proofs.Tests.{true_not_false}
use Rattle.flow.specs.Flow.{code_of}
use Rattle.flow.specs.Rules.{Code, pick}
use Rattle.flow.specs.Stepping.{Settings, State, start, Next, ends, stuck, goes, execute, some_open, step, Run, done, failed, unfinished, after, onward, run}
use Rattle.flow.specs.WholeRun.{Good, All, each}
use Rattle.instruction.specs.Control.{control_of}
use Rattle.instruction.specs.declared.flow_control.Control.{Control}
use Rattle.instruction.specs.declared.flow_control.Control.TheVariants.{Plain}
use Rattle.verifier.proofs.Lists.{filled_at, sets_append}
use Rattle.walk.specs.Inside.{frame, shown, standing, view, move_of, left_after, followed, controls_of, Runs, fetches_by}
use Rattle.walk.specs.declared.frames.After.TheVariants.{GoOn}
use Rattle.walk.specs.declared.frames.Frame.{Frame}
use Rattle.walk.specs.Walk.{indices_of, fetches_in, truths_in}
use Rattle.walk.proofs.Steps.{Leads, Follows, halts, finished, follows, left_then, read_after, shown_few}
use Rattle.walk.proofs.Truths.{Left}

words_length : (l : List State) → length (indices_of l) ≡ length l
words_length [] = refl
words_length (s ∷ l) = ap suc (words_length l)

-- a word's control, out of the array
pub control_at : (ws : List ℕ) (i : ℕ) (d : Control) → i < length ws → get_or (controls_of ws) i d ≡ control_of (get_or ws i 0)
control_at ws i d h =
    let z : 0 + i ≡ i = omega arith in
    rw z at (filled_at (λ p. control_of (get_or ws p 0)) 0 512 Plain (length ws) i d h)

unstuck : (b : Bool) {e x : Next} → pick b e stuck ≡ x → (stuck ≡ x → ⊥) → e ≡ x
unstuck true h f = h
unstuck false h f = absurd (f h)

-- what the engine's arithmetic needs before each step
pub record Bounds (fs : List Frame) (word steps : ℕ) : Type 0 where
  pub inside : word < 512
  pub shallow : length fs < 16
  pub early : steps < 4000000

module _ (ws : List ℕ) (v : Settings) where
  abbrev C : Code
  C = code_of ws 0

  abbrev executed : State → Next
  executed s = execute v (control_of (get_or ws s.word 0)) s.word s.opens s.read

  -- a run does not look at descriptors
  pub run_same : (d n : ℕ) (s : State) → run (code_of ws d) v n s ≡ run C v n s
  unfolding run step
  run_same d zero s = refl
  run_same d (suc n) s = ap (λ (k : State → Run). onward s (step C v s) k) (λ i t. run_same d n t i)

  -- a run that ends begins with its first state
  record First (s : State) (l : List State) : Type 0 where
    rest : List State
    same : l ≡ s ∷ rest

  first : (n : ℕ) (s : State) {l : List State} → run C v n s ≡ done l → First s l
  unfolding run
  first zero s e = absurd (let z : ◌≡◌ {A = ℕ} 0 1 = cc in omega arith)
  first (suc n) s {l} e = by (step C v s) e
    where
      of : (r : Run) → after s r ≡ done l → First s l
      of (done l') h = record { rest = l'; same = cc }
      of (failed l') h = absurd (let z : ◌≡◌ {A = ℕ} 0 1 = cc in omega arith)
      of (unfinished l') h = absurd (let z : ◌≡◌ {A = ℕ} 0 1 = cc in omega arith)

      by : (x : Next) → onward s x (run C v n) ≡ done l → First s l
      by ends h = record { rest = []; same = cc }
      by stuck h = absurd (let z : ◌≡◌ {A = ℕ} 0 1 = cc in omega arith)
      by (goes t) h = of (run C v n t) h

  -- and then its word is the last, or leads to the next state
  data Then (s : State) (rest : List State) : Type 0 where
    last : executed s ≡ ends → rest ≡ [] → Then s rest
    more : (n : ℕ) (t : State) (l : List State) → executed s ≡ goes t → rest ≡ t ∷ l → run C v n t ≡ done (t ∷ l) → Then s rest

  then_on : (n : ℕ) (s : State) {rest : List State} → run C v n s ≡ done (s ∷ rest) → Then s rest
  unfolding run step
  then_on zero s e = absurd (let z : ◌≡◌ {A = ℕ} 0 1 = cc in omega arith)
  then_on (suc n) s {rest} e = by (step C v s) refl e
    where
      of : (t : State) (r : Run) → executed s ≡ goes t → run C v n t ≡ r → after s r ≡ done (s ∷ rest) → Then s rest
      of t (done l) x q h =
          let f = first n t q in
          let same : rest ≡ l = cc in
          more n t f.rest x (same ∙ f.same) (q ∙ ap done f.same)
      of t (failed l) x q h = absurd (let z : ◌≡◌ {A = ℕ} 0 1 = cc in omega arith)
      of t (unfinished l) x q h = absurd (let z : ◌≡◌ {A = ℕ} 0 1 = cc in omega arith)

      by : (x : Next) → step C v s ≡ x → onward s x (run C v n) ≡ done (s ∷ rest) → Then s rest
      by ends q h = last (unstuck (some_open s.opens && ltb s.word C.words) q (λ k. absurd (let z : ◌≡◌ {A = ℕ} 0 1 = cc in omega arith))) cc
      by stuck q h = absurd (let z : ◌≡◌ {A = ℕ} 0 1 = cc in omega arith)
      by (goes t) q h = of t (run C v n t) (unstuck (some_open s.opens && ltb s.word C.words) q (λ k. absurd (let z : ◌≡◌ {A = ℕ} 0 1 = cc in omega arith))) refl h

  head : {P : State → Type 0} {s : State} {l : List State} → All P (s ∷ l) → P s
  head (each p k) = p

  tail : {P : State → Type 0} {s : State} {l : List State} → All P (s ∷ l) → All P l
  tail (each p k) = k

  -- before a step: the state that is shown, and the states after it; the words fetched before, and what was
  -- written of them
  module _ (all old : List ℕ) where
    pub record Going (fs : List Frame) (word steps : ℕ) (left list : List ℕ) : Type 0 where
      pub descriptors : ℕ
      pub state : State
      pub rest : List State
      pub bound : ℕ
      pub runs : run C v bound state ≡ done (state ∷ rest)
      pub kept : All (Good (code_of ws descriptors) 4 8 2) (state ∷ rest)
      pub seen : standing word fs ≡ view state
      pub outcomes : Left v state.read left
      pub before : List ℕ
      pub made : length before ≡ steps
      pub whole : all ≡ before ++ indices_of (state ∷ rest)
      pub written : list ≡ sets old 0 before

    module _ {fs : List Frame} {word steps : ℕ} {left list : List ℕ} (g : Going fs word steps left list) where
      here : word ≡ g.state.word
      here = ap (λ s. s.word) g.seen

      good : Good (code_of ws g.descriptors) 4 8 2 g.state
      good = head g.kept

      -- the word is in the table, few regions are open, and there is more to fetch than was
      pub word_inside : word < length ws
      word_inside = rw here good.inside

      pub shallow : length fs ≤ 15
      shallow =
          let e : length fs ≡ length (shown g.state.opens) = ap (λ s. length s.frames) g.seen in
          omega (arith, e, shown_few g.state.opens, good.few_calls, good.few_ifs, good.few_loops)

      pub early : steps < length all
      early =
          let e : length all ≡ length g.before + suc (length (indices_of g.rest)) = ap length g.whole ∙ length-append g.before (indices_of (g.state ∷ g.rest)) in
          omega (arith, e, g.made)

      -- the word that is fetched
      noted : set list steps word ≡ sets old 0 (g.before ++ word ∷ [])
      noted =
          let z : 0 + length g.before ≡ steps = omega (arith, g.made) in
          rw (g.written, sets_append g.before (word ∷ []) old 0, z)

      fetched : {l : List State} → g.rest ≡ l → all ≡ g.before ++ word ∷ [] ++ indices_of l
      fetched e = g.whole ∙ rw (here, e) (sym (append_assoc g.before (g.state.word ∷ []) _))

      abbrev control : Control
      control = control_of (get_or ws word 0)

      control_is : {controls : List Control} (d : Control) → controls ≡ controls_of ws → get_or controls word d ≡ control
      control_is d e = rw e (control_at ws word d word_inside)

      follow : Follows fs g.state.read (read_after control g.state.read) (executed g.state) (move_of v control (word + 1) left)
      follow =
          let frames : fs ≡ shown g.state.opens = ap (λ y. y.frames) g.seen in
          rw (here, frames) (follows v (control_of (get_or ws g.state.word 0)) g.state.word g.state.opens g.state.read left g.outcomes)

      -- a move leads to the next state
      pub goes_on : {controls : List Control} {fs' : List Frame} {word' : ℕ} {left' list' : List ℕ} (d : Control) → controls ≡ controls_of ws
          → Some (standing word' fs') ≡ followed fs (move_of v (get_or controls word d) (word + 1) left)
          → left' ≡ left_after (get_or controls word d) left → list' ≡ set list steps word → Going fs' word' (steps + 1) left' list'
      goes_on {controls} {fs'} {word'} {left'} {list'} d is e o w =
          let reached : Some (standing word' fs') ≡ followed fs (move_of v control (word + 1) left) = rw (control_is d is) at e in
          by (then_on g.bound g.state g.runs) g.kept (rw (sym reached) at follow.leads)
        where
          rest : left' ≡ left_after control left
          rest = rw (control_is d is) at o

          by : Then g.state g.rest → All (Good (code_of ws g.descriptors) 4 8 2) (g.state ∷ g.rest) → Leads (read_after control g.state.read) (executed g.state) (standing word' fs')
              → Going fs' word' (steps + 1) left' list'
          by (last x r) k leads = absurd (true_not_false (sym (ap finished x) ∙ leads.on))
          by (more n t l x r q) k leads =
              let shows = leads.next t x in
              record {
                descriptors = g.descriptors;
                state = t;
                rest = l;
                bound = n;
                runs = q;
                kept = rw r at (tail k);
                seen = shows.seen;
                outcomes = rw (shows.count, rest) (left_then v control g.state.read left g.outcomes);
                before = g.before ++ word ∷ [];
                made = length-append g.before (word ∷ []) ∙ omega (arith, g.made);
                whole = fetched r;
                written = w ∙ noted;
              }

      -- END is the last word
      pub ended : {controls : List Control} (d : Control) → controls ≡ controls_of ws → None ≡ followed fs (move_of v (get_or controls word d) (word + 1) left)
          → (steps + 1 ≡ length all) × (set list steps word ≡ sets old 0 all)
      ended d is e =
          let reached : None ≡ followed fs (move_of v control (word + 1) left) = rw (control_is d is) at e in
          by (then_on g.bound g.state g.runs) (rw (sym reached) at follow.leads)
        where
          by : Then g.state g.rest → halts (executed g.state) ≡ true → (steps + 1 ≡ length all) × (set list steps word ≡ sets old 0 all)
          by (last x r) h =
              let w : all ≡ g.before ++ word ∷ [] = fetched r ∙ append-nil (g.before ++ word ∷ []) in
              (omega (arith, ap length w, length-append g.before (word ∷ []), g.made), noted ∙ ap (sets old 0) (sym w))
          by (more n t l x r q) h = absurd (true_not_false (sym h ∙ ap halts x))

  -- the beginning: main alone is open, and nothing is fetched
  module _ (m e : ℕ) (r : Runs ws v m e) where
    all_is : fetches_by ws v m e ≡ indices_of r.whole.fetched
    unfolding fetches_by
    all_is = ap fetches_in (sym (run_same r.descriptors 4000000 (start m e)) ∙ r.whole.ends)

    pub few_steps : length (fetches_by ws v m e) ≤ 4000000
    few_steps = omega (arith, ap length all_is, words_length r.whole.fetched, r.whole.steps)

    pub bounds : {old : List ℕ} {fs : List Frame} {word steps : ℕ} {left list : List ℕ} → Going (fetches_by ws v m e) old fs word steps left list → Bounds fs word steps
    bounds g = record {
      inside = omega (arith, word_inside _ _ g, r.few);
      shallow = omega (arith, shallow _ _ g);
      early = omega (arith, early _ _ g, few_steps);
    }

    pub begins : (old : List ℕ) {fs : List Frame} {left : List ℕ} → fs ≡ frame e (GoOn e) ∷ [] → truths_in left ≡ v.truths → Going (fetches_by ws v m e) old fs m 0 left old
    begins old a o =
        let q = sym (run_same r.descriptors 4000000 (start m e)) ∙ r.whole.ends in
        let f = first 4000000 (start m e) q in
        record {
          descriptors = r.descriptors;
          state = start m e;
          rest = f.rest;
          bound = 4000000;
          runs = q ∙ ap done f.same;
          kept = rw f.same at r.whole.kept;
          seen = ap (standing m) a;
          outcomes = o;
          before = [];
          made = refl;
          whole = all_is ∙ ap indices_of f.same;
          written = refl;
        }
