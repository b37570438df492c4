-- What the functions inside this crate compute and rely on, for their contracts. The rules are in `flow`'s
-- Stepping and in Walk.
-- Assumes nothing.
use Rattle.std.specs.Prelude.{Bool, true, false, not, ◌&&◌, List, [], ◌∷◌, Option, Some, None, ℕ, ◌+◌, ◌-◌, ◌≤◌, eqb, ltb, length, get_or, drop}
use Rattle.flow.specs.Flow.{code_of}
use Rattle.flow.specs.Rules.{pick}
use Rattle.flow.specs.Stepping.{Settings, State, Open, main, part, body, called, start, run}
use Rattle.flow.specs.WholeRun.{Whole}
use Rattle.instruction.specs.Control.{control_of}
use Rattle.instruction.specs.declared.flow_control.Condition.{Condition}
use Rattle.instruction.specs.declared.flow_control.Condition.TheVariants.{Always, Compared, Uniform}
use Rattle.instruction.specs.declared.flow_control.Control.{Control}
use Rattle.instruction.specs.declared.flow_control.Control.TheVariants.{Unknown, Plain, Emit, End, Break, If, Loop, Call, Jump}
use Rattle.verifier.specs.Lists.{filled}
use Rattle.walk.specs.Walk.{fetches_in, non_zero, settings_of}
use Rattle.walk.specs.declared.frames.After.{After}
use Rattle.walk.specs.declared.frames.After.TheVariants.{GoOn, Turns}
use Rattle.walk.specs.declared.frames.Frame.{Frame}
use Rattle.walk.specs.declared.moves.Move.{Move}
use Rattle.walk.specs.declared.moves.Move.TheVariants as move
use Rattle.walk.specs.declared.settings.Settings.{Settings as Lent}

-- the settings that a caller lent
abbrev pub settings_by : Lent → Settings
settings_by s = settings_of s.bools.now s.ints.now s.truth.now

-- an open region, as the code has it: its end, and what follows
abbrev pub frame : ℕ → After → Frame
frame e a = record { end = e; after = a }

-- the open regions of the stepping rules as frames. Nothing is open under main
abbrev pub shown : List Open → List Frame
shown [] = []
shown (main e ∷ os) = frame e (GoOn e) ∷ []
shown (part e q ∷ os) = frame e (GoOn q) ∷ shown os
shown (body e s k ∷ os) = frame e (Turns s k) ∷ shown os
shown (called e q ∷ os) = frame e (GoOn q) ∷ shown os

-- a word, and the regions that are open there
pub record Standing : Type 0 where
  pub word : ℕ
  pub frames : List Frame

abbrev pub standing : ℕ → List Frame → Standing
standing p fs = record { word = p; frames = fs }

-- the same, if there is a next word
abbrev pub stands : Option ℕ → List Frame → Option Standing
stands None fs = None
stands (Some p) fs = Some (standing p fs)

-- where a run goes on once a region that ends at a word has closed
abbrev pub beyond : ℕ → After → ℕ
beyond e (GoOn q) = q
beyond e (Turns s k) = e

-- a region at its end, and what is reached when it closes: a LOOP with turns left begins again, but for an
-- empty one
abbrev pub ending : ℕ → After → List Frame → Standing → Standing
ending e (GoOn q) fs closed = closed
ending e (Turns s k) fs closed = pick (ltb 0 k && not (eqb s e)) (standing s (frame e (Turns s (k - 1)) ∷ fs)) closed

-- arriving at a word closes the frames that end there
unfoldable pub closing : ℕ → List Frame → Standing
closing p [] = standing p []
closing p (f ∷ fs) =
    let closed = closing (beyond f.end f.after) fs in
    pick (eqb p f.end) (ending f.end f.after fs closed) (standing p (f ∷ fs))

-- whether it is a LOOP's
abbrev pub repeats : After → Bool
repeats (GoOn q) = false
repeats (Turns s k) = true

-- BREAK closes the frames up to the innermost LOOP's, with it. Without one a run has no next step
unfoldable pub leaving : List Frame → Option Standing
leaving [] = None
leaving (f ∷ fs) = let outer = leaving fs in pick (repeats f.after) (Some (standing f.end fs)) outer

-- a state of the stepping rules, as far as frames show it
abbrev pub view : State → Standing
view s = standing s.word (shown s.opens)

-- the truth of a condition, with these outcomes left, and those that are left after it
abbrev pub truth_of : Settings → Condition → List ℕ → Bool
truth_of v Always l = true
truth_of v Compared l = non_zero (get_or l 0 0)
truth_of v (Uniform b) l = v.bools b

abbrev pub left_by : Condition → List ℕ → List ℕ
left_by Always l = l
left_by Compared l = drop 1 l
left_by (Uniform b) l = l

-- what a word asks for; `taken` is its truth, q the address after it
abbrev pub move_break : Bool → ℕ → Move
move_break taken q = pick taken move.Leave (move.Go q)

abbrev pub move_if : Bool → ℕ → ℕ → ℕ → Move
move_if taken q dst num = pick taken (move.Open (frame dst (GoOn (dst + num))) q) (move.Open (frame (dst + num) (GoOn (dst + num))) dst)

abbrev pub move_loop : ℕ → ℕ → ℕ → Move
move_loop x q dst = move.Open (frame (dst + 1) (Turns q x)) q

abbrev pub move_call : Bool → ℕ → ℕ → ℕ → Move
move_call taken q dst num = pick taken (move.Open (frame (dst + num) (GoOn q)) dst) (move.Go q)

abbrev pub move_jump : Bool → ℕ → ℕ → Move
move_jump taken q dst = pick taken (move.Go dst) (move.Go q)

-- the same for each word, with these outcomes left; none at END
abbrev pub move_of : Settings → Control → ℕ → List ℕ → Option Move
move_of v Unknown q l = Some (move.Go q)
move_of v Plain q l = Some (move.Go q)
move_of v Emit q l = Some (move.Go q)
move_of v End q l = None
move_of v (Break c) q l = Some (move_break (truth_of v c l) q)
move_of v (If c dst num) q l = Some (move_if (truth_of v c l) q dst.0 num)
move_of v (Loop r dst) q l = Some (move_loop (v.ints r) q dst.0)
move_of v (Call c dst num) q l = Some (move_call (truth_of v c l) q dst.0 num)
move_of v (Jump c dst num) q l = Some (move_jump (truth_of v c l) q dst.0)

-- the outcomes that are left after it
abbrev pub left_after : Control → List ℕ → List ℕ
left_after Unknown l = l
left_after Plain l = l
left_after Emit l = l
left_after End l = l
left_after (Break c) l = left_by c l
left_after (If c dst num) l = left_by c l
left_after (Loop r dst) l = l
left_after (Call c dst num) l = left_by c l
left_after (Jump c dst num) l = left_by c l

-- what a move leads to; none where a run has no next step
abbrev pub arrived_at : Option Standing → Option Standing
arrived_at None = None
arrived_at (Some s) = Some (closing s.word s.frames)

abbrev pub arrive_by : List Frame → Move → Option Standing
arrive_by fs (move.Go w) = Some (closing w fs)
arrive_by fs move.Leave = arrived_at (leaving fs)
arrive_by fs (move.Open f w) = Some (closing w (f ∷ fs))

abbrev pub followed : List Frame → Option Move → Option Standing
followed fs None = None
followed fs (Some m) = arrive_by fs m

-- the words' controls in an array of 512
abbrev pub controls_of : List ℕ → List Control
controls_of ws = filled (λ p. control_of (get_or ws p 0)) 0 512 (length ws) Plain

-- what the engine relies on, and all that it relies on: at most 512 words, and their whole run from main on,
-- with some number of descriptors
pub record Runs (ws : List ℕ) (v : Settings) (m e : ℕ) : Type 0 where
  pub few : length ws ≤ 512
  pub descriptors : ℕ
  pub whole : Whole (code_of ws descriptors) v 4 8 2 4000000 (start m e)

-- the words that the run fetches; the run does not look at descriptors
unfoldable pub fetches_by : List ℕ → Settings → ℕ → ℕ → List ℕ
fetches_by ws v m e = fetches_in (run (code_of ws 0) v 4000000 (start m e))
