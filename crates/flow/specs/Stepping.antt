-- The stepping rules (document 01, 'Stepping rules'), as a machine of their own: an address, the open
-- regions, the outcomes read.
-- Assumes nothing.
use Rattle.std.specs.Prelude.{ℕ, zero, suc, ◌+◌, Bool, true, false, ◌&&◌, List, [], ◌∷◌, leb, ltb, eqb, get_or}
use Rattle.instruction.specs.declared.flow_control.Condition.{Condition}
use Rattle.instruction.specs.declared.flow_control.Condition.TheVariants.{Always, Compared, Uniform}
use Rattle.instruction.specs.declared.flow_control.Control.{Control}
use Rattle.instruction.specs.declared.flow_control.Control.TheVariants.{Unknown, Plain, Emit, End, Break, If, Loop, Call, Jump}
use Rattle.flow.specs.Rules.{Code, pick}

-- 'bools, bytes x and the truth list .. stay fixed'
pub record Settings : Type 0 where
  pub bools : ℕ → Bool
  pub ints : ℕ → ℕ
  pub truths : List Bool

-- an open region: main with its end; an IF's part with its end and where it goes on; a LOOP's body with its
-- end, its first word and the turns left after this one; a called region with its end and where it goes on
pub data Open : Type 0 where
  main : ℕ → Open
  part : ℕ → ℕ → Open
  body : ℕ → ℕ → ℕ → Open
  called : ℕ → ℕ → Open

-- the word to be fetched, the open regions with the innermost first, and how many outcomes were read
pub record State : Type 0 where
  pub word : ℕ
  pub opens : List Open
  pub read : ℕ

abbrev pub state : ℕ → List Open → ℕ → State
state p os n = record { word = p; opens = os; read = n }

-- what follows a fetched word: END; no next step; a next state
pub data Next : Type 0 where
  ends : Next
  stuck : Next
  goes : State → Next

-- arriving at p: 'Only the innermost open region's end counts; when it closes, the next is looked at'. A LOOP
-- with turns left begins again; an empty body closes at once, in every turn
unfoldable pub arrive : ℕ → List Open → ℕ → State
arrive n [] p = state p [] n
arrive n (main e ∷ os) p = pick (eqb p e) (state p [] n) (state p (main e ∷ os) n)
arrive n (part e q ∷ os) p = let closed = arrive n os q in pick (eqb p e) closed (state p (part e q ∷ os) n)
arrive n (body e s zero ∷ os) p = let closed = arrive n os e in pick (eqb p e) closed (state p (body e s zero ∷ os) n)
arrive n (body e s (suc k) ∷ os) p =
    let closed = arrive n os e in
    let again = pick (eqb s e) closed (state s (body e s k ∷ os) n) in
    pick (eqb p e) again (state p (body e s (suc k) ∷ os) n)
arrive n (called e q ∷ os) p = let closed = arrive n os q in pick (eqb p e) closed (state p (called e q ∷ os) n)

-- 'BREAK closes what is open up to and including the innermost LOOP and goes on after it'
unfoldable pub break : ℕ → List Open → Next
break n [] = stuck
break n (main e ∷ os) = stuck
break n (part e q ∷ os) = break n os
break n (body e s k ∷ os) = goes (arrive n os e)
break n (called e q ∷ os) = break n os

-- the truth of a condition, with so many outcomes read; 'one byte for each such word executed, .. false past
-- its end'
abbrev pub holds : Settings → Condition → ℕ → Bool
holds v Always n = true
holds v Compared n = get_or v.truths n false
holds v (Uniform b) n = v.bools b

abbrev pub reads : Condition → ℕ → ℕ
reads Always n = n
reads Compared n = suc n
reads (Uniform b) n = n

abbrev pub on : ℕ → List Open → ℕ → Next
on n os p = goes (arrive n os p)

-- the word at p. An IF's part that is empty closes at once: with NUM 0 a false IF goes to DST
unfoldable pub execute : Settings → Control → ℕ → List Open → ℕ → Next
execute v Unknown p os n = stuck
execute v Plain p os n = on n os (p + 1)
execute v Emit p os n = on n os (p + 1)
execute v End p os n = ends
execute v (Break c) p os n = pick (holds v c n) (break (reads c n) os) (on (reads c n) os (p + 1))
execute v (If c dst num) p os n =
    pick (holds v c n) (on (reads c n) (part dst.0 (dst.0 + num) ∷ os) (p + 1)) (on (reads c n) (part (dst.0 + num) (dst.0 + num) ∷ os) dst.0)
execute v (Loop r dst) p os n = pick (leb r 3) (on n (body (dst.0 + 1) (p + 1) (v.ints r) ∷ os) (p + 1)) stuck
execute v (Call c dst num) p os n = pick (holds v c n) (on (reads c n) (called (dst.0 + num) (p + 1) ∷ os) dst.0) (on (reads c n) os (p + 1))
execute v (Jump c dst num) p os n = pick (holds v c n) (on (reads c n) os dst.0) (on (reads c n) os (p + 1))

-- 'It has no next step outside the opcode table, with main closed, at an unknown word, ..'
abbrev pub some_open : List Open → Bool
some_open [] = false
some_open (o ∷ os) = true

unfoldable pub step : Code → Settings → State → Next
step C v s = pick (some_open s.opens && ltb s.word C.words) (execute v (C.control s.word) s.word s.opens s.read) stuck

-- 'A run starts at its entry, word main, main alone open'
abbrev pub start : ℕ → ℕ → State
start m e = state m (main e ∷ []) 0

-- a run of so many steps at most: its states in order, and how it went on. The last state of a failed run has
-- no next step, and is no fetch where it lies outside
pub data Run : Type 0 where
  done : List State → Run
  failed : List State → Run
  unfinished : List State → Run

abbrev pub after : State → Run → Run
after s (done l) = done (s ∷ l)
after s (failed l) = failed (s ∷ l)
after s (unfinished l) = unfinished (s ∷ l)

abbrev pub onward : State → Next → (State → Run) → Run
onward s ends k = done (s ∷ [])
onward s stuck k = failed (s ∷ [])
onward s (goes s') k = after s (k s')

unfoldable pub run : Code → Settings → ℕ → State → Run
run C v zero s = unfinished []
run C v (suc n) s = onward s (step C v s) (run C v n)
