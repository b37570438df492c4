-- The visits of the flow check, as one list in document 01's order ('The flow check', second and third
-- paragraph), and what is read off it.
-- Assumes nothing.
use Rattle.std.specs.Prelude.{ℕ, zero, suc, ◌+◌, ◌*◌, ◌-◌, Bool, true, false, not, ◌&&◌, ◌||◌, List, [], ◌∷◌, ◌++◌, leb, ltb, eqb}
use Rattle.answer.specs.Faults.{fault_if, or_else}
use Rattle.answer.specs.Faults.{Fault}
use Rattle.answer.specs.Faults.{Nothing, At}
use Rattle.instruction.specs.declared.flow_control.Control.{Control}
use Rattle.instruction.specs.declared.flow_control.Control.TheVariants.{Unknown, Plain, Emit, End, Break, If, Loop, Call, Jump}
use Rattle.flow.specs.Own.{next_of, spans, own_words, has}
use Rattle.flow.specs.Rules.{Code, Rules, none_open, in_if, in_loop, in_call, pick}
use Rattle.flow.specs.declared.look.Opens.{Opens}

-- a visit: the word, the end of its region, what is open, and what the visit adds to the total
pub record Visit : Type 0 where
  pub word : ℕ
  pub end : ℕ
  pub opens : Opens
  pub weight : ℕ

-- 22: EMIT or SETEMIT in type 0
abbrev pub bad22 : Rules → Control → Bool
bad22 R Unknown = false
bad22 R Plain = false
bad22 R Emit = not R.emits
bad22 R End = false
bad22 R (Break c) = false
bad22 R (If c dst num) = false
bad22 R (Loop r dst) = false
bad22 R (Call c dst num) = false
bad22 R (Jump c dst num) = false

-- 23: BREAK or BREAKC with no LOOP open in the same main or called region
abbrev pub bad23 : Control → Opens → Bool
bad23 Unknown x = false
bad23 Plain x = false
bad23 Emit x = false
bad23 End x = false
bad23 (Break c) x = not x.looped
bad23 (If c dst num) x = false
bad23 (Loop r dst) x = false
bad23 (Call c dst num) x = false
bad23 (Jump c dst num) x = false

-- 24: bad bounds of the word at p, in a region that ends at E; 'CALL unless NUM ≥ 1 and DST+NUM ≤ the word
-- count'
abbrev pub bad24 : Code → Control → ℕ → ℕ → Bool
bad24 C Unknown p E = false
bad24 C Plain p E = false
bad24 C Emit p E = false
bad24 C End p E = false
bad24 C (Break c) p E = false
bad24 C (If c dst num) p E = not (spans (If c dst num) p E)
bad24 C (Loop r dst) p E = not (spans (Loop r dst) p E)
bad24 C (Call c dst num) p E = not (leb 1 num && leb (dst.0 + num) C.words)
bad24 C (Jump c dst num) p E = false

-- 25: opening one more than allowed
abbrev pub bad25 : Rules → Control → Opens → Bool
bad25 R Unknown x = false
bad25 R Plain x = false
bad25 R Emit x = false
bad25 R End x = false
bad25 R (Break c) x = false
bad25 R (If c dst num) x = leb R.ifs x.depths.ifs
bad25 R (Loop r dst) x = leb R.loops x.depths.loops
bad25 R (Call c dst num) x = leb R.calls x.depths.calls
bad25 R (Jump c dst num) x = false

-- 26: bad jump; 'good if p < DST < E and DST is in the own words counted from p+1 on'
abbrev pub bad26 : Code → Control → ℕ → ℕ → Bool
bad26 C Unknown p E = false
bad26 C Plain p E = false
bad26 C Emit p E = false
bad26 C End p E = false
bad26 C (Break c) p E = false
bad26 C (If c dst num) p E = false
bad26 C (Loop r dst) p E = false
bad26 C (Call c dst num) p E = false
bad26 C (Jump c dst num) p E = not (ltb p dst.0 && (ltb dst.0 E && has (own_words C (p + 1) E) dst.0))

-- visits, and whether the last of them met one of 22 to 26: then nothing follows
pub record Trace : Type 0 where
  pub visits : List Visit
  pub stopped : Bool

abbrev pub nothing : Trace
nothing = record { visits = []; stopped = false }

abbrev pub follow : Bool → List Visit → Trace → Trace
follow true vs more = record { visits = vs; stopped = true }
follow false vs more = record { visits = vs ++ more.visits; stopped = more.stopped }

abbrev pub and_then : Trace → Trace → Trace
and_then t more = follow t.stopped t.visits more

abbrev pub visiting : Visit → Trace → Trace
visiting v more = record { visits = v ∷ more.visits; stopped = more.stopped }

abbrev pub unless_fault : Fault → Trace → Trace
unless_fault (At number word) more = record { visits = []; stopped = true }
unless_fault Nothing more = more

-- the visits of a region from its own word p on, up to its end E: what is open, the weight, p, E
abbrev pub Tracer : Type 0
Tracer = Opens → ℕ → ℕ → ℕ → Trace

-- 'After an IF word it visits the true part, then the false one, after a LOOP its body, after any CALL the
-- called region'. A LOOP's body weighs as often as its turns are counted
unfoldable pub parts : Rules → Tracer → Control → Opens → ℕ → ℕ → Trace
parts R rec Unknown x w p = nothing
parts R rec Plain x w p = nothing
parts R rec Emit x w p = nothing
parts R rec End x w p = nothing
parts R rec (Break c) x w p = nothing
parts R rec (If c dst num) x w p = let second = rec (in_if x) w dst.0 (dst.0 + num) in and_then (rec (in_if x) w (p + 1) dst.0) second
parts R rec (Loop r dst) x w p = rec (in_loop x) (w * R.turns r) (p + 1) (dst.0 + 1)
parts R rec (Call c dst num) x w p = rec (in_call x) w dst.0 (dst.0 + num)
parts R rec (Jump c dst num) x w p = nothing

abbrev pub is_end : Control → Bool
is_end Unknown = false
is_end Plain = false
is_end Emit = false
is_end End = true
is_end (Break c) = false
is_end (If c dst num) = false
is_end (Loop r dst) = false
is_end (Call c dst num) = false
is_end (Jump c dst num) = false

module _ (C : Code) (R : Rules) where
  -- 22 to 26 at a visit, in this order
  unfoldable pub fault_at : Opens → ℕ → ℕ → Fault
  fault_at x p E =
      let i = C.control p in
      or_else (fault_if (bad22 R i) 22 p)
      (or_else (fault_if (bad23 i x) 23 p)
      (or_else (fault_if (bad24 C i p E) 24 p)
      (or_else (fault_if (bad25 R i x) 25 p)
      (fault_if (bad26 C i p E) 26 p))))

  -- a visit: its own fault ends the trace; else its parts follow, then the rest of the region
  unfoldable pub visit : Tracer → Tracer
  visit rec x w p E =
      let i = C.control p in
      let rest = rec x w (next_of i p) E in
      let more = and_then (parts R rec i x w p) rest in
      visiting (record { word = p; end = E; opens = x; weight = w }) (unless_fault (fault_at x p E) more)

  unfoldable pub region : Tracer → Tracer
  region rec x w p E = let here = visit rec x w p E in pick (ltb p E) here nothing

  -- to a depth. One more than the size below is enough, since each part has an opening less and each own word
  -- is further on (proofs/Depth.antt): a depth never runs out
  unfoldable pub trace_to : ℕ → Tracer
  trace_to zero x w p E = record { visits = []; stopped = true }
  trace_to (suc n) x w p E = region (trace_to n) x w p E

  unfoldable pub spare : Opens → ℕ
  spare x = (R.calls - x.depths.calls) + (R.ifs - x.depths.ifs) + (R.loops - x.depths.loops)

  unfoldable pub size : Opens → ℕ → ℕ → ℕ
  size x p E = spare x * (C.words + 1) + (E - p)

  unfoldable pub trace : Tracer
  trace x w p E = trace_to (suc (size x p E)) x w p E

  -- main's visits
  unfoldable pub main_trace : ℕ → ℕ → Trace
  main_trace main endmain = trace none_open 1 main endmain

  -- 'At each visit, test in this order: 27, 22, 23, 24, 25, 26': the first fault, with so much counted before
  abbrev pub first_fault : ℕ → List Visit → Fault
  first_fault before [] = Nothing
  first_fault before (v ∷ vs) =
      let rest = first_fault (before + v.weight) vs in
      let mine = or_else (fault_at v.opens v.word v.end) rest in
      or_else (fault_if (ltb R.most (before + v.weight)) 27 v.word) mine

  -- 'After main, test 28': endmain−1 is not END or not an own word of main
  unfoldable pub flow_fault : ℕ → ℕ → Fault
  flow_fault main endmain =
      let last = endmain - 1 in
      or_else (first_fault 0 (main_trace main endmain).visits)
      (fault_if (not (is_end (C.control last) && has (own_words C main endmain) last)) 28 last)

-- 'Each visit adds .. to the total'
abbrev pub total : List Visit → ℕ
total [] = 0
total (v ∷ vs) = v.weight + total vs

-- the same, with each word taken at a measure of its own: the total is this at 1
abbrev pub weighted : (ℕ → ℕ) → List Visit → ℕ
weighted g [] = 0
weighted g (v ∷ vs) = v.weight * g v.word + weighted g vs

-- 'distinct words visited'
abbrev pub visited : List Visit → ℕ → Bool
visited [] p = false
visited (v ∷ vs) p = eqb v.word p || visited vs p

abbrev pub distinct : List Visit → ℕ
distinct [] = 0
distinct (v ∷ vs) = pick (visited vs v.word) 0 1 + distinct vs
