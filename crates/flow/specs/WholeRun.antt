-- What is claimed of a whole run (demand 3): one finite list of fetches that ends with END, each inside the
-- tables and the limits, and no more of them than a bound.
-- Assumes nothing.
use Rattle.std.specs.Prelude.{ℕ, ◌+◌, ◌≤◌, ◌<◌, ◌≡◌, List, [], ◌∷◌, length, Some}
use Rattle.instruction.specs.declared.flow_control.Control.TheVariants.{Unknown, Loop}
use Rattle.binary.specs.declared.WordAddress.{WordAddress}
use Rattle.flow.specs.Rules.{Code}
use Rattle.flow.specs.Stepping.{Open, main, part, body, called, Settings, State, done, run}

-- a word that passes 9, 11 and 12: known, its descriptor in the table, a LOOP's register at most 3
pub record GoodWord (C : Code) (p : ℕ) : Type 0 where
  pub known : C.control p ≡ Unknown → ⊥
  pub described : (n : ℕ) → C.uses p ≡ Some n → n < C.descriptors
  pub register : {r : ℕ} {d : WordAddress} → C.control p ≡ Loop r d → r ≤ 3

-- 'Open at a fetch are the CALLs, IFs and LOOPs whose regions have not closed, a LOOP once for all turns'
abbrev pub open_calls : List Open → ℕ
open_calls [] = 0
open_calls (main e ∷ os) = open_calls os
open_calls (part e q ∷ os) = open_calls os
open_calls (body e s k ∷ os) = open_calls os
open_calls (called e q ∷ os) = open_calls os + 1

abbrev pub open_ifs : List Open → ℕ
open_ifs [] = 0
open_ifs (main e ∷ os) = open_ifs os
open_ifs (part e q ∷ os) = open_ifs os + 1
open_ifs (body e s k ∷ os) = open_ifs os
open_ifs (called e q ∷ os) = open_ifs os

abbrev pub open_loops : List Open → ℕ
open_loops [] = 0
open_loops (main e ∷ os) = open_loops os
open_loops (part e q ∷ os) = open_loops os
open_loops (body e s k ∷ os) = open_loops os + 1
open_loops (called e q ∷ os) = open_loops os

-- a fetch inside the opcode table, its descriptor inside its table, with at most so many calls, IFs and LOOPs
-- open
pub record Good (C : Code) (calls ifs loops : ℕ) (s : State) : Type 0 where
  pub inside : s.word < C.words
  pub described : (n : ℕ) → C.uses s.word ≡ Some n → n < C.descriptors
  pub few_calls : open_calls s.opens ≤ calls
  pub few_ifs : open_ifs s.opens ≤ ifs
  pub few_loops : open_loops s.opens ≤ loops

pub data All (P : State → Type 0) : List State → Type 0 where
  nil : All P []
  each : {s : State} {l : List State} → P s → All P l → All P (s ∷ l)

-- the fetches, with each word taken at a measure of its own: their number is this at 1
abbrev pub measured : (ℕ → ℕ) → List State → ℕ
measured g [] = 0
measured g (s ∷ l) = g s.word + measured g l

-- the whole run from s: `done` is a run whose last word is END and that has a next step at every other
pub record Whole (C : Code) (v : Settings) (calls ifs loops bound : ℕ) (s : State) : Type 0 where
  pub fetched : List State
  pub ends : run C v bound s ≡ done fetched
  pub kept : All (Good C calls ifs loops) fetched
  pub steps : length fetched ≤ bound
