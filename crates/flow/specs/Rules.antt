-- What the flow check and the stepping rules go by: the kinds of the words, and limits that are parameters.
-- Assumes nothing.
use Rattle.std.specs.Prelude.{ℕ, ◌+◌, Bool, true, false, Option}
use Rattle.instruction.specs.declared.flow_control.Control.{Control}
use Rattle.flow.specs.declared.look.Opens.{Opens}

-- a program: how many words and descriptors it has, and of each word what it does to control flow and which
-- descriptor it uses
pub record Code : Type 0 where
  pub words : ℕ
  pub descriptors : ℕ
  pub control : ℕ → Control
  pub uses : ℕ → Option ℕ

-- the most calls, IFs and LOOPs open and the most total; how many turns of a LOOP over a register are
-- counted; whether EMIT and SETEMIT are allowed
pub record Rules : Type 0 where
  pub calls : ℕ
  pub ifs : ℕ
  pub loops : ℕ
  pub most : ℕ
  pub turns : ℕ → ℕ
  pub emits : Bool

-- what is open, that of callers included: nothing; one more of each. `looped` is whether a LOOP is open in
-- the same main or called region
abbrev pub none_open : Opens
none_open = record { depths = record { calls = 0; ifs = 0; loops = 0 }; looped = false }

abbrev pub in_if : Opens → Opens
in_if x = record { depths = record { calls = x.depths.calls; ifs = x.depths.ifs + 1; loops = x.depths.loops }; looped = x.looped }

abbrev pub in_loop : Opens → Opens
in_loop x = record { depths = record { calls = x.depths.calls; ifs = x.depths.ifs; loops = x.depths.loops + 1 }; looped = true }

abbrev pub in_call : Opens → Opens
in_call x = record { depths = record { calls = x.depths.calls + 1; ifs = x.depths.ifs; loops = x.depths.loops }; looped = false }

-- a choice by a test
abbrev pub pick {ℓ} : {A : Type ℓ} → Bool → A → A → A
pick true x y = x
pick false x y = y

-- the limits of document 01: at most 4 calls, 8 IFs and 2 LOOPs open, a total of at most 4,000,000, every
-- LOOP counted as 256 turns; EMIT in type 1 alone
abbrev pub full_rules : Bool → Rules
full_rules emits = record { calls = 4; ifs = 8; loops = 2; most = 4000000; turns = λ r. 256; emits = emits }
