-- Trials of the flow check and of the stepping rules, by computing from the words: P1 to P11, and the cases
-- that go wrong most easily, as outside vectors give them. Assumes nothing.
use mathlib.Core.Path.{◌≡◌, refl}
use mathlib.Core.Bool.{Bool, true, false}
use mathlib.Core.List.{List, [], ◌∷◌, map}
use mathlib.Core.List.{◌++◌ as append}
use Prim.Native.Nat.{ℕ}
use lib.ListN.{length, get_or, replicate}
use Rattle.answer.specs.Answers.{Answer, given, refused}
use Rattle.instruction.specs.Control.{control_of}
use Rattle.instruction.specs.Operations.{operations, format_of}
use Rattle.instruction.specs.Words.{decode_of}
use Rattle.flow.specs.Flow.{code_of, flow_of}
use Rattle.flow.specs.declared.entry.Measured.{Measured}
use Rattle.flow.specs.Own.{own_from, own_words}
use Rattle.flow.specs.Rules.{full_rules}
use Rattle.flow.specs.Stepping.{Settings, main, start, Run, done, failed, unfinished, arrive, break, execute, step, run}
use Rattle.flow.specs.Visits.{fault_at, parts, visit, region, trace_to, spare, size, trace, main_trace, flow_fault}

-- whether EMIT is allowed, the words, main, endmain, and the answer
record Trial : Type 0 where
  emits : Bool
  words : List ℕ
  main : ℕ
  endmain : ℕ
  answer : Answer Measured

trial : Bool → List ℕ → ℕ → ℕ → Answer Measured → Trial
trial e ws m n a = record { emits = e; words = ws; main = m; endmain = n; answer = a }

measures : ℕ → ℕ → Answer Measured
measures t n = given (record { total = t; words = n })

trials : List Trial
trials =
    -- P1
    trial false (0x4c000000 ∷ 0x9cc00c00 ∷ 0x02225100 ∷ 0x84000000 ∷ 0x88000000 ∷ []) 0 5 (measures 5 5) ∷
    -- P2
    trial false (0xa4000800 ∷ 0x84000000 ∷ 0x84000000 ∷ 0x88000000 ∷ []) 0 4 (measures 514 4) ∷
    -- P3
    trial false (0xb4000800 ∷ 0x84000000 ∷ 0x88000000 ∷ []) 0 3 (measures 3 3) ∷
    -- P4
    trial false (0xb4000c00 ∷ 0x84000000 ∷ 0x88000000 ∷ []) 0 3 (refused 26 0) ∷
    -- P5
    trial false (0xb4000c00 ∷ 0x9c001000 ∷ 0x84000000 ∷ 0x84000000 ∷ 0x88000000 ∷ []) 0 5 (refused 26 0) ∷
    -- P6
    trial false (0xa4000400 ∷ 0x90000c01 ∷ 0x88000000 ∷ 0x80000000 ∷ []) 0 3 (refused 23 3) ∷
    -- P7
    trial false (0x90000001 ∷ 0x88000000 ∷ []) 0 2 (refused 25 0) ∷
    -- P8
    trial false (0x9c000800 ∷ 0x88000000 ∷ []) 0 2 (refused 28 1) ∷
    -- P9
    trial false (0x9c000400 ∷ 0x88000000 ∷ []) 0 2 (refused 24 0) ∷
    -- P10
    trial false (0xa400f800 ∷ 0xa400f800 ∷ append (replicate 61 0x84000000) (0x88000000 ∷ [])) 0 64 (measures 3997954 64) ∷
    -- P11
    trial false (0xa400fc00 ∷ 0xa400fc00 ∷ append (replicate 62 0x84000000) (0x88000000 ∷ [])) 0 65 (refused 27 63) ∷
    -- nested LOOPs to one DST
    trial false (0xa4000800 ∷ 0xa4400800 ∷ 0x84000000 ∷ 0x88000000 ∷ []) 0 4 (measures 65794 4) ∷
    -- a CALL that is the last word of a LOOP's body
    trial false (0xa4000400 ∷ 0x90000c01 ∷ 0x88000000 ∷ 0x84000000 ∷ []) 0 3 (measures 514 4) ∷
    -- a called region that runs over its caller's end
    trial false (0x9c000800 ∷ 0x90000802 ∷ 0x84000000 ∷ 0x84000000 ∷ 0x88000000 ∷ []) 0 5 (measures 7 5) ∷
    -- BREAK in an IF in a LOOP
    trial false (0xa4000c00 ∷ 0x9c000c00 ∷ 0x80000000 ∷ 0x84000000 ∷ 0x88000000 ∷ []) 0 5 (measures 770 5) ∷
    -- BREAK in the inner of two LOOPs to one DST
    trial false (0xa4000c00 ∷ 0xa4000c00 ∷ 0x84000000 ∷ 0x80000000 ∷ 0x88000000 ∷ []) 0 5 (measures 131330 5) ∷
    -- an IF and a LOOP that end at one word
    trial false (0xa4000800 ∷ 0xa2000c00 ∷ 0x84000000 ∷ 0x88000000 ∷ []) 0 4 (measures 514 4) ∷
    -- a jump to a bad IF
    trial false (0xb4000400 ∷ 0x9c002400 ∷ 0x84000000 ∷ 0x88000000 ∷ []) 0 4 (refused 24 1) ∷
    -- a jump over a bad IF
    trial false (0xb4000c00 ∷ 0x9c002400 ∷ 0x84000000 ∷ 0x88000000 ∷ []) 0 4 (refused 26 0) ∷
    -- a jump over a bad CALL, which ends no own words
    trial false (0xb4000800 ∷ 0x90000000 ∷ 0x88000000 ∷ []) 0 3 (refused 24 1) ∷
    -- LOOPs counted through calls
    trial false (0xa4000400 ∷ 0x90000c03 ∷ 0x88000000 ∷ 0xa4001400 ∷ 0xa4001400 ∷ 0x84000000 ∷ []) 0 3 (refused 25 4) ∷
    -- END in the middle
    trial false (0x88000000 ∷ 0x84000000 ∷ 0x88000000 ∷ []) 0 3 (measures 3 3) ∷
    -- EMIT that is not visited
    trial false (0x88000000 ∷ 0xa8000000 ∷ []) 0 1 (measures 1 1) ∷
    -- EMIT in type 1
    trial true (0xae800000 ∷ 0xa8000000 ∷ 0x88000000 ∷ []) 0 3 (measures 3 3) ∷
    -- every condition
    trial false (0xa2000800 ∷ 0x84000000 ∷ 0xa1401000 ∷ 0x84000000 ∷ 0xa3801800 ∷ 0x84000000 ∷ 0xa0c02000 ∷ 0x84000000 ∷ 0xa4c02800 ∷ 0x8d400000 ∷ 0x84000000 ∷ 0x94803c01 ∷ 0x9bc03c01 ∷ 0xb3403800 ∷ 0x88000000 ∷ 0x84000000 ∷ []) 0 15 (measures 527 16) ∷
    []

checked : map (λ t. flow_of (full_rules t.emits) t.words t.main t.endmain) trials ≡ map (λ t. t.answer) trials
unfolding trials trial measures flow_of flow_fault main_trace trace trace_to region visit parts fault_at spare size own_words own_from control_of decode_of format_of operations
checked = refl

-- the words, main, endmain, the bools, the bytes x, the truth list, and the words fetched
record Walk : Type 0 where
  words : List ℕ
  main : ℕ
  endmain : ℕ
  bools : List Bool
  ints : List ℕ
  truths : List Bool
  fetched : List ℕ

walk : List ℕ → ℕ → ℕ → List Bool → List ℕ → List Bool → List ℕ → Walk
walk ws m n b i t f = record { words = ws; main = m; endmain = n; bools = b; ints = i; truths = t; fetched = f }

walks : List Walk
walks =
    -- break in if
    walk (0xa4000c00 ∷ 0x9c000c00 ∷ 0x80000000 ∷ 0x84000000 ∷ 0x88000000 ∷ []) 0 5 (false ∷ false ∷ false ∷ false ∷ false ∷ false ∷ false ∷ false ∷ false ∷ false ∷ false ∷ false ∷ false ∷ false ∷ false ∷ false ∷ []) (0 ∷ 0 ∷ 0 ∷ 0 ∷ []) ([]) (0 ∷ 1 ∷ 3 ∷ 4 ∷ []) ∷
    -- break in if
    walk (0xa4000c00 ∷ 0x9c000c00 ∷ 0x80000000 ∷ 0x84000000 ∷ 0x88000000 ∷ []) 0 5 (true ∷ true ∷ true ∷ true ∷ true ∷ true ∷ true ∷ true ∷ true ∷ true ∷ true ∷ true ∷ true ∷ true ∷ true ∷ true ∷ []) (4 ∷ 1 ∷ 1 ∷ 3 ∷ []) (true ∷ []) (0 ∷ 1 ∷ 2 ∷ 4 ∷ []) ∷
    -- break in if
    walk (0xa4000c00 ∷ 0x9c000c00 ∷ 0x80000000 ∷ 0x84000000 ∷ 0x88000000 ∷ []) 0 5 (false ∷ true ∷ true ∷ false ∷ false ∷ true ∷ true ∷ true ∷ false ∷ true ∷ true ∷ false ∷ false ∷ false ∷ false ∷ true ∷ []) (4 ∷ 3 ∷ 1 ∷ 0 ∷ []) (false ∷ false ∷ true ∷ true ∷ false ∷ false ∷ false ∷ false ∷ true ∷ true ∷ false ∷ true ∷ false ∷ true ∷ true ∷ false ∷ []) (0 ∷ 1 ∷ 3 ∷ 1 ∷ 3 ∷ 1 ∷ 3 ∷ 1 ∷ 3 ∷ 1 ∷ 3 ∷ 4 ∷ []) ∷
    -- break inner
    walk (0xa4000c00 ∷ 0xa4000c00 ∷ 0x84000000 ∷ 0x80000000 ∷ 0x88000000 ∷ []) 0 5 (false ∷ false ∷ false ∷ false ∷ false ∷ false ∷ false ∷ false ∷ false ∷ false ∷ false ∷ false ∷ false ∷ false ∷ false ∷ false ∷ []) (0 ∷ 0 ∷ 0 ∷ 0 ∷ []) ([]) (0 ∷ 1 ∷ 2 ∷ 3 ∷ 4 ∷ []) ∷
    -- break inner
    walk (0xa4000c00 ∷ 0xa4000c00 ∷ 0x84000000 ∷ 0x80000000 ∷ 0x88000000 ∷ []) 0 5 (true ∷ true ∷ true ∷ true ∷ true ∷ true ∷ true ∷ true ∷ true ∷ true ∷ true ∷ true ∷ true ∷ true ∷ true ∷ true ∷ []) (3 ∷ 2 ∷ 1 ∷ 4 ∷ []) (true ∷ true ∷ true ∷ false ∷ false ∷ false ∷ false ∷ false ∷ true ∷ []) (0 ∷ 1 ∷ 2 ∷ 3 ∷ 1 ∷ 2 ∷ 3 ∷ 1 ∷ 2 ∷ 3 ∷ 1 ∷ 2 ∷ 3 ∷ 4 ∷ []) ∷
    -- call ends body
    walk (0xa4000400 ∷ 0x90000c01 ∷ 0x88000000 ∷ 0x84000000 ∷ []) 0 3 (false ∷ false ∷ false ∷ false ∷ false ∷ false ∷ false ∷ false ∷ false ∷ false ∷ false ∷ false ∷ false ∷ false ∷ false ∷ false ∷ []) (0 ∷ 0 ∷ 0 ∷ 0 ∷ []) ([]) (0 ∷ 1 ∷ 3 ∷ 2 ∷ []) ∷
    -- call ends body
    walk (0xa4000400 ∷ 0x90000c01 ∷ 0x88000000 ∷ 0x84000000 ∷ []) 0 3 (true ∷ true ∷ true ∷ true ∷ true ∷ true ∷ true ∷ true ∷ true ∷ true ∷ true ∷ true ∷ true ∷ true ∷ true ∷ true ∷ []) (4 ∷ 2 ∷ 3 ∷ 1 ∷ []) (true ∷ false ∷ false ∷ true ∷ false ∷ true ∷ true ∷ true ∷ true ∷ []) (0 ∷ 1 ∷ 3 ∷ 1 ∷ 3 ∷ 1 ∷ 3 ∷ 1 ∷ 3 ∷ 1 ∷ 3 ∷ 2 ∷ []) ∷
    -- call over if end
    walk (0x9c000800 ∷ 0x90000802 ∷ 0x84000000 ∷ 0x84000000 ∷ 0x88000000 ∷ []) 0 5 (false ∷ false ∷ false ∷ false ∷ false ∷ false ∷ false ∷ false ∷ false ∷ false ∷ false ∷ false ∷ false ∷ false ∷ false ∷ false ∷ []) (0 ∷ 0 ∷ 0 ∷ 0 ∷ []) ([]) (0 ∷ 2 ∷ 3 ∷ 4 ∷ []) ∷
    -- call over if end
    walk (0x9c000800 ∷ 0x90000802 ∷ 0x84000000 ∷ 0x84000000 ∷ 0x88000000 ∷ []) 0 5 (true ∷ true ∷ true ∷ true ∷ true ∷ true ∷ true ∷ true ∷ true ∷ true ∷ true ∷ true ∷ true ∷ true ∷ true ∷ true ∷ []) (1 ∷ 2 ∷ 1 ∷ 3 ∷ []) (false ∷ false ∷ true ∷ false ∷ true ∷ true ∷ false ∷ false ∷ false ∷ []) (0 ∷ 1 ∷ 2 ∷ 3 ∷ 2 ∷ 3 ∷ 4 ∷ []) ∷
    -- conditions
    walk (0xa2000800 ∷ 0x84000000 ∷ 0xa1401000 ∷ 0x84000000 ∷ 0xa3801800 ∷ 0x84000000 ∷ 0xa0c02000 ∷ 0x84000000 ∷ 0xa4c02800 ∷ 0x8d400000 ∷ 0x84000000 ∷ 0x94803c01 ∷ 0x9bc03c01 ∷ 0xb3403800 ∷ 0x88000000 ∷ 0x84000000 ∷ []) 0 15 (false ∷ false ∷ false ∷ false ∷ false ∷ false ∷ false ∷ false ∷ false ∷ false ∷ false ∷ false ∷ false ∷ false ∷ false ∷ false ∷ []) (0 ∷ 0 ∷ 0 ∷ 0 ∷ []) ([]) (0 ∷ 2 ∷ 4 ∷ 6 ∷ 8 ∷ 9 ∷ 10 ∷ 11 ∷ 12 ∷ 13 ∷ 14 ∷ []) ∷
    -- conditions
    walk (0xa2000800 ∷ 0x84000000 ∷ 0xa1401000 ∷ 0x84000000 ∷ 0xa3801800 ∷ 0x84000000 ∷ 0xa0c02000 ∷ 0x84000000 ∷ 0xa4c02800 ∷ 0x8d400000 ∷ 0x84000000 ∷ 0x94803c01 ∷ 0x9bc03c01 ∷ 0xb3403800 ∷ 0x88000000 ∷ 0x84000000 ∷ []) 0 15 (true ∷ true ∷ true ∷ true ∷ true ∷ true ∷ true ∷ true ∷ true ∷ true ∷ true ∷ true ∷ true ∷ true ∷ true ∷ true ∷ []) (1 ∷ 2 ∷ 1 ∷ 4 ∷ []) (false ∷ true ∷ true ∷ true ∷ false ∷ true ∷ true ∷ true ∷ false ∷ []) (0 ∷ 2 ∷ 3 ∷ 4 ∷ 5 ∷ 6 ∷ 7 ∷ 8 ∷ 9 ∷ 10 ∷ 9 ∷ 11 ∷ 15 ∷ 12 ∷ 15 ∷ 13 ∷ 14 ∷ []) ∷
    -- conditions
    walk (0xa2000800 ∷ 0x84000000 ∷ 0xa1401000 ∷ 0x84000000 ∷ 0xa3801800 ∷ 0x84000000 ∷ 0xa0c02000 ∷ 0x84000000 ∷ 0xa4c02800 ∷ 0x8d400000 ∷ 0x84000000 ∷ 0x94803c01 ∷ 0x9bc03c01 ∷ 0xb3403800 ∷ 0x88000000 ∷ 0x84000000 ∷ []) 0 15 (true ∷ false ∷ true ∷ true ∷ false ∷ false ∷ true ∷ true ∷ false ∷ true ∷ true ∷ true ∷ true ∷ false ∷ false ∷ true ∷ []) (1 ∷ 4 ∷ 1 ∷ 4 ∷ []) (true ∷ false ∷ true ∷ []) (0 ∷ 1 ∷ 2 ∷ 4 ∷ 5 ∷ 6 ∷ 8 ∷ 9 ∷ 10 ∷ 9 ∷ 10 ∷ 9 ∷ 10 ∷ 9 ∷ 10 ∷ 9 ∷ 10 ∷ 11 ∷ 12 ∷ 15 ∷ 13 ∷ 14 ∷ []) ∷
    -- end in the middle
    walk (0x88000000 ∷ 0x84000000 ∷ 0x88000000 ∷ []) 0 3 (false ∷ false ∷ false ∷ false ∷ false ∷ false ∷ false ∷ false ∷ false ∷ false ∷ false ∷ false ∷ false ∷ false ∷ false ∷ false ∷ []) (0 ∷ 0 ∷ 0 ∷ 0 ∷ []) ([]) (0 ∷ []) ∷
    -- example
    walk (0x4c000000 ∷ 0x9cc00c00 ∷ 0x02225100 ∷ 0x84000000 ∷ 0x88000000 ∷ []) 0 5 (false ∷ false ∷ false ∷ false ∷ false ∷ false ∷ false ∷ false ∷ false ∷ false ∷ false ∷ false ∷ false ∷ false ∷ false ∷ false ∷ []) (0 ∷ 0 ∷ 0 ∷ 0 ∷ []) ([]) (0 ∷ 1 ∷ 3 ∷ 4 ∷ []) ∷
    -- example
    walk (0x4c000000 ∷ 0x9cc00c00 ∷ 0x02225100 ∷ 0x84000000 ∷ 0x88000000 ∷ []) 0 5 (true ∷ true ∷ true ∷ true ∷ true ∷ true ∷ true ∷ true ∷ true ∷ true ∷ true ∷ true ∷ true ∷ true ∷ true ∷ true ∷ []) (4 ∷ 4 ∷ 3 ∷ 1 ∷ []) (true ∷ true ∷ true ∷ false ∷ true ∷ false ∷ true ∷ true ∷ true ∷ true ∷ false ∷ true ∷ true ∷ false ∷ true ∷ false ∷ []) (0 ∷ 1 ∷ 2 ∷ 3 ∷ 4 ∷ []) ∷
    -- if false at loop end
    walk (0xa4000800 ∷ 0xa2000c00 ∷ 0x84000000 ∷ 0x88000000 ∷ []) 0 4 (false ∷ false ∷ false ∷ false ∷ false ∷ false ∷ false ∷ false ∷ false ∷ false ∷ false ∷ false ∷ false ∷ false ∷ false ∷ false ∷ []) (0 ∷ 0 ∷ 0 ∷ 0 ∷ []) ([]) (0 ∷ 1 ∷ 3 ∷ []) ∷
    -- if false at loop end
    walk (0xa4000800 ∷ 0xa2000c00 ∷ 0x84000000 ∷ 0x88000000 ∷ []) 0 4 (true ∷ true ∷ true ∷ true ∷ true ∷ true ∷ true ∷ true ∷ true ∷ true ∷ true ∷ true ∷ true ∷ true ∷ true ∷ true ∷ []) (1 ∷ 2 ∷ 4 ∷ 0 ∷ []) (true ∷ true ∷ true ∷ false ∷ false ∷ true ∷ true ∷ true ∷ true ∷ true ∷ false ∷ true ∷ false ∷ true ∷ true ∷ false ∷ []) (0 ∷ 1 ∷ 2 ∷ 1 ∷ 2 ∷ 3 ∷ []) ∷
    -- if false at loop end
    walk (0xa4000800 ∷ 0xa2000c00 ∷ 0x84000000 ∷ 0x88000000 ∷ []) 0 4 (false ∷ true ∷ true ∷ false ∷ false ∷ false ∷ false ∷ false ∷ true ∷ true ∷ true ∷ false ∷ true ∷ true ∷ true ∷ true ∷ []) (2 ∷ 2 ∷ 4 ∷ 4 ∷ []) (true ∷ []) (0 ∷ 1 ∷ 2 ∷ 1 ∷ 1 ∷ 3 ∷ []) ∷
    -- jump num unread
    walk (0xb4000801 ∷ 0x84000000 ∷ 0x88000000 ∷ []) 0 3 (false ∷ false ∷ false ∷ false ∷ false ∷ false ∷ false ∷ false ∷ false ∷ false ∷ false ∷ false ∷ false ∷ false ∷ false ∷ false ∷ []) (0 ∷ 0 ∷ 0 ∷ 0 ∷ []) ([]) (0 ∷ 1 ∷ 2 ∷ []) ∷
    -- jump num unread
    walk (0xb4000801 ∷ 0x84000000 ∷ 0x88000000 ∷ []) 0 3 (true ∷ true ∷ true ∷ true ∷ true ∷ true ∷ true ∷ true ∷ true ∷ true ∷ true ∷ true ∷ true ∷ true ∷ true ∷ true ∷ []) (1 ∷ 2 ∷ 4 ∷ 1 ∷ []) (true ∷ []) (0 ∷ 2 ∷ []) ∷
    -- nested loops one end
    walk (0xa4000800 ∷ 0xa4400800 ∷ 0x84000000 ∷ 0x88000000 ∷ []) 0 4 (false ∷ false ∷ false ∷ false ∷ false ∷ false ∷ false ∷ false ∷ false ∷ false ∷ false ∷ false ∷ false ∷ false ∷ false ∷ false ∷ []) (0 ∷ 0 ∷ 0 ∷ 0 ∷ []) ([]) (0 ∷ 1 ∷ 2 ∷ 3 ∷ []) ∷
    -- nested loops one end
    walk (0xa4000800 ∷ 0xa4400800 ∷ 0x84000000 ∷ 0x88000000 ∷ []) 0 4 (true ∷ true ∷ true ∷ true ∷ true ∷ true ∷ true ∷ true ∷ true ∷ true ∷ true ∷ true ∷ true ∷ true ∷ true ∷ true ∷ []) (1 ∷ 3 ∷ 4 ∷ 0 ∷ []) (true ∷ true ∷ true ∷ []) (0 ∷ 1 ∷ 2 ∷ 2 ∷ 2 ∷ 2 ∷ 1 ∷ 2 ∷ 2 ∷ 2 ∷ 2 ∷ 3 ∷ []) ∷
    -- p02
    walk (0xa4000800 ∷ 0x84000000 ∷ 0x84000000 ∷ 0x88000000 ∷ []) 0 4 (false ∷ false ∷ false ∷ false ∷ false ∷ false ∷ false ∷ false ∷ false ∷ false ∷ false ∷ false ∷ false ∷ false ∷ false ∷ false ∷ []) (0 ∷ 0 ∷ 0 ∷ 0 ∷ []) ([]) (0 ∷ 1 ∷ 2 ∷ 3 ∷ []) ∷
    -- p02
    walk (0xa4000800 ∷ 0x84000000 ∷ 0x84000000 ∷ 0x88000000 ∷ []) 0 4 (true ∷ true ∷ true ∷ true ∷ true ∷ true ∷ true ∷ true ∷ true ∷ true ∷ true ∷ true ∷ true ∷ true ∷ true ∷ true ∷ []) (0 ∷ 3 ∷ 0 ∷ 2 ∷ []) (false ∷ true ∷ true ∷ true ∷ true ∷ true ∷ true ∷ true ∷ false ∷ false ∷ false ∷ false ∷ true ∷ true ∷ true ∷ false ∷ []) (0 ∷ 1 ∷ 2 ∷ 3 ∷ []) ∷
    []

-- the words fetched by a run that ends with END
fetches : Run → List ℕ
fetches (done l) = map (λ s. s.word) l
fetches (failed l) = []
fetches (unfinished l) = []

settings : Walk → Settings
settings w = record { bools = λ b. get_or w.bools b false; ints = λ r. get_or w.ints r 0; truths = w.truths }

walked : map (λ w. fetches (run (code_of w.words 1) (settings w) 64 (start w.main w.endmain))) walks ≡ map (λ w. w.fetched) walks
unfolding walks walk settings fetches run step execute break arrive control_of decode_of format_of operations
walked = refl

-- P2 with x = 255: as many steps as its total
p2_whole : length (fetches (run (code_of (0xa4000800 ∷ 0x84000000 ∷ 0x84000000 ∷ 0x88000000 ∷ []) 1) (record { bools = λ b. false; ints = λ r. 255; truths = [] }) 514 (start 0 4))) ≡ 514
unfolding fetches run step execute break arrive control_of decode_of format_of operations
p2_whole = refl

-- a LOOP with an empty body is over at once, in every turn: the BREAK after it has no LOOP open
empty_loop : run (code_of (0xa4000000 ∷ 0x80000000 ∷ 0x88000000 ∷ []) 1) (record { bools = λ b. false; ints = λ r. 1; truths = [] }) 9 (start 0 3)
    ≡ failed (record { word = 0; opens = main 3 ∷ []; read = 0 } ∷ record { word = 1; opens = main 3 ∷ []; read = 0 } ∷ [])
unfolding run step execute break arrive control_of decode_of format_of operations
empty_loop = refl
