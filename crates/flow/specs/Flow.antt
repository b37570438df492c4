-- The flow check of a list of words, as an answer.
-- Assumes nothing.
use Rattle.std.specs.Prelude.{ℕ, not, ◌&&◌, ◌||◌, List, eqb, leb, ltb, length, get_or}
use Rattle.answer.specs.Answers.{Answer, given, refused}
use Rattle.answer.specs.Faults.{fault_if, or_else}
use Rattle.answer.specs.Faults.{Fault}
use Rattle.answer.specs.Faults.{Nothing, At}
use Rattle.instruction.specs.Control.{control_of}
use Rattle.instruction.specs.Operands.{descriptor_of}
use Rattle.flow.specs.Rules.{Code, Rules, full_rules}
use Rattle.flow.specs.Visits.{Visit, main_trace, flow_fault, total, distinct}
use Rattle.flow.specs.declared.entry.Measured.{Measured}

-- the program of these words, with so many descriptors
abbrev pub code_of : List ℕ → ℕ → Code
code_of ws descriptors =
    record {
      words = length ws;
      descriptors = descriptors;
      control = λ p. control_of (get_or ws p 0);
      uses = λ p. descriptor_of (get_or ws p 0);
    }

abbrev pub measured_by : Fault → List Visit → Answer Measured
measured_by (At number word) vs = refused number word
measured_by Nothing vs = given (record { total = total vs; words = distinct vs })

-- the first of 22 to 28 with its word, or the measures
unfoldable pub flow_of : Rules → List ℕ → ℕ → ℕ → Answer Measured
flow_of R ws main endmain = let C = code_of ws 0 in measured_by (flow_fault C R main endmain) (main_trace C R main endmain).visits

-- what the flow check relies on and no caller has to see to, with document 01's numbers, at 0. 7, of the
-- words alone: 0 or over 512. 15: type not 0 or 1. 16: not main < endmain ≤ words
abbrev pub entry_fault : List ℕ → ℕ → ℕ → ℕ → Fault
entry_fault ws type main endmain =
    or_else (fault_if (eqb (length ws) 0 || ltb 512 (length ws)) 7 0)
    (or_else (fault_if (ltb 1 type) 15 0)
    (fault_if (not (ltb main endmain && leb endmain (length ws))) 16 0))

abbrev pub unless_refused : Fault → Answer Measured → Answer Measured
unless_refused (At number place) answer = refused number place
unless_refused Nothing answer = answer

-- the check of one main, at document 01's limits; EMIT and SETEMIT are allowed in type 1
unfoldable pub flow_answer : List ℕ → ℕ → ℕ → ℕ → Answer Measured
flow_answer ws type main endmain = unless_refused (entry_fault ws type main endmain) (flow_of (full_rules (eqb type 1)) ws main endmain)
