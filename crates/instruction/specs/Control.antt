-- What a word does to control flow (document 01, 'Stepping rules'), over the decoded fields.
-- Assumes nothing.
use Rattle.std.specs.Prelude.{ℕ, Bool, true, false, eqb}
use Rattle.answer.specs.Answers.{Answer, given, refused}
use Rattle.binary.specs.Addresses.{word_address}
use Rattle.instruction.specs.Words.{decode_of}
use Rattle.instruction.specs.declared.decoding.Fields.{Fields}
use Rattle.instruction.specs.declared.decoding.Fields.TheVariants.{Format0, Format2, Format3, Format4}
use Rattle.instruction.specs.declared.flow_control.Condition.TheVariants.{Always, Compared, Uniform}
use Rattle.instruction.specs.declared.flow_control.Control.{Control}
use Rattle.instruction.specs.declared.flow_control.Control.TheVariants.{Unknown, Plain, Emit, End, Break, If, Loop, Call, Jump}

abbrev pub when : Bool → Control → Control → Control
when true c rest = c
when false c rest = rest

-- BREAK, END and EMIT; NOP is plain
abbrev pub of_format0 : ℕ → Control
of_format0 op = when (eqb op 0x20) (Break Always) (when (eqb op 0x22) End (when (eqb op 0x2a) Emit Plain))

-- BREAKC, CALL, CALLC, IFC, JMPC
abbrev pub of_format2 : ℕ → ℕ → ℕ → Control
of_format2 op num dst =
    when (eqb op 0x23) (Break Compared)
    (when (eqb op 0x24) (Call Always (word_address dst) num)
    (when (eqb op 0x25) (Call Compared (word_address dst) num)
    (when (eqb op 0x28) (If Compared (word_address dst) num)
    (when (eqb op 0x2c) (Jump Compared (word_address dst) num) Plain))))

-- CALLU, IFU, LOOP, JMPU
abbrev pub of_format3 : ℕ → ℕ → ℕ → ℕ → Control
of_format3 op num dst id =
    when (eqb op 0x26) (Call (Uniform id) (word_address dst) num)
    (when (eqb op 0x27) (If (Uniform id) (word_address dst) num)
    (when (eqb op 0x29) (Loop id (word_address dst))
    (when (eqb op 0x2d) (Jump (Uniform id) (word_address dst) num) Plain)))

-- SETEMIT counts as EMIT; words of the other formats go on at the next word
abbrev pub control_in : Fields → Control
control_in (Format0 op rest) = of_format0 op
control_in (Format2 op num rest dst condop refy refx) = of_format2 op num dst
control_in (Format3 op num rest dst id) = of_format3 op num dst id
control_in (Format4 op rest winding primemit vtxid) = Emit
control_in _ = Plain

abbrev pub control : Answer Fields → Control
control (given f) = control_in f
control (refused n p) = Unknown

unfoldable pub control_of : ℕ → Control
control_of w = control (decode_of w)

-- IF or LOOP
abbrev pub is_block : Control → Bool
is_block (If c dst num) = true
is_block (Loop r dst) = true
is_block _ = false

-- visited, it goes on at the next word whatever is open and allowed
abbrev pub is_untested : Control → Bool
is_untested Unknown = true
is_untested Plain = true
is_untested End = true
is_untested _ = false
