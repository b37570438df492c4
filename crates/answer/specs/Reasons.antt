-- The number of each reason: that of its row in document 01's table ('Numbers given back').
-- Assumes nothing.
use Rattle.std.specs.Prelude.{ℕ}
use Rattle.answer.specs.declared.reason.Reason.{Reason}
use Rattle.answer.specs.declared.reason.Reason.TheVariants.{FileTooLong, FileTooShort, NoLibrary, ExecutableCount, FileCutOff, NoProgram, TableSizes, MisplacedProgramTable, UnknownOpcode, BadOperator, MissingDescriptor, BadRegister, MisplacedExecutable, NoExecutable, UnknownType, BadEntry, MisplacedTable, BadConstant, BadLabel, BadOutput, BadUniform, EmitInVertex, BreakOutsideLoop, BadBounds, TooDeep, BadJump, TooLong, BadEnd, NotThere, BufferTooShort, NotEncodable}

abbrev pub number_of : Reason → ℕ
number_of FileTooLong = 1
number_of FileTooShort = 2
number_of NoLibrary = 3
number_of ExecutableCount = 4
number_of FileCutOff = 5
number_of NoProgram = 6
number_of TableSizes = 7
number_of MisplacedProgramTable = 8
number_of UnknownOpcode = 9
number_of BadOperator = 10
number_of MissingDescriptor = 11
number_of BadRegister = 12
number_of MisplacedExecutable = 13
number_of NoExecutable = 14
number_of UnknownType = 15
number_of BadEntry = 16
number_of MisplacedTable = 17
number_of BadConstant = 18
number_of BadLabel = 19
number_of BadOutput = 20
number_of BadUniform = 21
number_of EmitInVertex = 22
number_of BreakOutsideLoop = 23
number_of BadBounds = 24
number_of TooDeep = 25
number_of BadJump = 26
number_of TooLong = 27
number_of BadEnd = 28
number_of NotThere = 29
number_of BufferTooShort = 30
number_of NotEncodable = 31
