-- The listing and the report of a whole library (document 01, 'Listing and report', 'Numbers given back').
-- Assumes nothing.
use Rattle.std.specs.Borrow.{Bor, MutBor}
use Rattle.std.specs.Io.KnownBytes.{Appends}
use Rattle.std.specs.Prelude.{◌≡◌, ℕ, zero, suc, ◌+◌, ◌*◌, ◌<◌, Bool, true, List, [], ◌++◌, ltb, length, take, Option, Result}
use Rattle.std.proofs.lemmas.List.Edits.{sets}
use Rattle.answer.specs.Answers.{Answer, answered, given, refused, or_short}
use Rattle.answer.specs.declared.Refusal.{Refusal}
use Rattle.binary.specs.Bytes.{u32_at}
use Rattle.container.specs.declared.placement.Table.{Table}
use Rattle.container.specs.declared.programs.Program.{Program}
use Rattle.text.specs.Records.{record_of, line_text, report_text, refused_text}
use Rattle.verifier.specs.Executables.{report_of}
use Rattle.verifier.specs.Lists.{list_of}
use Rattle.verifier.specs.Verdict.{check_of}
use Rattle.verifier.specs.Words.{word_at}
use Rattle.verifier.specs.declared.verdict.Library.{Library}

-- 'descriptor 8 (first 4 are used)'
abbrev pub descriptor_at : List ℕ → Table → ℕ → ℕ
descriptor_at file t i = u32_at file (t.start.0 + i * 8)

abbrev pub descriptors_of : List ℕ → Table → List ℕ
descriptors_of file t = list_of (descriptor_at file t) 0 t.count

-- the records at 0, 1, .., n in all, one after another
unfoldable pub records_of : (ℕ → List ℕ) → ℕ → List ℕ
records_of f zero = []
records_of f (suc n) = records_of f n ++ f n

-- 'Listing, one record per word'
abbrev pub line_at : List ℕ → Program → ℕ → List ℕ
line_at file p i = record_of 80 (line_text i (word_at file p.words i) (descriptors_of file p.descriptors))

-- 'A file has one record per executable'
abbrev pub summary_at : List ℕ → Program → ℕ → List ℕ
summary_at file p i = record_of 80 (report_text i (report_of file p i))

-- 30, 'lent buffer too short', for n records of 80 bytes; else how many bytes are written
abbrev pub room : ℕ → ℕ → Answer ℕ
room size n = or_short (ltb size (n * 80)) (given (n * 80))

-- the buffer's final bytes: the records in the place of its first, and none beyond; as they were where the
-- answer is a refusal
abbrev pub writes : Answer ℕ → List ℕ → List ℕ → List ℕ
writes (given n) records old = sets old 0 records
writes (refused number place) records old = old

-- the same of records that a closure makes: if it must make f i for each i, the records of f are written
abbrev pub WritesEach : (ℕ → List ℕ → Type 0) → ℕ → Answer ℕ → List ℕ → List ℕ → Type 0
WritesEach Makes n answer old new = (f : ℕ → List ℕ) → ((i : ℕ) (r : List ℕ) → i < n → Makes i r → r ≡ f i) → new ≡ writes answer (records_of f n) old

-- the listing
abbrev pub list_in : ℕ → Answer Library → Answer ℕ
list_in size (given l) = room size l.program.words.count
list_in size (refused number place) = refused number place

abbrev pub lines_in : List ℕ → Answer Library → List ℕ
lines_in file (given l) = records_of (line_at file l.program) l.program.words.count
lines_in file (refused number place) = []

unfoldable pub list_answer : List ℕ → ℕ → Answer ℕ
list_answer file size = list_in size (check_of file)

unfoldable pub listed_bytes : List ℕ → List ℕ → List ℕ
listed_bytes file old = writes (list_answer file (length old)) (lines_in file (check_of file)) old

-- the report
abbrev pub summary_in : ℕ → Answer Library → Answer ℕ
summary_in size (given l) = room size l.executables
summary_in size (refused number place) = refused number place

abbrev pub summaries_in : List ℕ → Answer Library → List ℕ
summaries_in file (given l) = records_of (summary_at file l.program) l.executables
summaries_in file (refused number place) = []

unfoldable pub summary_answer : List ℕ → ℕ → Answer ℕ
summary_answer file size = summary_in size (check_of file)

unfoldable pub summary_bytes : List ℕ → List ℕ → List ℕ
summary_bytes file old = writes (summary_answer file (length old)) (summaries_in file (check_of file)) old

-- what a program writes: so many bytes of the text, as far as it has them; or the refusal's record
abbrev pub text_of : Answer ℕ → List ℕ → List ℕ
text_of (given n) text = take n text
text_of (refused number place) text = record_of 80 (refused_text number place)

-- what a closure makes of a file in a buffer: its answer, and the text
abbrev pub MakesText : (Bor (List ℕ) → MutBor (List ℕ) → Result ℕ Refusal → MutBor (List ℕ) → Type 0) → List ℕ → List ℕ → Result ℕ Refusal → List ℕ → Type 0
MakesText Makes file room answer text =
    (lent : Bor (List ℕ)) × (before after : MutBor (List ℕ)) × Makes lent before answer after × (lent.now ≡ file) × (before.now ≡ room) × (after.now ≡ text)

-- .. and what is written of it, if all is
abbrev pub WritesMade : (Bor (List ℕ) → MutBor (List ℕ) → Result ℕ Refusal → MutBor (List ℕ) → Type 0) → List ℕ → List ℕ → List ℕ → Bool → Option (List ℕ) → Option (List ℕ) → Type 0
WritesMade Makes file room text whole old new =
    (answer : Result ℕ Refusal) × MakesText Makes file room answer text × (whole ≡ true → Appends old new (text_of (answered answer) text))
