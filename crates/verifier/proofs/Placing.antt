-- What the tests of 1 to 8 and 13 to 17 say of a file, in both directions. Assumes nothing.
use mathlib.Core.Path.{◌≡◌, refl}
use mathlib.Core.Bool.{Bool, true, false, not, ◌&&◌, ◌||◌}
use mathlib.Core.List.{List}
use Prim.Native.Nat.{ℕ, ◌+◌, ◌*◌, ◌%◌, ◌≤◌, ◌<◌}
use native.Mathlib.Nat.{mul-le-mul_right}
use native.Mathlib.Omega.{arith}
use lib.Dec.{eqb, leb, ltb}
use lib.ListN.{length}
use borrow.Author.Tests.{ltb-false, le-ltb, leb-true, le-leb, lt-ltb, ltb-true, eqb-true, eqb-false, eq-eqb, ne_eqb}
use Rattle.answer.specs.Faults.{Nothing}
use Rattle.answer.proofs.Laws.{or_none}
use Rattle.binary.specs.Addresses.{byte_offset}
use Rattle.binary.specs.Ranges.{inside}
use Rattle.binary.specs.declared.Range.{Range}
use Rattle.container.proofs.Laws.{apart, meeting}
use Rattle.container.specs.Executable.{DVLE, section_at, executable_base, executable_of, misplaced_section, bad_entry, misplaced_tables, overlapped_by_tables, executable_fault}
use Rattle.container.specs.Placement.{table_range, misplaced, words_meet, words_meet_table}
use Rattle.container.specs.Program.{DVLB, DVLP, named, count_of, program_base, program_of, header_fault, bad_sizes, misplaced_table, overlapped_words, program_fault, library_fault}
use Rattle.container.specs.declared.executables.Executable.{Executable}
use Rattle.container.specs.declared.placement.Table.{Table}
use Rattle.container.specs.declared.programs.Program.{Program}
use Rattle.flow.proofs.Tests.{not_bad, both, neither, passed, last_passed, true_not_false}
use Rattle.verifier.specs.Clean.{InPlace, Placed, Apart, ProgramTables, Section, ExecutableTables, CleanLibrary}
use Rattle.verifier.specs.Verdict.{full_limits}

module _ (align size length : ℕ) (t : Table) where
  pub in_place : misplaced align size length t ≡ false → Placed align size length t
  unfolding misplaced
  in_place e full = by (eqb (t.offset % align) 0) (inside (table_range size t) length) refl refl (rw (ne_eqb t.count 0 full) at e)
    where
      by : (a b : Bool) → eqb (t.offset % align) 0 ≡ a → inside (table_range size t) length ≡ b → (not a || not b) ≡ false → InPlace align size length t
      by true true p q r = record { aligned = eqb-true _ _ p; inside = leb-true _ _ q }
      by true false p q r = absurd (true_not_false r)
      by false b p q r = absurd (true_not_false r)

  pub is_placed : Placed align size length t → misplaced align size length t ≡ false
  unfolding misplaced
  is_placed p = by (eqb t.count 0) refl
    where
      by : (b : Bool) → eqb t.count 0 ≡ b → (not b && (not (eqb (t.offset % align) 0) || not (inside (table_range size t) length))) ≡ false
      by true e = refl
      by false e =
          let q = p (eqb-false _ _ e) in
          rw (eq-eqb _ _ q.aligned, le-leb _ _ q.inside)

  -- each entry of a table in place starts inside the file
  pub entry_inside : Placed align size length t → (j : ℕ) → j < t.count → t.start.0 + j * size ≤ length
  entry_inside p j h =
      let q = p (omega arith) in
      let m : j * size ≤ t.count * size = mul-le-mul_right size (omega arith) in
      omega (arith, q.inside)

pub is_apart : (words : Table) (r : Range) → Apart words r → words_meet words r ≡ false
is_apart words r a = by (words_meet words r) refl
  where
    by : (b : Bool) → words_meet words r ≡ b → b ≡ false
    by true e = let m = meeting words r (rw e tt) in absurd (a m.0 m.1.0 m.1.1)
    by false e = refl

-- four or five tests, none of which holds
pub none_of_4 : (a b c d : Bool) → (a || (b || (c || d))) ≡ false → (a ≡ false) × (b ≡ false) × (c ≡ false) × (d ≡ false)
none_of_4 a b c d e =
    let (p, q) = neither a _ e in
    let (r, s) = neither b _ q in
    let (t, u) = neither c d s in
    (p, r, t, u)

pub none_of_5 : (a b c d f : Bool) → (a || (b || (c || (d || f)))) ≡ false → (a ≡ false) × (b ≡ false) × (c ≡ false) × (d ≡ false) × (f ≡ false)
none_of_5 a b c d f e =
    let (p, q) = neither a _ e in
    let (r, s, t, u) = none_of_4 b c d f q in
    (p, r, s, t, u)

-- 8
module _ (file : List ℕ) (p : Program) where
  pub program_tables : (misplaced_table (length file) p || overlapped_words (program_base file + 40) p) ≡ false → ProgramTables file p
  unfolding misplaced_table overlapped_words
  program_tables e =
      let (m, o) = neither (misplaced_table (length file) p) _ e in
      let (a, b, c, d) = none_of_4 (misplaced 4 4 (length file) p.words) (misplaced 4 8 (length file) p.descriptors) (misplaced 4 8 (length file) p.lines) _ m in
      let (f, g, h, i) = none_of_4 (words_meet p.words (record { start = byte_offset 0; size = program_base file + 40 })) (words_meet_table p.words 8 p.descriptors) (words_meet_table p.words 8 p.lines) _ o in
      record {
        words = in_place 4 4 (length file) p.words a;
        descriptors = in_place 4 8 (length file) p.descriptors b;
        lines = in_place 4 8 (length file) p.lines c;
        names = in_place 1 1 (length file) p.file_names d;
        apart_header = apart p.words _ f;
        apart_descriptors = apart p.words _ g;
        apart_lines = apart p.words _ h;
        apart_names = apart p.words _ i;
      }

  pub tables_pass : ProgramTables file p → (misplaced_table (length file) p || overlapped_words (program_base file + 40) p) ≡ false
  unfolding misplaced_table overlapped_words
  tables_pass t =
      rw (
        is_placed 4 4 (length file) p.words t.words,
        is_placed 4 8 (length file) p.descriptors t.descriptors,
        is_placed 4 8 (length file) p.lines t.lines,
        is_placed 1 1 (length file) p.file_names t.names,
        is_apart p.words _ t.apart_header,
        is_apart p.words _ t.apart_descriptors,
        is_apart p.words _ t.apart_lines,
        is_apart p.words _ t.apart_names,
      )

-- 1 to 8
module _ (file : List ℕ) where
  abbrev p : Program
  p = program_of file

  sizes : bad_sizes full_limits p ≡ false → (1 ≤ p.words.count) × (p.words.count ≤ 512) × (p.descriptors.count ≤ 128)
  unfolding bad_sizes
  sizes e =
      let (a, r) = neither (eqb p.words.count 0) _ e in
      let (b, c) = neither (ltb 512 p.words.count) _ r in
      let some = eqb-false p.words.count 0 a in
      (omega arith, ltb-false 512 p.words.count b, ltb-false 128 p.descriptors.count c)

  pub clean_library : library_fault full_limits file ≡ Nothing → CleanLibrary file
  unfolding library_fault header_fault program_fault
  clean_library e =
      let (h, q) = or_none (header_fault file) _ e in
      let (a, h₂) = passed (ltb 65536 (length file)) 1 0 _ h in
      let (b, h₃) = passed (ltb (length file) 8) 2 0 _ h₂ in
      let (c, h₄) = passed (not (named DVLB file 0)) 3 0 _ h₃ in
      let (n, m) = neither (eqb (count_of file) 0) _ (last_passed _ 4 0 h₄) in
      let (d, q₂) = passed (ltb (length file) (program_base file + 40)) 5 0 _ q in
      let (f, q₃) = passed (not (named DVLP file (program_base file))) 6 0 _ q₂ in
      let (g, q₄) = passed (bad_sizes full_limits p) 7 0 _ q₃ in
      let some = eqb-false (count_of file) 0 n in
      record {
        no1 = ltb-false 65536 (length file) a;
        no2 = ltb-false (length file) 8 b;
        no3 = not_bad (named DVLB file 0) c;
        no4 = (omega arith, ltb-false 16 (count_of file) m);
        no5 = omega (arith, ltb-false (length file) (program_base file + 40) d);
        no6 = not_bad (named DVLP file (program_base file)) f;
        no7 = sizes g;
        no8 = program_tables file p (last_passed _ 8 0 q₄);
      }

  pub library_passes : CleanLibrary file → library_fault full_limits file ≡ Nothing
  unfolding library_fault header_fault program_fault bad_sizes
  library_passes c =
      let (n, m) = c.no4 in
      let (a, b, d) = c.no7 in
      let long : program_base file + 40 ≤ length file = omega (arith, c.no5) in
      rw (
        le-ltb 65536 (length file) c.no1,
        le-ltb (length file) 8 c.no2,
        c.no3,
        ne_eqb (count_of file) 0 (omega arith),
        le-ltb 16 (count_of file) m,
        le-ltb (length file) (program_base file + 40) long,
        c.no6,
        ne_eqb p.words.count 0 (omega arith),
        le-ltb 512 p.words.count b,
        le-ltb 128 p.descriptors.count d,
        tables_pass file p c.no8,
      )

-- 13 to 17 of an executable, beside an opcode table
module _ (file : List ℕ) (words : Table) (index : ℕ) where
  abbrev base : ℕ
  base = executable_base file index

  abbrev e : Executable
  e = executable_of file index

  section_clean : misplaced_section base words (length file) ≡ false → Section file words base
  unfolding misplaced_section
  section_clean h =
      let (a, r) = neither (not (eqb (base % 4) 0)) _ h in
      let (b, c) = neither (not (inside (section_at base) (length file))) _ r in
      record { aligned = eqb-true (base % 4) 0 (not_bad _ a); inside = leb-true (base + 64) (length file) (not_bad _ b); apart_words = apart words (section_at base) c }

  section_passes : Section file words base → misplaced_section base words (length file) ≡ false
  unfolding misplaced_section
  section_passes s = rw (eq-eqb (base % 4) 0 s.aligned, le-leb (base + 64) (length file) s.inside, is_apart words (section_at base) s.apart_words)

  tables_clean : (misplaced_tables (length file) e || overlapped_by_tables words e) ≡ false → ExecutableTables file words e
  unfolding misplaced_tables overlapped_by_tables
  tables_clean h =
      let (m, o) = neither (misplaced_tables (length file) e) _ h in
      let (a, b, c, d, f) = none_of_5 (misplaced 4 20 (length file) e.constants) (misplaced 4 16 (length file) e.labels) (misplaced 4 8 (length file) e.outputs) (misplaced 4 8 (length file) e.uniforms) _ m in
      let (g, i, j, k, l) = none_of_5 (words_meet_table words 20 e.constants) (words_meet_table words 16 e.labels) (words_meet_table words 8 e.outputs) (words_meet_table words 8 e.uniforms) _ o in
      record {
        constants = in_place 4 20 (length file) e.constants a;
        labels = in_place 4 16 (length file) e.labels b;
        outputs = in_place 4 8 (length file) e.outputs c;
        uniforms = in_place 4 8 (length file) e.uniforms d;
        symbols = in_place 1 1 (length file) e.symbols f;
        apart_constants = apart words _ g;
        apart_labels = apart words _ i;
        apart_outputs = apart words _ j;
        apart_uniforms = apart words _ k;
        apart_symbols = apart words _ l;
      }

  tables_do_pass : ExecutableTables file words e → (misplaced_tables (length file) e || overlapped_by_tables words e) ≡ false
  unfolding misplaced_tables overlapped_by_tables
  tables_do_pass t =
      rw (
        is_placed 4 20 (length file) e.constants t.constants,
        is_placed 4 16 (length file) e.labels t.labels,
        is_placed 4 8 (length file) e.outputs t.outputs,
        is_placed 4 8 (length file) e.uniforms t.uniforms,
        is_placed 1 1 (length file) e.symbols t.symbols,
        is_apart words _ t.apart_constants,
        is_apart words _ t.apart_labels,
        is_apart words _ t.apart_outputs,
        is_apart words _ t.apart_uniforms,
        is_apart words _ t.apart_symbols,
      )

  -- the rows 13 to 17 of `CleanExecutable`
  pub record Headed : Type 0 where
    pub section : Section file words base
    pub name : named DVLE file base ≡ true
    pub type : e.shader_type ≤ 1
    pub main : e.main.0 < e.endmain.0
    pub endmain : e.endmain.0 ≤ words.count
    pub tables : ExecutableTables file words e

  pub headed : (place : ℕ) → executable_fault 1 words file index place ≡ Nothing → Headed
  unfolding executable_fault bad_entry
  headed place h =
      let (a, h₂) = passed (misplaced_section base words (length file)) 13 place _ h in
      let (b, h₃) = passed (not (named DVLE file base)) 14 place _ h₂ in
      let (c, h₄) = passed (ltb 1 e.shader_type) 15 place _ h₃ in
      let (d, h₅) = passed (bad_entry e.main.0 e.endmain.0 words.count) 16 place _ h₄ in
      let (f, g) = both (ltb e.main.0 e.endmain.0) (leb e.endmain.0 words.count) (not_bad _ d) in
      record {
        section = section_clean a;
        name = not_bad (named DVLE file base) b;
        type = ltb-false 1 e.shader_type c;
        main = ltb-true e.main.0 e.endmain.0 f;
        endmain = leb-true e.endmain.0 words.count g;
        tables = tables_clean (last_passed _ 17 place h₅);
      }

  pub head_passes : (place : ℕ) → Headed → executable_fault 1 words file index place ≡ Nothing
  unfolding executable_fault bad_entry
  head_passes place h =
      rw (
        section_passes h.section,
        h.name,
        le-ltb 1 e.shader_type h.type,
        lt-ltb e.main.0 e.endmain.0 h.main,
        le-leb e.endmain.0 words.count h.endmain,
        tables_do_pass h.tables,
      )
