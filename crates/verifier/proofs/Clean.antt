-- A file has no fault exactly if it is clean: each test of the check says what its line of `Clean` says.
-- Assumes nothing.
use mathlib.Core.Path.{◌≡◌, refl, sym, ap, ◌∙◌}
use mathlib.Core.Bool.{true, false, ◌&&◌}
use mathlib.Core.List.{List, [], ◌∷◌}
use Prim.Native.Nat.{ℕ, ◌+◌, ◌-◌, ◌≤◌, ◌<◌}
use native.Mathlib.Omega.{arith}
use lib.Dec.{leb, ltb}
use lib.ListN.{length, get_or}
use borrow.Author.Tests.{ltb-false, le-ltb, leb-true, le-leb, leb-false, lt-leb}
use Rattle.answer.specs.Faults.{first_in}
use Rattle.answer.specs.Faults.{Fault}
use Rattle.answer.specs.Faults.{Nothing, At}
use Rattle.answer.proofs.Laws.{or_none, none_at, none_first}
use Rattle.binary.specs.declared.WordAddress.{WordAddress}
use Rattle.container.specs.Executable.{executable_of, executable_fault}
use Rattle.container.specs.Program.{count_of, program_of, library_fault}
use Rattle.container.specs.declared.executables.Executable.{Executable}
use Rattle.container.specs.declared.placement.Table.{Table}
use Rattle.container.specs.declared.programs.Program.{Program}
use Rattle.flow.proofs.Stops.{first_total}
use Rattle.flow.proofs.Tests.{true_not_false, not_bad, both, neither, passed, last_passed}
use Rattle.flow.specs.Flow.{code_of, measured_by, flow_of}
use Rattle.flow.specs.Own.{own_words, has}
use Rattle.flow.specs.Rules.{Code, Rules}
use Rattle.flow.specs.Visits.{Visit, bad22, bad23, bad24, bad25, bad26, is_end, fault_at, first_fault, flow_fault, total}
use Rattle.instruction.specs.Control.{control_of}
use Rattle.instruction.specs.Operands.{descriptor_of, operators_of}
use Rattle.instruction.specs.declared.flow_control.Control.{Control}
use Rattle.instruction.specs.declared.flow_control.Control.TheVariants.{Unknown, Plain, Emit, End, Break, If, Loop, Call, Jump}
use Rattle.instruction.specs.declared.operand.CompareOperators.{CompareOperators}
use Rattle.std.specs.Prelude.{Option, Some, None}
use Rattle.tables.proofs.Laws.{label_name_lem, uniform_name_lem}
use Rattle.tables.specs.Constants.{entry_of, is_bad, convert_of, constant_fault}
use Rattle.tables.specs.Entries.{label_address, label_name, label_fault, good_output, output_fault, in_one_kind, uniform_name, uniform_start, uniform_end, uniform_fault}
use Rattle.tables.specs.Names.{good_name, names_end}
use Rattle.verifier.specs.Clean.{Every, GoodLabel, GoodUniform, CleanWord, code_in, visits_in, CleanExecutable, Clean}
use Rattle.verifier.specs.Executables.{place_of, symbols_of, constant_at, label_at, output_at, uniform_at, rules_for, flow_in, flow_at, one_executable}
use Rattle.verifier.specs.Verdict.{full_limits, whole_fault}
use Rattle.verifier.specs.Words.{word_at, words_of, is_unknown, bad_operators, undescribed, bad_register, word_fault, words_fault}
use Rattle.verifier.proofs.Lists.{length_list, list_at}
use Rattle.verifier.proofs.Placing.{clean_library, library_passes, headed, head_passes}

-- ---- 9 to 12

module _ (d w : ℕ) where
  known : (control_of w ≡ Unknown → ⊥) → is_unknown (control_of w) ≡ false
  known n = by (control_of w) refl
    where
      by : (i : Control) → control_of w ≡ i → is_unknown i ≡ false
      by Unknown e = absurd (n e)
      by Plain e = refl
      by Emit e = refl
      by End e = refl
      by (Break c) e = refl
      by (If c dst num) e = refl
      by (Loop r dst) e = refl
      by (Call c dst num) e = refl
      by (Jump c dst num) e = refl

  good_operators : bad_operators (operators_of w) ≡ false → (o : CompareOperators) → operators_of w ≡ Some o → (o.x ≤ 5) × (o.y ≤ 5)
  good_operators h o e =
      let (a, b) = neither (ltb 5 o.x) (ltb 5 o.y) (sym (ap bad_operators e) ∙ h) in
      (ltb-false 5 o.x a, ltb-false 5 o.y b)

  operators_pass : ((o : CompareOperators) → operators_of w ≡ Some o → (o.x ≤ 5) × (o.y ≤ 5)) → bad_operators (operators_of w) ≡ false
  operators_pass n = by (operators_of w) refl
    where
      by : (o : Option CompareOperators) → operators_of w ≡ o → bad_operators o ≡ false
      by (Some o) e = let (a, b) = n o e in rw (le-ltb 5 o.x a, le-ltb 5 o.y b)
      by None e = refl

  described : undescribed d (descriptor_of w) ≡ false → (n : ℕ) → descriptor_of w ≡ Some n → n < d
  described h n e = leb-false d n (sym (ap (undescribed d) e) ∙ h)

  described_passes : ((n : ℕ) → descriptor_of w ≡ Some n → n < d) → undescribed d (descriptor_of w) ≡ false
  described_passes k = by (descriptor_of w) refl
    where
      by : (i : Option ℕ) → descriptor_of w ≡ i → undescribed d i ≡ false
      by (Some n) e = lt-leb d n (k n e)
      by None e = refl

  register_passes : ((r : ℕ) (dst : WordAddress) → control_of w ≡ Loop r dst → r ≤ 3) → bad_register (control_of w) ≡ false
  register_passes n = by (control_of w) refl
    where
      by : (i : Control) → control_of w ≡ i → bad_register i ≡ false
      by Unknown e = refl
      by Plain e = refl
      by Emit e = refl
      by End e = refl
      by (Break c) e = refl
      by (If c dst num) e = refl
      by (Loop r dst) e = le-ltb 3 r (n r dst e)
      by (Call c dst num) e = refl
      by (Jump c dst num) e = refl

  pub clean_word : (place : ℕ) → word_fault d w place ≡ Nothing → CleanWord d w
  unfolding word_fault
  clean_word place h =
      let (a, h₂) = passed (is_unknown (control_of w)) 9 place _ h in
      let (b, h₃) = passed (bad_operators (operators_of w)) 10 place _ h₂ in
      let (c, h₄) = passed (undescribed d (descriptor_of w)) 11 place _ h₃ in
      let f = last_passed (bad_register (control_of w)) 12 place h₄ in
      record {
        no9 = λ e. true_not_false (sym (ap is_unknown e) ∙ a);
        no10 = good_operators b;
        no11 = described c;
        no12 = λ r dst e. ltb-false 3 r (sym (ap bad_register e) ∙ f);
      }

  word_passes : (place : ℕ) → CleanWord d w → word_fault d w place ≡ Nothing
  unfolding word_fault
  word_passes place c = rw (known c.no9, operators_pass c.no10, described_passes c.no11, register_passes c.no12)

module _ (file : List ℕ) (t : Table) (d : ℕ) where
  pub clean_words : words_fault d (words_of file t) ≡ Nothing → (k : ℕ) → k < t.count → CleanWord d (word_at file t k)
  unfolding words_fault
  clean_words e k h =
      let n : k < length (words_of file t) = omega (arith, length_list (word_at file t) 0 t.count) in
      let at = list_at (word_at file t) 0 t.count k 0 h in
      let z : 0 + k ≡ k = omega arith in
      rw (at, z) at (clean_word d (get_or (words_of file t) k 0) k (rw z at (none_at _ 0 (length (words_of file t)) e k n)))

  words_pass : ((k : ℕ) → k < t.count → CleanWord d (word_at file t k)) → words_fault d (words_of file t) ≡ Nothing
  unfolding words_fault
  words_pass c =
      none_first _ 0 (length (words_of file t)) (λ k h.
      let m : k < t.count = omega (arith, length_list (word_at file t) 0 t.count) in
      let z : 0 + k ≡ k = omega arith in
      rw (z, list_at (word_at file t) 0 t.count k 0 m, z) (word_passes d (word_at file t k) k (c k m)))

-- ---- 18 to 21

module _ (file symbols : List ℕ) where
  good_label_lem : (s : List ℕ) (words place : ℕ) → label_fault s words (names_end symbols) place ≡ Nothing → GoodLabel words symbols s
  unfolding label_fault
  good_label_lem s words place e =
      let (a, b) = both (leb (label_address s) words) (good_name symbols (label_name s)) (sym (label_name_lem s symbols words) ∙ not_bad _ (last_passed _ 19 place e)) in
      record { address = leb-true (label_address s) words a; name = b }

  label_passes : (s : List ℕ) (words place : ℕ) → GoodLabel words symbols s → label_fault s words (names_end symbols) place ≡ Nothing
  unfolding label_fault
  label_passes s words place g = rw (label_name_lem s symbols words, le-leb (label_address s) words g.address, g.name)

  good_uniform_lem : (s : List ℕ) (place : ℕ) → uniform_fault s (names_end symbols) place ≡ Nothing → GoodUniform symbols s
  unfolding uniform_fault
  good_uniform_lem s place e =
      let (ab, c) = both (leb (uniform_start s) (uniform_end s) && in_one_kind (uniform_start s) (uniform_end s)) (good_name symbols (uniform_name s)) (sym (uniform_name_lem s symbols) ∙ not_bad _ (last_passed _ 21 place e)) in
      let (a, b) = both (leb (uniform_start s) (uniform_end s)) (in_one_kind (uniform_start s) (uniform_end s)) ab in
      record { order = leb-true (uniform_start s) (uniform_end s) a; kind = b; name = c }

  uniform_passes : (s : List ℕ) (place : ℕ) → GoodUniform symbols s → uniform_fault s (names_end symbols) place ≡ Nothing
  unfolding uniform_fault
  uniform_passes s place g = rw (uniform_name_lem s symbols, le-leb (uniform_start s) (uniform_end s) g.order, g.kind, g.name)

good_constant : (s : List ℕ) (place : ℕ) → constant_fault s place ≡ Nothing → is_bad (convert_of (entry_of s)) ≡ false
unfolding constant_fault
good_constant s place e = last_passed (is_bad (convert_of (entry_of s))) 18 place e

constant_passes : (s : List ℕ) (place : ℕ) → is_bad (convert_of (entry_of s)) ≡ false → constant_fault s place ≡ Nothing
unfolding constant_fault
constant_passes s place e = rw e

good_output_lem : (s : List ℕ) (place : ℕ) → output_fault s place ≡ Nothing → good_output s ≡ true
unfolding output_fault
good_output_lem s place e = not_bad (good_output s) (last_passed _ 20 place e)

output_passes : (s : List ℕ) (place : ℕ) → good_output s ≡ true → output_fault s place ≡ Nothing
unfolding output_fault
output_passes s place e = rw e

-- at every entry
each_at : {P : ℕ → Type 0} (f : ℕ → Fault) (n : ℕ) → ((j : ℕ) → f j ≡ Nothing → P j) → first_in f 0 n ≡ Nothing → (j : ℕ) → j < n → P j
each_at f n g e j h =
    let z : 0 + j ≡ j = omega arith in
    g j (rw z at (none_at f 0 n e j h))

none_of : {P : ℕ → Type 0} (f : ℕ → Fault) (n : ℕ) → ((j : ℕ) → P j → f j ≡ Nothing) → ((j : ℕ) → j < n → P j) → first_in f 0 n ≡ Nothing
none_of f n g c = none_first f 0 n (λ j h. let z : 0 + j ≡ j = omega arith in rw z (g j (c j h)))

-- ---- 22 to 28

every : {P Q : Visit → Type 0} (vs : List Visit) → ((v : Visit) → P v → Q v) → Every P vs → Every Q vs
every [] f e = tt
every (v ∷ vs) f (p, e) = (f v p, every vs f e)

module _ (C : Code) (R : Rules) where
  -- 22 to 26 at a visit
  record Free (v : Visit) : Type 0 where
    f22 : bad22 R (C.control v.word) ≡ false
    f23 : bad23 (C.control v.word) v.opens ≡ false
    f24 : bad24 C (C.control v.word) v.word v.end ≡ false
    f25 : bad25 R (C.control v.word) v.opens ≡ false
    f26 : bad26 C (C.control v.word) v.word v.end ≡ false

  free : (v : Visit) → fault_at C R v.opens v.word v.end ≡ Nothing → Free v
  unfolding fault_at
  free v e =
      let p = v.word in
      let (a, e₂) = passed (bad22 R (C.control p)) 22 p _ e in
      let (b, e₃) = passed (bad23 (C.control p) v.opens) 23 p _ e₂ in
      let (c, e₄) = passed (bad24 C (C.control p) p v.end) 24 p _ e₃ in
      let (d, e₅) = passed (bad25 R (C.control p) v.opens) 25 p _ e₄ in
      record { f22 = a; f23 = b; f24 = c; f25 = d; f26 = last_passed (bad26 C (C.control p) p v.end) 26 p e₅ }

  free_passes : (v : Visit) → Free v → fault_at C R v.opens v.word v.end ≡ Nothing
  unfolding fault_at
  free_passes v f = rw (f.f22, f.f23, f.f24, f.f25, f.f26)

  all_free : (before : ℕ) (vs : List Visit) → first_fault C R before vs ≡ Nothing → Every Free vs
  all_free before [] e = tt
  all_free before (v ∷ vs) e =
      let (a, e₂) = passed (ltb R.most (before + v.weight)) 27 v.word _ e in
      let (b, e₃) = or_none (fault_at C R v.opens v.word v.end) _ e₂ in
      (free v b, all_free (before + v.weight) vs e₃)

  first_passes : (before : ℕ) (vs : List Visit) → Every Free vs → before + total vs ≤ R.most → first_fault C R before vs ≡ Nothing
  first_passes before [] f h = refl
  first_passes before (v ∷ vs) (f, fs) h =
      rw (le-ltb R.most (before + v.weight) (omega arith), free_passes v f) (first_passes (before + v.weight) vs fs (omega arith))

-- five lists of tests are one
joined : (C : Code) (R : Rules) (vs : List Visit)
    → Every (λ v. bad22 R (C.control v.word) ≡ false) vs
    → Every (λ v. bad23 (C.control v.word) v.opens ≡ false) vs
    → Every (λ v. bad24 C (C.control v.word) v.word v.end ≡ false) vs
    → Every (λ v. bad25 R (C.control v.word) v.opens ≡ false) vs
    → Every (λ v. bad26 C (C.control v.word) v.word v.end ≡ false) vs
    → Every (Free C R) vs
joined C R [] a b c d e = tt
joined C R (v ∷ vs) (a, a₂) (b, b₂) (c, c₂) (d, d₂) (e, e₂) = (record { f22 = a; f23 = b; f24 = c; f25 = d; f26 = e }, joined C R vs a₂ b₂ c₂ d₂ e₂)

-- the flow check of an executable's main has no fault
measures : (f : Fault) (vs : List Visit) (place : ℕ) → flow_at place (measured_by f vs) ≡ Nothing → f ≡ Nothing
measures (At n q) vs place e = absurd (let z : ◌≡◌ {A = ℕ} 0 1 = cc in omega arith)
measures Nothing vs place e = refl

pub no_flow_fault : (ws : List ℕ) (e : Executable) (place : ℕ) → flow_at place (flow_in ws e) ≡ Nothing → flow_fault (code_of ws 0) (rules_for e) e.main.0 e.endmain.0 ≡ Nothing
unfolding flow_of
no_flow_fault ws e place h = measures (flow_fault (code_of ws 0) (rules_for e) e.main.0 e.endmain.0) _ place h

flow_passes : (ws : List ℕ) (e : Executable) (place : ℕ) → flow_fault (code_of ws 0) (rules_for e) e.main.0 e.endmain.0 ≡ Nothing → flow_at place (flow_in ws e) ≡ Nothing
unfolding flow_of
flow_passes ws e place h = rw h

-- ---- 13 to 28

module _ (file : List ℕ) (p : Program) (index : ℕ) where
  abbrev e : Executable
  e = executable_of file index

  abbrev place : ℕ
  place = place_of index

  abbrev C : Code
  C = code_in file p 0

  abbrev symbols : List ℕ
  symbols = symbols_of file e.symbols

  abbrev last : ℕ
  last = e.endmain.0 - 1

  -- the tests, apart
  pub record Tested : Type 0 where
    pub head : executable_fault 1 p.words file index place ≡ Nothing
    pub constants : first_in (constant_at file e place) 0 e.constants.count ≡ Nothing
    pub labels : first_in (label_at file e place p.words.count) 0 e.labels.count ≡ Nothing
    pub outputs : first_in (output_at file e place) 0 e.outputs.count ≡ Nothing
    pub uniforms : first_in (uniform_at file e place) 0 e.uniforms.count ≡ Nothing
    pub flow : flow_at place (flow_in (words_of file p.words) e) ≡ Nothing

  pub tested : one_executable file p index ≡ Nothing → Tested
  unfolding one_executable
  tested h =
      let (a, h₂) = or_none (executable_fault 1 p.words file index place) _ h in
      let (b, h₃) = or_none (first_in (constant_at file e place) 0 e.constants.count) _ h₂ in
      let (c, h₄) = or_none (first_in (label_at file e place p.words.count) 0 e.labels.count) _ h₃ in
      let (d, h₅) = or_none (first_in (output_at file e place) 0 e.outputs.count) _ h₄ in
      let (f, g) = or_none (first_in (uniform_at file e place) 0 e.uniforms.count) _ h₅ in
      record { head = a; constants = b; labels = c; outputs = d; uniforms = f; flow = g }

  one_passes : Tested → one_executable file p index ≡ Nothing
  unfolding one_executable
  one_passes t = rw (t.head, t.constants, t.labels, t.outputs, t.uniforms, t.flow)

  pub clean_executable : one_executable file p index ≡ Nothing → CleanExecutable file p index
  unfolding flow_fault
  clean_executable h =
      let t = tested h in
      let k = headed file p.words index place t.head in
      let vs = visits_in file p e in
      let (a, b) = or_none (first_fault C (rules_for e) 0 vs) _ (no_flow_fault (words_of file p.words) e place t.flow) in
      let (f, g) = both (is_end (C.control last)) (has (own_words C e.main.0 e.endmain.0) last) (not_bad _ (last_passed _ 28 last b)) in
      let s = all_free C (rules_for e) 0 vs a in
      record {
        no13 = k.section;
        no14 = k.name;
        no15 = k.type;
        no16 = (k.main, k.endmain);
        no17 = k.tables;
        no18 = each_at _ e.constants.count (λ j q. good_constant _ (place + j) q) t.constants;
        no19 = each_at _ e.labels.count (λ j q. good_label_lem file symbols _ p.words.count (place + j) q) t.labels;
        no20 = each_at _ e.outputs.count (λ j q. good_output_lem _ (place + j) q) t.outputs;
        no21 = each_at _ e.uniforms.count (λ j q. good_uniform_lem file symbols _ (place + j) q) t.uniforms;
        no22 = every vs (λ v x. x.f22) s;
        no23 = every vs (λ v x. x.f23) s;
        no24 = every vs (λ v x. x.f24) s;
        no25 = every vs (λ v x. x.f25) s;
        no26 = every vs (λ v x. x.f26) s;
        no27 = omega (arith, first_total C (rules_for e) 0 vs (omega arith) a);
        no28 = (f, g);
      }

  flow_clean : CleanExecutable file p index → flow_fault C (rules_for e) e.main.0 e.endmain.0 ≡ Nothing
  unfolding flow_fault
  flow_clean c =
      let vs = visits_in file p e in
      let none = first_passes C (rules_for e) 0 vs (joined C (rules_for e) vs c.no22 c.no23 c.no24 c.no25 c.no26) (omega (arith, c.no27)) in
      rw (none, c.no28.0, c.no28.1)

  executable_passes : CleanExecutable file p index → one_executable file p index ≡ Nothing
  executable_passes c =
      one_passes (record {
        head = head_passes file p.words index place (record { section = c.no13; name = c.no14; type = c.no15; main = c.no16.0; endmain = c.no16.1; tables = c.no17 });
        constants = none_of _ e.constants.count (λ j q. constant_passes _ (place + j) q) c.no18;
        labels = none_of _ e.labels.count (λ j q. label_passes file symbols _ p.words.count (place + j) q) c.no19;
        outputs = none_of _ e.outputs.count (λ j q. output_passes _ (place + j) q) c.no20;
        uniforms = none_of _ e.uniforms.count (λ j q. uniform_passes file symbols _ (place + j) q) c.no21;
        flow = flow_passes (words_of file p.words) e place (flow_clean c);
      })

-- ---- the whole file

module _ (file : List ℕ) where
  -- the three parts of the check, apart
  pub record Parts : Type 0 where
    pub library : library_fault full_limits file ≡ Nothing
    pub words : words_fault (program_of file).descriptors.count (words_of file (program_of file).words) ≡ Nothing
    pub executables : (i : ℕ) → i < count_of file → one_executable file (program_of file) i ≡ Nothing

  pub parts : whole_fault file ≡ Nothing → Parts
  unfolding whole_fault
  parts h =
      let (a, h₂) = or_none (library_fault full_limits file) _ h in
      let (b, c) = or_none (words_fault (program_of file).descriptors.count (words_of file (program_of file).words)) _ h₂ in
      record { library = a; words = b; executables = each_at (one_executable file (program_of file)) (count_of file) (λ i q. q) c }

  pub clean : whole_fault file ≡ Nothing → Clean file
  clean h =
      let q = parts h in
      record {
        library = clean_library file q.library;
        words = clean_words file (program_of file).words (program_of file).descriptors.count q.words;
        executables = λ i l. clean_executable file (program_of file) i (q.executables i l);
      }

  pub accepted : Clean file → whole_fault file ≡ Nothing
  unfolding whole_fault
  accepted c =
      rw (
        library_passes file c.library,
        words_pass file (program_of file).words (program_of file).descriptors.count c.words,
        none_of (one_executable file (program_of file)) (count_of file) (λ i q. executable_passes file (program_of file) i q) c.executables,
      )
