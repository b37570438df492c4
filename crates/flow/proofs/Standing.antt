-- Scanning a part, own word by own word: what holds before each, and after each kind of word. Assumes
-- nothing.
use mathlib.Core.Path.{◌≡◌, refl, ap, ◌∙◌}
use mathlib.Core.Bool.{Bool, true, false}
use mathlib.Core.List.{List}
use Prim.Native.Nat.{ℕ, ◌+◌, ◌-◌, ◌/◌, ◌^◌, ◌≤◌, ◌<◌}
use native.Mathlib.Omega.{arith}
use lib.ListN.{length, get_or, set, length-set}
use Rattle.std.proofs.lemmas.Option.{option_and_then_some}
use Rattle.std.specs.Prelude.{Result, Ok, Err, Some, is_some, option_and_then}
use Rattle.answer.specs.Answers.{given, refused}
use Rattle.answer.specs.Reasons.{number_of}
use Rattle.answer.specs.declared.Refusal.{Refusal}
use Rattle.answer.specs.declared.reason.Reason.TheVariants.{TooLong}
use Rattle.binary.specs.declared.WordAddress.{WordAddress}
use Rattle.flow.specs.Inside.{rules_of, part_of, look_of, Weighs, scanned, scan_of, Covers, LeftBoth, after_part, beyond, Under, deepest, Asks, AsksBoth, packed, unpacked, cost_at, Memory, goes_on, after_passing, passed_over, counted, Ready, Scans, ScansBoth}
use Rattle.flow.specs.Rules.{Code}
use Rattle.flow.specs.declared.limits.Allowed.{Allowed}
use Rattle.flow.specs.declared.look.Look.TheVariants.{Next, One, Two}
use Rattle.flow.specs.declared.look.Part.{Part}
use Rattle.flow.specs.declared.depths.Depths.{Depths}
use Rattle.flow.specs.declared.scan.Cost.{Cost}
use Rattle.flow.specs.declared.scan.Outcome.{Outcome}
use Rattle.flow.proofs.Again.{goes_next}
use Rattle.flow.proofs.Passing.{covers_self, covers_trans, covers_set, Prefix, prefix_none, prefix_next, prefix_one, prefix_two, prefix_end}
use Rattle.flow.proofs.Remembering.{memory_grows, memory_more, memory_next, known_recalled, some_if, fits_known, recalled_flow, recalled_left, recalled_both_flow, recalled_both_left, remembered, remembered_both, both_left, cost_is}
use Rattle.flow.proofs.Replay.{scan_end, scan_27, scan_refuse, scan_next, scan_one_stop, scan_one, scan_two_stop, scan_two, both_go}
use Rattle.flow.proofs.Tests.{apart}

module _ (C : Code) (a : Allowed) (part : Part) (total : ℕ) (m₀ : List Bool) where
  -- before the own word p, with total t, the most that was open, and the marks and memories
  pub record Standing (m : List Bool) (costs depths : List ℕ) (p t : ℕ) (d : Depths) : Type 0 where
    pub from : part.from.0 ≤ p
    pub small : t < 2 ^ 32
    pub flow : scan_of C (rules_of a) (part_of part.opens part.weight p part.to.0) t m ≡ scan_of C (rules_of a) part total m₀
    pub grown : Covers m₀ m
    pub long : length m ≡ 512
    pub memory : Memory C (rules_of a) m costs depths
    pub before : Prefix C (rules_of a) part total p t d m

module _ {C : Code} {a : Allowed} {part : Part} {total : ℕ} {m₀ : List Bool} where
  pub standing_first : {costs depths : List ℕ} {d : Depths} → Ready C a part m₀ costs depths → total < 2 ^ 32 → d ≡ part.opens.depths
      → Standing C a part total m₀ m₀ costs depths part.from.0 total d
  standing_first r small e =
      record {
        from = omega arith;
        small = small;
        flow = refl;
        grown = covers_self m₀;
        long = r.long;
        memory = r.memory;
        before = rw e (prefix_none C (rules_of a) part total m₀ r.under);
      }

  module _ {m : List Bool} {costs depths : List ℕ} {p t : ℕ} {d : Depths} (s : Standing C a part total m₀ m costs depths p t d) (h : part.to.0 ≤ C.words) (few : C.words ≤ 512) where
    -- a fault
    stopped : {o : Result Outcome Refusal} {r : Refusal} {m₁ : List Bool} {costs₁ depths₁ : List ℕ} → o ≡ Err r → scanned (counted o) m₁ ≡ scan_of C (rules_of a) part total m₀ → Covers m₀ m₁ → length m₁ ≡ 512
        → Memory C (rules_of a) m₁ costs₁ depths₁ → Scans C (rules_of a) part total m₀ o m₁ costs₁ depths₁
    stopped e f g l y = record { flow = f; grown = g; long = l; memory = y; left = λ u z. apart (cc) }

    -- the region's end
    pub standing_end : {u : Outcome} → part.to.0 ≤ p → u.total ≡ t → u.depths ≡ d → Scans C (rules_of a) part total m₀ (Ok u) m costs depths
    standing_end {u} l e f =
        record {
          flow = rw e (scan_end C (rules_of a) part p t m h l ∙ s.flow);
          grown = s.grown;
          long = s.long;
          memory = s.memory;
          left = λ v z. let y : u ≡ v = cc in rw (← y, e, f) (prefix_end C (rules_of a) part total h s.before l);
        }

    module _ (l : p < part.to.0) where
      pub standing_27 : {r : Refusal} → a.most < t + part.weight → r ≡ record { reason = TooLong; place = p } → Scans C (rules_of a) part total m₀ (Err r) m costs depths
      standing_27 u e = rw e (stopped refl (scan_27 C (rules_of a) part p t m h l u ∙ s.flow) s.grown s.long s.memory)

      module _ (u : t + part.weight ≤ a.most) where
        abbrev m' : List Bool
        m' = set m p true

        here : p < length m
        here = omega (arith, s.long)

        long' : length m' ≡ 512
        long' = length-set m p true ∙ s.long

        grown' : Covers m₀ m'
        grown' = covers_trans s.grown (covers_set m p)

        memory' : Memory C (rules_of a) m' costs depths
        memory' = memory_grows C (rules_of a) (covers_set m p) s.memory

        -- a word that goes on
        module _ (b : a.most < 2 ^ 32) where
          stands_on : {costs₁ depths₁ : List ℕ} → given Next ≡ look_of C (rules_of a) part.opens part.weight p part.to.0 → Memory C (rules_of a) m' costs₁ depths₁ → Standing C a part total m₀ m' costs₁ depths₁ (p + 1) (t + part.weight) d
          stands_on e y =
              record {
                from = omega (arith, s.from);
                small = omega arith;
                flow = scan_next C (rules_of a) part p t m h l u e ∙ s.flow;
                grown = grown';
                long = long';
                memory = y;
                before = prefix_next C (rules_of a) part total h s.before l here e;
              }

          pub standing_known : goes_on (C.control p) (is_some (cost_at costs depths p)) part.to.0 ≡ true → Standing C a part total m₀ m' costs depths (p + 1) (t + part.weight) d
          standing_known k = stands_on (goes_next C (rules_of a) m part.opens part.weight p part.to.0 (is_some (cost_at costs depths p)) (get_or costs p 0) (unpacked (get_or depths p 0)) k (known_recalled C (rules_of a) s.memory p)) memory'

          pub standing_next : (c : Cost) → (c.depths.calls < 256) × (c.depths.ifs < 256) × (c.depths.loops < 256) → given Next ≡ look_of C (rules_of a) part.opens part.weight p part.to.0 → Standing C a part total m₀ m' (set costs p c.visits) (set depths p (packed c.depths)) (p + 1) (t + part.weight) d
          standing_next c small e = stands_on e (memory_next C (rules_of a) memory' part.opens part.weight p part.to.0 c (omega arith) small e)

        pub standing_refuse : {r : Refusal} → refused (number_of r.reason) r.place ≡ look_of C (rules_of a) part.opens part.weight p part.to.0 → Scans C (rules_of a) part total m₀ (Err r) m' costs depths
        standing_refuse e = stopped refl (scan_refuse C (rules_of a) part p t m h l u e ∙ s.flow) grown' long' memory'

        -- a LOOP or a CALL, whose part was entered
        module _ {r : Part} {next : WordAddress} (e : given (One r next) ≡ look_of C (rules_of a) part.opens part.weight p part.to.0) {o : Result Outcome Refusal} {m₁ : List Bool} {costs₁ depths₁ : List ℕ}
            (f : Scans C (rules_of a) r (t + part.weight) m' o m₁ costs₁ depths₁) where
          pub one_stopped : {b : Refusal} → o ≡ Err b → Scans C (rules_of a) part total m₀ o m₁ costs₁ depths₁
          one_stopped z = stopped z (scan_one_stop C (rules_of a) part p t m h l u e f.flow (ap counted z) ∙ s.flow) (covers_trans grown' f.grown) f.long f.memory

          pub one_passed : {v : Outcome} {d₁ : Depths} → p ≤ next.0 → v.total < 2 ^ 32 → o ≡ Ok v → d₁ ≡ deepest d v.depths → Standing C a part total m₀ m₁ costs₁ depths₁ next.0 v.total d₁
          one_passed {v} on small z y =
              record {
                from = omega (arith, s.from);
                small = small;
                flow = scan_one C (rules_of a) part p t m h l u e f.flow (ap counted z) ∙ s.flow;
                grown = covers_trans grown' f.grown;
                long = f.long;
                memory = f.memory;
                before = rw y (prefix_one C (rules_of a) part total h s.before l here e (f.left v z) f.grown);
              }

        -- an IF, whose parts were entered
        module _ {r : Part} {next : WordAddress} (e : given (Two r next) ≡ look_of C (rules_of a) part.opens part.weight p part.to.0) {o : Result Outcome Refusal} {m₁ : List Bool} {costs₁ depths₁ : List ℕ}
            (f : ScansBoth C (rules_of a) r next (t + part.weight) m' o m₁ costs₁ depths₁) where
          pub two_stopped : {b : Refusal} → o ≡ Err b → Scans C (rules_of a) part total m₀ o m₁ costs₁ depths₁
          two_stopped z = stopped z (scan_two_stop C (rules_of a) part p t m h l u e f.flow (ap counted z) ∙ s.flow) (covers_trans grown' f.grown) f.long f.memory

          pub two_passed : {v : Outcome} {d₁ : Depths} → p ≤ next.0 → v.total < 2 ^ 32 → o ≡ Ok v → d₁ ≡ deepest d v.depths → Standing C a part total m₀ m₁ costs₁ depths₁ next.0 v.total d₁
          two_passed {v} on small z y =
              record {
                from = omega (arith, s.from);
                small = small;
                flow = scan_two C (rules_of a) part p t m h l u e f.flow (ap counted z) ∙ s.flow;
                grown = covers_trans grown' f.grown;
                long = f.long;
                memory = f.memory;
                before = rw y (prefix_two C (rules_of a) part total h s.before l here e (f.left v z) f.grown);
              }

        -- what the word's part relies on
        pub ready_part : (r : Part) → r.to.0 ≤ C.words → Weighs r → Under (rules_of a) r.opens.depths → Ready C a r m' costs depths
        ready_part r within weighs under = record { within = within; weighs = weighs; under = under; long = long'; memory = memory' }

-- .. and a part that is scanned after another
pub ready_after : {C : Code} {a : Allowed} {r : Part} {t : ℕ} {m m₁ : List Bool} {o : Result Outcome Refusal} {costs depths : List ℕ} (r' : Part) → Scans C (rules_of a) r t m o m₁ costs depths
    → r'.to.0 ≤ C.words → Weighs r' → Under (rules_of a) r'.opens.depths → Ready C a r' m₁ costs depths
ready_after r' f within weighs under = record { within = within; weighs = weighs; under = under; long = f.long; memory = f.memory }

-- .. of an IF's second part
pub ready_second : {C : Code} {a : Allowed} {r : Part} {t : ℕ} {m m₁ : List Bool} {o : Result Outcome Refusal} {costs depths costs₁ depths₁ : List ℕ} (next : WordAddress) → Ready C a r m costs depths → Scans C (rules_of a) r t m o m₁ costs₁ depths₁ → next.0 ≤ C.words
    → Ready C a (after_part r next) m₁ costs₁ depths₁
ready_second {r = r} next y f within = ready_after (after_part r next) f within y.weighs y.under

pub few_beyond : (a : Allowed) (d x : Depths) {e : Depths} → e ≡ beyond d x → Under (rules_of a) d → (e.calls < 256) × (e.ifs < 256) × (e.loops < 256)
few_beyond a d x same g = rw same (omega (arith, a.small.0, g.0), omega (arith, a.small.1, g.1), omega (arith, a.small.2, g.2))

-- entering the part that a LOOP or a CALL at p asks for: it is remembered and fits; or it was scanned, and is
-- remembered then
module _ {C : Code} {a : Allowed} {r : Part} {m : List Bool} {costs depths : List ℕ} (y : Ready C a r m costs depths) (t p : ℕ) (h : Asks (C.control p) p r) where
  over_scans : {o : Outcome} (c : Cost) → cost_at costs depths p ≡ Some c → passed_over (rules_of a) r t c ≡ Some o → Scans C (rules_of a) r t m (Ok o) m costs depths
  over_scans {o} c known over =
      let (fits, left) = some_if _ _ o over in
      let g = fits_known C (rules_of a) r t c m fits in
      let q = y.memory.recalls p c known in
      rw (← left) (record {
        flow = recalled_flow C (rules_of a) r t c m (C.control p) p h q g;
        grown = covers_self m;
        long = y.long;
        memory = y.memory;
        left = λ u z. let same : after_passing r t c ≡ u = cc in rw (← same) (recalled_left C (rules_of a) r t c m (C.control p) p h q g);
      })

  pub recalled_scans : {o : Outcome} → option_and_then (passed_over (rules_of a) r t) (cost_at costs depths p) ≡ Some o → Scans C (rules_of a) r t m (Ok o) m costs depths
  recalled_scans {o} e = option_and_then_some _ _ o e (λ c known over. over_scans c known over)

  module _ {o : Result Outcome Refusal} {m₁ : List Bool} {costs₁ depths₁ costs₂ depths₂ : List ℕ} (f : Scans C (rules_of a) r t m o m₁ costs₁ depths₁) where
    pub remembered_scans : {v : Outcome} {k : ℕ} {d : Depths} → p < 512 → 1 ≤ r.weight → o ≡ Ok v → k ≡ (v.total - t) / r.weight → d ≡ beyond v.depths r.opens.depths
        → costs₂ ≡ set costs₁ p k → depths₂ ≡ set depths₁ p (packed d) → Scans C (rules_of a) r t m o m₁ costs₂ depths₂
    remembered_scans {v} {k} {d} l b z e e' c₁ c₂ =
        let g = f.left v z in
        let same : k ≡ g.cost = e ∙ cost_is C (rules_of a) r.weight t g.cost b g.adds in
        record {
          flow = f.flow;
          grown = f.grown;
          long = f.long;
          memory = rw (c₁, c₂, same, e') (memory_more C (rules_of a) f.memory p g.cost (beyond v.depths r.opens.depths) l (few_beyond a v.depths r.opens.depths refl g.under) (remembered C (rules_of a) (C.control p) p r h g));
          left = f.left;
        }

-- .. the two parts of an IF, with no LOOP open in the same main or called region
module _ {C : Code} {a : Allowed} {r : Part} {next : WordAddress} {m : List Bool} {costs depths : List ℕ} (y : Ready C a r m costs depths) (t p : ℕ) (h : AsksBoth (C.control p) p r next) where
  over_both_scans : {o : Outcome} (c : Cost) → r.opens.looped ≡ false → cost_at costs depths p ≡ Some c → passed_over (rules_of a) r t c ≡ Some o → ScansBoth C (rules_of a) r next t m (Ok o) m costs depths
  over_both_scans {o} c b known over =
      let (fits, left) = some_if _ _ o over in
      let g = fits_known C (rules_of a) r t c m fits in
      let q = y.memory.recalls p c known in
      rw (← left) (record {
        flow = recalled_both_flow C (rules_of a) r t c m (C.control p) p next h b q g;
        grown = covers_self m;
        long = y.long;
        memory = y.memory;
        left = λ u z. let same : after_passing r t c ≡ u = cc in rw (← same) (recalled_both_left C (rules_of a) r t c m (C.control p) p next h b q g);
      })

  pub recalled_both_scans : {o : Outcome} → r.opens.looped ≡ false → option_and_then (passed_over (rules_of a) r t) (cost_at costs depths p) ≡ Some o → ScansBoth C (rules_of a) r next t m (Ok o) m costs depths
  recalled_both_scans {o} b e = option_and_then_some _ _ o e (λ c known over. over_both_scans c b known over)

  -- scanned without a fault
  module _ {o : Result Outcome Refusal} {m₁ : List Bool} {costs₁ depths₁ : List ℕ} (f : Scans C (rules_of a) r t m o m₁ costs₁ depths₁) where
    module _ {v : Outcome} (z : o ≡ Ok v) {o' : Result Outcome Refusal} {m₂ : List Bool} {costs₂ depths₂ : List ℕ} (f' : Scans C (rules_of a) (after_part r next) v.total m₁ o' m₂ costs₂ depths₂) where
      module _ {v' : Outcome} {d : Depths} (z' : o' ≡ Ok v') (e : d ≡ deepest v.depths v'.depths) where
        pub left_both : LeftBoth C (rules_of a) r next t v'.total d m₂
        left_both = rw e (both_left C (rules_of a) r next (f.left v z) (f'.left v' z') f'.grown)

        pub both_passed : {u : Outcome} → u.total ≡ v'.total → u.depths ≡ d → ScansBoth C (rules_of a) r next t m (Ok u) m₂ costs₂ depths₂
        both_passed {u} e₁ e₂ =
            record {
              flow = rw e₁ (both_go C (rules_of a) r next t m f.flow (ap counted z) (rw z' at f'.flow));
              grown = covers_trans f.grown f'.grown;
              long = f'.long;
              memory = f'.memory;
              left = λ w g. let same : u ≡ w = cc in rw (← same, e₁, e₂) left_both;
            }

        pub both_remembered : {u : Outcome} {k : ℕ} {d' : Depths} {costs₃ depths₃ : List ℕ} → u.total ≡ v'.total → u.depths ≡ d → r.opens.looped ≡ false → p < 512 → 1 ≤ r.weight → k ≡ (v'.total - t) / r.weight
            → d' ≡ beyond d r.opens.depths → costs₃ ≡ set costs₂ p k → depths₃ ≡ set depths₂ p (packed d') → ScansBoth C (rules_of a) r next t m (Ok u) m₂ costs₃ depths₃
        both_remembered e₁ e₂ b l heavy k-is d-is c₁ c₂ =
            let g = both_passed e₁ e₂ in
            let same = k-is ∙ cost_is C (rules_of a) r.weight t left_both.cost heavy left_both.adds in
            record {
              flow = g.flow;
              grown = g.grown;
              long = g.long;
              memory = rw (c₁, c₂, same, d-is) (memory_more C (rules_of a) f'.memory p left_both.cost (beyond d r.opens.depths) l (few_beyond a d r.opens.depths refl left_both.under) (remembered_both C (rules_of a) (C.control p) p r next h b left_both));
              left = g.left;
            }
