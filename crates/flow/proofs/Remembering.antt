-- What is remembered of a region holds as marks grow, is found again, and is stored. Assumes nothing.
use mathlib.Core.Path.{◌≡◌, refl, sym, ap, ◌∙◌}
use mathlib.Core.Bool.{Bool, true, false}
use mathlib.Core.List.{List}
use Prim.Native.Nat.{ℕ, zero, suc, ◌+◌, ◌*◌, ◌-◌, ◌/◌, ◌%◌, ◌≤◌, ◌<◌}
use native.Mathlib.Nat.{mul-div_cancel_left, le-max_left, le-max_right}
use native.Mathlib.Omega.{arith}
use lib.Dec.{leb, eqb}
use lib.ListN.{get_or, set, replicate, length-set, length-replicate}
use lib.Seq.{get_or-set_same, get_or-set_other}
use borrow.Author.Tests.{leb-true, ltb-true, eqb-true, eqb-false}
use Rattle.std.proofs.lemmas.Option.{none-some, same_Some}
use Rattle.std.specs.Bool.{then_some}
use Rattle.std.specs.Option.{is_some}
use Rattle.std.specs.Prelude.{Some}
use Rattle.answer.specs.Answers.{given}
use Rattle.answer.specs.Faults.{Fault}
use Rattle.answer.specs.Faults.{Nothing, At}
use Rattle.binary.specs.Addresses.{word_address}
use Rattle.binary.specs.declared.WordAddress.{WordAddress}
use Rattle.instruction.specs.declared.flow_control.Control.{Control}
use Rattle.instruction.specs.declared.flow_control.Control.TheVariants.{Unknown, Plain, Emit, End, Break, If, Loop, Call, Jump}
use Rattle.flow.specs.Inside.{unless, part_of, parts_of, look_of, scanned, scan_of, beyond, Room, Covers, Passes, PassesBoth, Left, LeftBoth, after_part, scan_both, deepest, opened, Asks, AsksBoth, Recalled, packed, unpacked, cost_at, Memory, fits_here}
use Rattle.flow.specs.Rules.{Code, Rules, in_if, in_loop, in_call}
use Rattle.flow.specs.Visits.{bad24, fault_at}
use Rattle.flow.specs.declared.look.Look.TheVariants.{Next, One, Two}
use Rattle.flow.specs.declared.look.Opens.{Opens}
use Rattle.flow.specs.declared.look.Part.{Part}
use Rattle.flow.specs.declared.depths.Depths.{Depths}
use Rattle.flow.specs.declared.scan.Cost.{Cost}
use Rattle.flow.proofs.Again.{jump_reaches}
use Rattle.flow.proofs.Depth.{Passed, fault_none}
use Rattle.flow.proofs.Passing.{covers_self, covers_trans, under_both}
use Rattle.flow.proofs.Replay.{both_go}
use Rattle.flow.proofs.Tests.{apart, both, not_bad, false_not_true}

-- what is packed is found again
unpacked_packed : (d : Depths) → d.ifs < 256 → d.loops < 256 → unpacked (packed d) ≡ d
unpacked_packed d h g =
    let calls : packed d / 65536 ≡ d.calls = omega arith in
    let ifs : packed d / 256 % 256 ≡ d.ifs = omega arith in
    let loops : packed d % 256 ≡ d.loops = omega arith in
    rw (calls, ifs, loops)

-- a value that stands under a test
pub some_if : {A : Type 0} (b : Bool) (x y : A) → then_some b x ≡ Some y → (b ≡ true) × (x ≡ y)
some_if true x y e = (refl, same_Some x y e)
some_if false x y e = absurd (none-some y e)

some_known : {A : Type 0} (b : Bool) (x : A) → is_some (then_some b x) ≡ true → then_some b x ≡ Some x
some_known true x e = refl
some_known false x e = absurd (false_not_true e)

module _ (C : Code) (R : Rules) where
  -- the part that a word asks for
  pub asks_one : (x : Opens) (w p E : ℕ) {r : Part} {next : WordAddress} → given (One r next) ≡ look_of C R x w p E → Asks (C.control p) p r
  unfolding look_of
  asks_one x w p E {r} {next} e = by (fault_at C R x p E) e
    where
      on : (i : Control) → given (One r next) ≡ given (parts_of R i x w p) → Asks i p r
      on Unknown g = apart (cc)
      on Plain g = apart (cc)
      on Emit g = apart (cc)
      on End g = apart (cc)
      on (Break c) g = apart (cc)
      on (If c dst num) g = apart (cc)
      on (Loop q dst) g = let same : r ≡ part_of (in_loop x) (w * R.turns q) (p + 1) (dst.0 + 1) = cc in rw same (refl, refl, refl)
      on (Call c dst num) g = let same : r ≡ part_of (in_call x) w dst.0 (dst.0 + num) = cc in rw same (refl, refl, refl)
      on (Jump c dst num) g = apart (cc)

      by : (f : Fault) → given (One r next) ≡ unless f (parts_of R (C.control p) x w p) → Asks (C.control p) p r
      by (At n q) g = apart (cc)
      by Nothing g = on (C.control p) g

  -- the parts that an IF asks for
  pub asks_both : (x : Opens) (w p E : ℕ) {r : Part} {next : WordAddress} → given (Two r next) ≡ look_of C R x w p E → AsksBoth (C.control p) p r next
  unfolding look_of
  asks_both x w p E {r} {next} e = by (fault_at C R x p E) refl e
    where
      on : (i : Control) → bad24 C i p E ≡ false → given (Two r next) ≡ given (parts_of R i x w p) → AsksBoth i p r next
      on Unknown o g = apart (cc)
      on Plain o g = apart (cc)
      on Emit o g = apart (cc)
      on End o g = apart (cc)
      on (Break c) o g = apart (cc)
      on (If c dst num) o g =
          let in_bounds = both (leb (p + 2) dst.0) (leb (dst.0 + num) E) (not_bad _ o) in
          let same : r ≡ part_of (in_if x) w (p + 1) dst.0 = cc in
          let n : next ≡ word_address (dst.0 + num) = cc in
          rw (same, n) (record { condition = c; dst = dst; num = num; is = refl; from = refl; ahead = omega (arith, leb-true (p + 2) dst.0 in_bounds.0); to = refl; end = refl })
      on (Loop q dst) o g = apart (cc)
      on (Call c dst num) o g = apart (cc)
      on (Jump c dst num) o g = apart (cc)

      by : (f : Fault) → fault_at C R x p E ≡ f → given (Two r next) ≡ unless f (parts_of R (C.control p) x w p) → AsksBoth (C.control p) p r next
      by (At n q) z g = apart (cc)
      by Nothing z g = on (C.control p) (fault_none C R x p E z).bounds g

  -- a word that went on: of a jump, that its target is good
  next_recalled : (x : Opens) (w p E k : ℕ) (d : Depths) (m : List Bool) → given Next ≡ look_of C R x w p E → Recalled C R m (C.control p) p k d
  unfolding look_of
  next_recalled x w p E k d m e = by (fault_at C R x p E) refl e
    where
      on : (i : Control) → Passed C R i x p E → given Next ≡ given (parts_of R i x w p) → Recalled C R m i p k d
      on Unknown o g = tt
      on Plain o g = tt
      on Emit o g = tt
      on End o g = tt
      on (Break c) o g = tt
      on (If c dst num) o g = apart (cc)
      on (Loop q dst) o g = apart (cc)
      on (Call c dst num) o g = apart (cc)
      on (Jump c dst num) o g = jump_reaches C p E dst.0 (not_bad _ o.jumps)

      by : (f : Fault) → fault_at C R x p E ≡ f → given Next ≡ unless f (parts_of R (C.control p) x w p) → Recalled C R m (C.control p) p k d
      by (At n q) f g = apart (cc)
      by Nothing f g = on (C.control p) (fault_none C R x p E f) g

  -- what is remembered of it is that it is passed
  recalled_passes : (i : Control) (p : ℕ) (r : Part) (k : ℕ) (d : Depths) (m : List Bool) → Asks i p r → Recalled C R m i p k d → Passes C R r.opens.looped r.from.0 r.to.0 k d m
  recalled_passes Unknown p r k d m h q = absurd h
  recalled_passes Plain p r k d m h q = absurd h
  recalled_passes Emit p r k d m h q = absurd h
  recalled_passes End p r k d m h q = absurd h
  recalled_passes (Break c) p r k d m h q = absurd h
  recalled_passes (If c dst num) p r k d m h q = absurd h
  recalled_passes (Loop z dst) p r k d m h q = rw (h.0, h.1, h.2) q
  recalled_passes (Call c dst num) p r k d m h q = rw (h.0, h.1, h.2) q
  recalled_passes (Jump c dst num) p r k d m h q = absurd h

  passes_recalled : (i : Control) (p : ℕ) (r : Part) (k : ℕ) (d : Depths) (m : List Bool) → Asks i p r → Passes C R r.opens.looped r.from.0 r.to.0 k d m → Recalled C R m i p k d
  passes_recalled Unknown p r k d m h q = absurd h
  passes_recalled Plain p r k d m h q = absurd h
  passes_recalled Emit p r k d m h q = absurd h
  passes_recalled End p r k d m h q = absurd h
  passes_recalled (Break c) p r k d m h q = absurd h
  passes_recalled (If c dst num) p r k d m h q = absurd h
  passes_recalled (Loop z dst) p r k d m h q = rw (h.0, h.1, h.2) at q
  passes_recalled (Call c dst num) p r k d m h q = rw (h.0, h.1, h.2) at q
  passes_recalled (Jump c dst num) p r k d m h q = absurd h

  -- with no LOOP open in the same main or called region, what is remembered of an IF is that both are passed
  module _ {i : Control} {p : ℕ} {r : Part} {next : WordAddress} (h : AsksBoth i p r next) (k : ℕ) (d : Depths) (m : List Bool) where
    recalled_both : Recalled C R m i p k d → PassesBoth C R false r.from.0 r.to.0 next.0 k d m
    recalled_both q = rw (h.end, h.to, h.from) (rw h.is at q)

    both_recalled : PassesBoth C R false r.from.0 r.to.0 next.0 k d m → Recalled C R m i p k d
    both_recalled q = rw h.is (rw (h.end, h.to, h.from) at q)

  -- more marks
  passes_grow : {b : Bool} {p E k : ℕ} {d : Depths} {m m' : List Bool} → Covers m m' → Passes C R b p E k d m → Passes C R b p E k d m'
  passes_grow g q = record { again = λ x w t m'' same room fits c. q.again x w t m'' same room fits (covers_trans g c) }

  recalled_grows : (i : Control) (p k : ℕ) (d : Depths) {m m' : List Bool} → Covers m m' → Recalled C R m i p k d → Recalled C R m' i p k d
  recalled_grows Unknown p k d g q = tt
  recalled_grows Plain p k d g q = tt
  recalled_grows Emit p k d g q = tt
  recalled_grows End p k d g q = tt
  recalled_grows (Break c) p k d g q = tt
  recalled_grows (If c dst num) p k d g q = record { first = q.first; second = q.second; sum = q.sum; before = passes_grow g q.before; after = passes_grow g q.after }
  recalled_grows (Loop z dst) p k d g q = passes_grow g q
  recalled_grows (Call c dst num) p k d g q = passes_grow g q
  recalled_grows (Jump c dst num) p k d g q = q

  pub memory_grows : {m m' : List Bool} {costs depths : List ℕ} → Covers m m' → Memory C R m costs depths → Memory C R m' costs depths
  memory_grows g y =
      record {
        costs_long = y.costs_long;
        depths_long = y.depths_long;
        recalls = λ p c h. recalled_grows (C.control p) p c.visits c.depths g (y.recalls p c h);
      }

  pub memory_none : (m : List Bool) → Memory C R m (replicate 512 0) (replicate 512 0)
  memory_none m =
      record {
        costs_long = length-replicate {A = ℕ} 512 0;
        depths_long = length-replicate {A = ℕ} 512 0;
        recalls = λ p c h. absurd (none-some c (rw (nothing 512 p) at h));
      }
    where
      nothing : (n p : ℕ) → ◌≡◌ {A = ℕ} (get_or (replicate n 0) p 0) 0
      nothing zero p = refl
      nothing (suc n) zero = refl
      nothing (suc n) (suc p) = nothing n p

  -- one region more
  module _ {m : List Bool} {costs depths : List ℕ} (y : Memory C R m costs depths) (p k : ℕ) (d : Depths) (h : p < 512) (small : (d.calls < 256) × (d.ifs < 256) × (d.loops < 256)) (q : Recalled C R m (C.control p) p k d) where
    pub memory_more : Memory C R m (set costs p k) (set depths p (packed d))
    memory_more =
        record {
          costs_long = length-set costs p k ∙ y.costs_long;
          depths_long = length-set depths p (packed d) ∙ y.depths_long;
          recalls = λ z c g. by z c g (eqb z p) refl;
        }
      where
        by : (z : ℕ) (c : Cost) → cost_at (set costs p k) (set depths p (packed d)) z ≡ Some c → (b : Bool) → eqb z p ≡ b → Recalled C R m (C.control z) z c.visits c.depths
        by z c g true e =
            let g' = rw (eqb-true z p e, get_or-set_same costs p k 0 (omega (arith, y.costs_long)), get_or-set_same depths p (packed d) 0 (omega (arith, y.depths_long)), unpacked_packed d small.1 small.2) at g in
            let same = (some_if _ _ c g').1 in
            rw (eqb-true z p e, ← same) q
        by z c g false e =
            let o = eqb-false z p e in
            y.recalls z c (rw (get_or-set_other costs p z k 0 o, get_or-set_other depths p z (packed d) 0 o) at g)

  -- .. of a word without parts
  pub memory_next : {m : List Bool} {costs depths : List ℕ} → Memory C R m costs depths → (x : Opens) (w p E : ℕ) (c : Cost) → p < 512 → (c.depths.calls < 256) × (c.depths.ifs < 256) × (c.depths.loops < 256) → given Next ≡ look_of C R x w p E
      → Memory C R m (set costs p c.visits) (set depths p (packed c.depths))
  memory_next {m} y x w p E c l small e = memory_more y p c.visits c.depths l small (next_recalled x w p E c.visits c.depths m e)

  -- .. is found again
  pub known_recalled : {m : List Bool} {costs depths : List ℕ} → Memory C R m costs depths → (p : ℕ) → is_some (cost_at costs depths p) ≡ true → Recalled C R m (C.control p) p (get_or costs p 0) (unpacked (get_or depths p 0))
  known_recalled y p e = y.recalls p _ (some_known _ _ e)

  -- what is opened beyond what is open
  opened_passes : {b : Bool} {p E k : ℕ} (y : Depths) {d : Depths} {m : List Bool} → Passes C R b p E k d m → Passes C R b p E k (beyond (opened y d) y) m
  opened_passes y q = record { again = λ x w u m' same room fits c. q.again x w u m' same (omega (arith, room), omega (arith, room), omega (arith, room)) fits c }

  -- a part that fits again
  module _ (r : Part) (t : ℕ) (c : Cost) (m : List Bool) where
    pub record Again : Type 0 where
      pub known : 1 ≤ c.visits
      pub room : Room R r.opens.depths c.depths
      pub fits : t + r.weight * c.visits ≤ R.most

    pub fits_known : fits_here R r t c ≡ true → Again
    unfolding fits_here
    fits_known e =
        let (e₁, f) = both _ _ e in
        let (e₂, l) = both _ _ e₁ in
        let (e₃, i) = both _ _ e₂ in
        let (n, o) = both _ _ e₃ in
        record {
          known = ltb-true 0 c.visits n;
          room = (leb-true _ _ o, leb-true _ _ i, leb-true _ _ l);
          fits = leb-true _ _ f;
        }

    module _ (i : Control) (p : ℕ) (h : Asks i p r) (q : Recalled C R m i p c.visits c.depths) (g : Again) where
      pub recalled_flow : scanned (given (t + r.weight * c.visits)) m ≡ scan_of C R r t m
      recalled_flow = sym ((recalled_passes i p r c.visits c.depths m h q).again r.opens r.weight t m refl g.room g.fits (covers_self m))

      pub recalled_left : Left C R r t (t + r.weight * c.visits) (opened r.opens.depths c.depths) m
      recalled_left =
          record {
            cost = c.visits;
            adds = refl;
            over = (omega arith, omega arith, omega arith);
            under = g.room;
            passes = opened_passes r.opens.depths (recalled_passes i p r c.visits c.depths m h q);
          }

    -- .. and two, of an IF
    module _ (i : Control) (p : ℕ) (next : WordAddress) (h : AsksBoth i p r next) (b : r.opens.looped ≡ false) (q : Recalled C R m i p c.visits c.depths) (g : Again) where
      passed : PassesBoth C R r.opens.looped r.from.0 r.to.0 next.0 c.visits c.depths m
      passed = rw b (recalled_both h c.visits c.depths m q)

      sums : t + r.weight * passed.first + r.weight * passed.second ≡ t + r.weight * c.visits
      sums = omega (arith, ap (λ y. r.weight * y) passed.sum)

      pub recalled_both_flow : scanned (given (t + r.weight * c.visits)) m ≡ scan_both C R r next t m
      recalled_both_flow =
          let first = passed.before.again r.opens r.weight t m refl g.room (omega (arith, g.fits, sums)) (covers_self m) in
          let second = passed.after.again r.opens r.weight (t + r.weight * passed.first) m refl g.room (omega (arith, g.fits, sums)) (covers_self m) in
          rw (← sums) (both_go C R r next t m (sym first) refl (sym second))

      pub recalled_both_left : LeftBoth C R r next t (t + r.weight * c.visits) (opened r.opens.depths c.depths) m
      recalled_both_left =
          record {
            cost = c.visits;
            adds = refl;
            over = (omega arith, omega arith, omega arith);
            under = g.room;
            passes = record {
              first = passed.first;
              second = passed.second;
              sum = passed.sum;
              before = opened_passes r.opens.depths passed.before;
              after = opened_passes r.opens.depths passed.after;
            };
          }

  -- what was found is remembered
  pub remembered : (i : Control) (p : ℕ) (r : Part) {t t₁ : ℕ} {d : Depths} {m : List Bool} → Asks i p r → (l : Left C R r t t₁ d m) → Recalled C R m i p l.cost (beyond d r.opens.depths)
  remembered i p r {d = d} {m = m} h l = passes_recalled i p r l.cost (beyond d r.opens.depths) m h l.passes

  pub cost_is : (w t : ℕ) {t₁ : ℕ} (k : ℕ) → 1 ≤ w → t₁ ≡ t + w * k → (t₁ - t) / w ≡ k
  cost_is w t {t₁} k h adds =
      let e : t₁ - t ≡ w * k = omega (arith, adds) in
      rw e (mul-div_cancel_left k h)

  -- two parts that were passed, one after the other
  deeper_passes : {b : Bool} {p E k : ℕ} {m : List Bool} (y : Depths) (d e : Depths) → (d.calls ≤ e.calls) × (d.ifs ≤ e.ifs) × (d.loops ≤ e.loops) → Passes C R b p E k (beyond d y) m → Passes C R b p E k (beyond e y) m
  deeper_passes y d e l q = record { again = λ x w u m' same room fits c. q.again x w u m' same (omega (arith, l, room), omega (arith, l, room), omega (arith, l, room)) fits c }

  module _ (r : Part) (next : WordAddress) {t t₁ t₂ : ℕ} {d₁ d₂ : Depths} {m₁ m₂ : List Bool} (f : Left C R r t t₁ d₁ m₁) (f' : Left C R (after_part r next) t₁ t₂ d₂ m₂) (g : Covers m₁ m₂) where
    abbrev e : Depths
    e = deepest d₁ d₂

    pub both_left : LeftBoth C R r next t t₂ e m₂
    both_left =
        record {
          cost = f.cost + f'.cost;
          adds = omega (arith, f.adds, f'.adds);
          over = (omega (arith, f.over, le-max_left d₁.calls d₂.calls), omega (arith, f.over, le-max_left d₁.ifs d₂.ifs), omega (arith, f.over, le-max_left d₁.loops d₂.loops));
          under = under_both R d₁ d₂ f.under f'.under;
          passes = record {
            first = f.cost;
            second = f'.cost;
            sum = refl;
            before = passes_grow g (deeper_passes r.opens.depths d₁ e (le-max_left d₁.calls d₂.calls, le-max_left d₁.ifs d₂.ifs, le-max_left d₁.loops d₂.loops) f.passes);
            after = deeper_passes r.opens.depths d₂ e (le-max_right d₁.calls d₂.calls, le-max_right d₁.ifs d₂.ifs, le-max_right d₁.loops d₂.loops) f'.passes;
          };
        }

  pub remembered_both : (i : Control) (p : ℕ) (r : Part) (next : WordAddress) {t t₁ : ℕ} {d : Depths} {m : List Bool} → AsksBoth i p r next → r.opens.looped ≡ false → (l : LeftBoth C R r next t t₁ d m)
      → Recalled C R m i p l.cost (beyond d r.opens.depths)
  remembered_both i p r next {d = d} {m = m} h b l = both_recalled h l.cost (beyond d r.opens.depths) m (rw b at l.passes)
