-- The machine keeps to what the derivation says: the whole run. Assumes nothing.
use mathlib.Core.Path.{◌≡◌, refl}
use mathlib.Core.Logic.{◌≢◌}
use mathlib.Core.Bool.{Bool, true, false, ◌&&◌}
use mathlib.Core.List.{List, [], ◌∷◌}
use Prim.Native.Nat.{ℕ, zero, suc, ◌+◌, ◌*◌, ◌-◌, ◌≤◌, ◌<◌}
use native.Mathlib.Nat.{mul-le-mul_right}
use native.Mathlib.Omega.{arith}
use lib.Dec.{eqb}
use borrow.Author.Tests.{eqb-true, eqb-false, lt-ltb, le-leb}
use Rattle.binary.specs.declared.WordAddress.{WordAddress}
use Rattle.instruction.specs.declared.flow_control.Control.{Control}
use Rattle.instruction.specs.declared.flow_control.Control.TheVariants.{Loop}
use Rattle.flow.specs.Own.{next_of, own_words, has}
use Rattle.flow.specs.Rules.{Code, Rules, none_open, in_if, in_loop, in_call, pick}
use Rattle.flow.specs.declared.look.Opens.{Opens}
use Rattle.flow.specs.Stepping.{Settings, Open, main, part, body, called, State, state, Next, ends, goes, arrive, break, holds, reads, on, execute, some_open, step, start, done, run}
use Rattle.flow.specs.Visits.{is_end, main_trace, weighted}
use Rattle.flow.specs.WholeRun.{GoodWord, open_calls, open_ifs, open_loops, Good, All, nil, each, measured}
use Rattle.flow.proofs.Region.{Region, shut, stop, word, Parts, plain_p, emit_p, end_p, break_p, if_p, loop_p, call_p, jump_p, at_own, main_sound}
use Rattle.flow.proofs.Tests.{false_not_true}

module _ (C : Code) (R : Rules) (g : ℕ → ℕ) (pos : (p : ℕ) → 1 ≤ g p) where
  -- what is still open around a region that ends at E, and a bound on what is spent after that region closes
  data Rest : Bool → Opens → ℕ → List Open → ℕ → Type 0 where
    main_r : {E m : ℕ} → Rest false none_open E (main E ∷ []) m
    part_r : {c : Bool} {x : Opens} {E e q k m a : ℕ} {os : List Open}
        → x.depths.ifs < R.ifs → Region C R g c x q E k → Rest c x E os m → k + m ≤ a → Rest true (in_if x) e (part e q ∷ os) a
    body_r : {c : Bool} {x : Opens} {E e s n k m a j : ℕ} {os : List Open}
        → x.depths.loops < R.loops → s < e → Region C R g true (in_loop x) s e j → Region C R g c x e E k → Rest c x E os m → n * j + (k + m) ≤ a
        → Rest true (in_loop x) e (body e s n ∷ os) a
    called_r : {c : Bool} {x : Opens} {E e q k m a : ℕ} {os : List Open}
        → x.depths.calls < R.calls → Region C R g c x q E k → Rest c x E os m → k + m ≤ a → Rest true (in_call x) e (called e q ∷ os) a

  -- a state at a fetch, from which at most `most` is spent
  record Fit (s : State) (most : ℕ) : Type 0 where
    closes : Bool
    x : Opens
    E : ℕ
    k : ℕ
    m : ℕ
    derived : Region C R g closes x s.word E k
    rest : Rest closes x E s.opens m
    apart : s.word ≢ E
    bound : k + m ≤ most

  fit : {c : Bool} {x : Opens} {p E k m u most : ℕ} {os : List Open} → Region C R g c x p E k → Rest c x E os m → p ≢ E → k + m ≤ most → Fit (state p os u) most
  fit {c} {x} {E} {k} {m} r s n b = record { closes = c; x = x; E = E; k = k; m = m; derived = r; rest = s; apart = n; bound = b }

  main_open : {x : Opens} {p E k : ℕ} → Region C R g false x p E k → p ≢ E
  main_open (shut f e) = absurd (false_not_true f)
  main_open (stop i e z l) = omega arith
  main_open (word l i q r b) = omega arith

  split : (b : Bool) (s₁ s₂ : State) (most : ℕ) → (b ≡ true → Fit s₁ most) → (b ≡ false → Fit s₂ most) → Fit (pick b s₁ s₂) most
  split true s₁ s₂ most f h = f refl
  split false s₁ s₂ most f h = h refl

  -- regions that end at one word close one after another
  settled : (u most : ℕ) {c : Bool} {x : Opens} {p E k m : ℕ} {os : List Open} → Rest c x E os m → Region C R g c x p E k → k + m ≤ most → Fit (arrive u os p) most
  unfolding arrive
  settled u most {p} {E} main_r r b = split (eqb p E) _ _ most (λ y. absurd (main_open r (eqb-true p E y))) (λ y. fit r main_r (eqb-false p E y) b)
  settled u most {p} {E} (part_r l q s h) r b =
      split (eqb p E) _ _ most (λ y. settled u most s q (omega arith)) (λ y. fit r (part_r l q s h) (eqb-false p E y) b)
  settled u most {p} {E} (body_r {n = zero} l o j q s h) r b =
      split (eqb p E) _ _ most (λ y. settled u most s q (omega arith)) (λ y. fit r (body_r l o j q s h) (eqb-false p E y) b)
  settled u most {p} {E} (body_r {s = f} {n = suc n} {k = k} {m = m} {j = w} l o j q s h) r b =
      split (eqb p E) _ _ most
      (λ y. split (eqb f E) _ _ most (λ z. absurd (omega (arith, eqb-true f E z)))
      (λ z. fit {m = n * w + (k + m)} j (body_r {n = n} {a = n * w + (k + m)} {j = w} l o j q s (omega arith)) (omega arith) (omega arith)))
      (λ y. fit r (body_r l o j q s h) (eqb-false p E y) b)
  settled u most {p} {E} (called_r l q s h) r b =
      split (eqb p E) _ _ most (λ y. settled u most s q (omega arith)) (λ y. fit r (called_r l q s h) (eqb-false p E y) b)

  -- BREAK leaves the IFs and the LOOP that are open in the same main or called region
  left : (u most : ℕ) {c : Bool} {x : Opens} {E m : ℕ} {os : List Open} → Rest c x E os m → x.looped ≡ true → m ≤ most → (s : State) × (break u os ≡ goes s) × Fit s most
  unfolding break
  left u most main_r e b = absurd (false_not_true e)
  left u most (part_r l q s h) e b = left u most s e (omega arith)
  left u most (body_r {e = w} {os = os} l o j q s h) e b = (arrive u os w, refl, settled u most s q (omega arith))
  left u most (called_r l q s h) e b = absurd (false_not_true e)

  -- the counts that the check kept are those of the open regions, and keep to the limits
  record Counted (x : Opens) (os : List Open) : Type 0 where
    calls : open_calls os ≡ x.depths.calls
    ifs : open_ifs os ≡ x.depths.ifs
    loops : open_loops os ≡ x.depths.loops
    calls_ok : x.depths.calls ≤ R.calls
    ifs_ok : x.depths.ifs ≤ R.ifs
    loops_ok : x.depths.loops ≤ R.loops

  counted : {c : Bool} {x : Opens} {E m : ℕ} {os : List Open} → Rest c x E os m → Counted x os
  counted main_r = omega arith
  counted (part_r l q s h) = let n = counted s in omega arith
  counted (body_r l o j q s h) = let n = counted s in omega arith
  counted (called_r l q s h) = let n = counted s in omega arith

  has_open : {c : Bool} {x : Opens} {E m : ℕ} {os : List Open} → Rest c x E os m → some_open os ≡ true
  has_open main_r = refl
  has_open (part_r l q s h) = refl
  has_open (body_r l o j q s h) = refl
  has_open (called_r l q s h) = refl

  is_word : {c : Bool} {x : Opens} {p E k : ℕ} → Region C R g c x p E k → p ≢ E → (p < C.words) × (g p ≤ k)
  is_word (shut f e) n = absurd (n e)
  is_word (stop i e z l) n = (i, l)
  is_word (word l i q r b) n = (i, omega arith)

  module _ (good : (p : ℕ) → p < C.words → GoodWord C p) (v : Settings) (fair : (r : ℕ) → r ≤ 3 → v.ints r < R.turns r) where
    -- a word executed: the end, or a next state
    data Act (o : Next) (most : ℕ) : Type 0 where
      halts : o ≡ ends → Act o most
      moves : (s : State) → o ≡ goes s → Fit s most → Act o most

    choose : (b : Bool) (o₁ o₂ : Next) (most : ℕ) → Act o₁ most → Act o₂ most → Act (pick b o₁ o₂) most
    choose true o₁ o₂ most f h = f
    choose false o₁ o₂ most f h = h

    to : (u most q : ℕ) {c : Bool} {x : Opens} {E b m : ℕ} (os : List Open) → Region C R g c x q E b → Rest c x E os m → b + m ≤ most → Act (on u os q) most
    to u most q os r s h = moves (arrive u os q) refl (settled u most s r h)

    act : (u most : ℕ) {c : Bool} {x : Opens} {p E a b m : ℕ} {i : Control} (os : List Open) → ((r : ℕ) (d : WordAddress) → i ≡ Loop r d → r ≤ 3)
        → Parts C R g x p E i a → Region C R g c x (next_of i p) E b → Rest c x E os m → a + b + m ≤ most → Act (execute v i p os u) most
    unfolding execute
    act u most {p} os o plain_p r s h = to u most (p + 1) os r s (omega arith)
    act u most {p} os o emit_p r s h = to u most (p + 1) os r s (omega arith)
    act u most os o end_p r s h = halts refl
    act u most {p} os o (break_p {c = c} y) r s h =
        let (s', e, f) = left (reads c u) most s y (omega arith) in
        choose (holds v c u) _ _ most (moves s' e f) (to (reads c u) most (p + 1) os r s (omega arith))
    act u most {p} {b} {m} os o (if_p {num = num} {c = c} {d = d} y r₁ r₂ z) r s h =
        choose (holds v c u) _ _ most
        (to (reads c u) most (p + 1) {m = b + m} (part d.0 (d.0 + num) ∷ os) r₁ (part_r {a = b + m} y r s (omega arith)) (omega arith))
        (to (reads c u) most d.0 {m = b + m} (part (d.0 + num) (d.0 + num) ∷ os) r₂ (part_r {a = b + m} y r s (omega arith)) (omega arith))
    act u most {p} {b} {m} os o (loop_p {r = q} {k = k} {d = d} l₁ y r₁ z) r s h =
        let n = v.ints q in
        let small : q ≤ 3 = o q d refl in
        let t : suc n * k ≤ R.turns q * k = mul-le-mul_right k (fair q small) in
        rw (le-leb q 3 small) (to u most (p + 1) {m = n * k + (b + m)} (body (d.0 + 1) (p + 1) n ∷ os) r₁ (body_r {n = n} {a = n * k + (b + m)} {j = k} y (omega arith) r₁ r s (omega arith)) (omega arith))
    act u most {p} {b} {m} os o (call_p {num = num} {c = c} {d = d} y r₁ z) r s h =
        choose (holds v c u) _ _ most
        (to (reads c u) most d.0 {m = b + m} (called (d.0 + num) (p + 1) ∷ os) r₁ (called_r {a = b + m} y r s (omega arith)) (omega arith))
        (to (reads c u) most (p + 1) os r s (omega arith))
    act u most {p} os o' (jump_p {c = c} {d = d} o) r s h =
        choose (holds v c u) _ _ most (to (reads c u) most d.0 os (at_own C R g o r) s (omega arith)) (to (reads c u) most (p + 1) os r s (omega arith))

    acts : (u most : ℕ) {c : Bool} {x : Opens} {p E k m : ℕ} (os : List Open) → Region C R g c x p E k → Rest c x E os m → p ≢ E → k + m ≤ g p + most → Act (execute v (C.control p) p os u) most
    unfolding execute
    acts u most os (shut f e) s n h = absurd (n e)
    acts u most os (stop i e z l) s n h = rw z (halts refl)
    acts u most {p} os (word l i q r b) s n h = act u most os (λ r d e. (good p i).register e) q r s (omega arith)

    acted : (s : State) (most : ℕ) → Fit s (g s.word + most) → Act (step C v s) most
    unfolding step
    acted s most f = rw (has_open f.rest, lt-ltb s.word C.words (is_word f.derived f.apart).0) (acts s.read most s.opens f.derived f.rest f.apart f.bound)

    good_fetch : (s : State) {most : ℕ} → Fit s most → Good C R.calls R.ifs R.loops s
    good_fetch s f =
        let n = counted f.rest in
        let (i, z) = is_word f.derived f.apart in
        record { inside = i; described = (good s.word i).described; few_calls = omega arith; few_ifs = omega arith; few_loops = omega arith }

    -- the whole run, in at most n steps, with each fetch at the cost of its word
    pub record Spent (n most : ℕ) (s : State) : Type 0 where
      pub fetched : List State
      pub ending : run C v n s ≡ done fetched
      pub kept : All (Good C R.calls R.ifs R.loops) fetched
      pub cost : measured g fetched ≤ most

    onwards : (n most : ℕ) (s : State) → Good C R.calls R.ifs R.loops s → Act (step C v s) most → ((s' : State) → Fit s' most → Spent n most s') → Spent (suc n) (g s.word + most) s
    unfolding run
    onwards n most s k (halts e) h = record { fetched = s ∷ []; ending = rw e; kept = each k nil; cost = omega arith }
    onwards n most s k (moves s' e f) h = let w = h s' f in record { fetched = s ∷ w.fetched; ending = rw (e, w.ending); kept = each k w.kept; cost = omega (arith, w.cost) }

    spent : (n most : ℕ) (s : State) → most ≤ n → Fit s most → Spent n most s
    spent zero most s h f = absurd (omega (arith, (is_word f.derived f.apart).1, pos s.word, f.bound))
    spent (suc n) most s h f =
        let c = (is_word f.derived f.apart).1 in
        let left : ℕ = most - g s.word in
        let whole : g s.word + left ≡ most = omega (arith, c, f.bound) in
        rw whole at
        (onwards n left s (good_fetch s f) (acted s left (rw whole f)) (λ s' f'. spent n left s' (omega (arith, pos s.word, c, f.bound)) f'))

    pub main_spent : (m E : ℕ) → m < E → E ≤ C.words → (main_trace C R m E).stopped ≡ false → (is_end (C.control (E - 1)) && has (own_words C m E) (E - 1)) ≡ true
        → Spent (weighted g (main_trace C R m E).visits) (weighted g (main_trace C R m E).visits) (start m E)
    main_spent m E h o e last =
        let k = weighted g (main_trace C R m E).visits in
        spent k k (start m E) (omega arith) (fit {m = 0} (main_sound C R g good m E h o e last) main_r (omega arith) (omega arith))
