-- Words without tests, one after another: they are passed, counted and marked, at once. Assumes nothing.
use mathlib.Core.Path.{◌≡◌, refl, sym, ap, ◌∙◌}
use mathlib.Core.Bool.{Bool, true, ◌&&◌}
use mathlib.Core.List.{List, ◌∷◌, ◌++◌}
use Prim.Native.Nat.{ℕ, zero, suc, ◌+◌, ◌*◌, ◌-◌, ◌^◌, ◌≤◌, ◌<◌, max}
use native.Mathlib.Nat.{le-max_left, max-le}
use native.Mathlib.Omega.{arith}
use lib.ListN.{length, take, drop, replicate, get_or, set, length-set}
use lib.Seq.{take-suc-set}
use borrow.Rule.Slice.PartMut.{put_mid}
use Rattle.std.proofs.Common.{append_assoc}
use Rattle.std.proofs.lemmas.List.{drop-set-lt, drop-drop, take-append-drop}
use Rattle.std.proofs.Math.Seq.{drop-cons}
use Rattle.std.specs.List.{list_all}
use Rattle.std.specs.Option.{is_some}
use Rattle.std.specs.Prelude.{Ok, Some}
use Rattle.binary.specs.declared.WordAddress.{WordAddress}
use Rattle.instruction.specs.Control.{control_of, is_untested}
use Rattle.instruction.specs.declared.flow_control.Control.{Control}
use Rattle.instruction.specs.declared.flow_control.Control.TheVariants.{Unknown, Plain, Emit, End, Break, If, Loop, Call, Jump}
use Rattle.flow.specs.Flow.{code_of}
use Rattle.flow.specs.Inside.{rules_of, after_part, deepest, opened, AsksBoth, goes_on, no_tests, mark_all, cost_at, passed_over, Ready, Scans, ScansBoth}
use Rattle.flow.specs.Rules.{Code}
use Rattle.flow.specs.declared.limits.Allowed.{Allowed}
use Rattle.flow.specs.declared.look.Part.{Part}
use Rattle.flow.specs.declared.depths.Depths.{Depths}
use Rattle.flow.specs.declared.scan.Outcome.{Outcome}
use Rattle.flow.proofs.Remembering.{some_if, fits_known}
use Rattle.flow.proofs.Standing.{Standing, standing_first, standing_known, standing_end, ready_second, both_passed}
use Rattle.flow.proofs.Tests.{false_not_true, both}

-- a word without tests goes on wherever its region ends, whatever is known
untested_goes : (i : Control) (k : Bool) (E : ℕ) → is_untested i ≡ true → goes_on i k E ≡ true
untested_goes Unknown k E e = refl
untested_goes Plain k E e = refl
untested_goes End k E e = refl
untested_goes Emit k E e = absurd (false_not_true e)
untested_goes (Break c) k E e = absurd (false_not_true e)
untested_goes (If c dst num) k E e = absurd (false_not_true e)
untested_goes (Loop r dst) k E e = absurd (false_not_true e)
untested_goes (Call c dst num) k E e = absurd (false_not_true e)
untested_goes (Jump c dst num) k E e = absurd (false_not_true e)

-- n words from p on, as a walk over them tells
pub untested_all : (ws : List ℕ) (p n : ℕ) → p + n ≤ length ws → list_all (λ w. is_untested (control_of w)) (take n (drop p ws)) ≡ no_tests (code_of ws 0) p n
unfolding no_tests
untested_all ws p zero h = refl
untested_all ws p (suc n) h =
    let l : p < length ws = omega (arith, h) in
    let x : suc p ≡ p + 1 = omega arith in
    rw (drop-cons ws p 0) (ap (λ b. is_untested (control_of (get_or ws p 0)) && b) (rw x (untested_all ws (p + 1) n (omega (arith, h)))))

-- marked at once: the n words from p on
pub mark_fill : (m : List Bool) (p n : ℕ) → p + n ≤ length m → put_mid p n m (replicate n true) ≡ mark_all m p n
unfolding mark_all
mark_fill m p zero h = take-append-drop p m
mark_fill m p (suc n) h =
    let x : p + 1 ≡ suc p = omega arith in
    let rest : drop (suc n) (drop p m) ≡ drop n (drop (suc p) m) = drop-drop (suc n) p m ∙ ap (λ k. drop k m) (omega arith) ∙ sym (drop-drop n (suc p) m) in
    let more = mark_fill (set m p true) (p + 1) n (omega (arith, length-set m p true)) in
    rw (← more, x, take-suc-set m p true (omega arith), drop-set-lt (suc p) m p true (omega arith), append_assoc) (ap (λ ys. take p m ++ (true ∷ (replicate n true ++ ys))) rest)

-- n words, and then k more
untested_split : (C : Code) (p n k : ℕ) → no_tests C p (n + k) ≡ true → (no_tests C p n ≡ true) × (no_tests C (p + n) k ≡ true)
unfolding no_tests
untested_split C p zero k e =
    let x : p + 0 ≡ p = omega arith in
    let y : 0 + k ≡ k = omega arith in
    (refl, rw x (rw y at e))
untested_split C p (suc n) k e =
    let x : p + suc n ≡ p + 1 + n = omega arith in
    let y : suc n + k ≡ suc (n + k) = omega arith in
    let (here, rest) = both (is_untested (C.control p)) (no_tests C (p + 1) (n + k)) (rw y at e) in
    let (before, after) = untested_split C (p + 1) n k rest in
    (rw here before, rw x after)

mark_split : (m : List Bool) (p n k : ℕ) → mark_all (mark_all m p n) (p + n) k ≡ mark_all m p (n + k)
unfolding mark_all
mark_split m p zero k =
    let x : p + 0 ≡ p = omega arith in
    let y : 0 + k ≡ k = omega arith in
    rw (x, y)
mark_split m p (suc n) k =
    let x : p + suc n ≡ p + 1 + n = omega arith in
    let y : suc n + k ≡ suc (n + k) = omega arith in
    rw (x, y) (mark_split (set m p true) (p + 1) n k)

module _ (C : Code) (a : Allowed) (part : Part) (total : ℕ) (m₀ : List Bool) (h : part.to.0 ≤ C.words) (few : C.words ≤ 512) (b : a.most < 2 ^ 32) where
  untested_standing : (n : ℕ) {m : List Bool} {costs depths : List ℕ} {p t : ℕ} {d : Depths} → Standing C a part total m₀ m costs depths p t d → p + n ≤ part.to.0 → t + part.weight * n ≤ a.most → no_tests C p n ≡ true
      → Standing C a part total m₀ (mark_all m p n) costs depths (p + n) (t + part.weight * n) d
  unfolding no_tests mark_all
  untested_standing zero {p = p} {t = t} s l u e =
      let x : p + 0 ≡ p = omega arith in
      let y : t + part.weight * 0 ≡ t = omega arith in
      rw (x, y) s
  untested_standing (suc n) {costs = costs} {depths = depths} {p = p} {t = t} s l u e =
      let (here, rest) = both (is_untested (C.control p)) (no_tests C (p + 1) n) e in
      let x : p + suc n ≡ p + 1 + n = omega arith in
      let y : t + part.weight * suc n ≡ t + part.weight + part.weight * n = omega arith in
      let next = standing_known s h few (omega arith) (omega (arith, y)) b (untested_goes (C.control p) (is_some (cost_at costs depths p)) part.to.0 here) in
      rw (x, y) (untested_standing n next (omega arith) (omega (arith, y)) rest)

-- a part without tests
untested_scans : (C : Code) (a : Allowed) (few : C.words ≤ 512) (r : Part) (total n : ℕ) {m : List Bool} {costs depths : List ℕ} {o : Outcome} → Ready C a r m costs depths → a.most < 2 ^ 32 → r.from.0 + n ≡ r.to.0 → total + r.weight * n ≤ a.most
    → no_tests C r.from.0 n ≡ true → o.total ≡ total + r.weight * n → o.depths ≡ r.opens.depths → Scans C (rules_of a) r total m (Ok o) (mark_all m r.from.0 n) costs depths
untested_scans C a few r total n {m} y b e u plain z deep =
    let s = untested_standing C a r total m y.within few b n (standing_first y (omega arith) refl) (omega arith) u plain in
    standing_end s y.within few (omega arith) z deep

max_self : (n : ℕ) → max n n ≡ n
max_self n = omega (arith, le-max_left n n, max-le {a = n} {b = n} {k = n} (omega arith) (omega arith))

abbrev pub none : Depths
none = record { calls = 0; ifs = 0; loops = 0 }

opened_none : (x : Depths) → opened x none ≡ x
opened_none x =
    let c : x.calls + 0 ≡ x.calls = omega arith in
    let i : x.ifs + 0 ≡ x.ifs = omega arith in
    let l : x.loops + 0 ≡ x.loops = omega arith in
    rw (c, i, l)

-- the two parts of an IF
pub untested_both : (C : Code) (a : Allowed) (few : C.words ≤ 512) (r : Part) (next : WordAddress) (total p : ℕ) (m : List Bool) {m' : List Bool} {costs depths : List ℕ} {o : Outcome} → Ready C a r m costs depths → AsksBoth (C.control p) p r next
    → next.0 ≤ C.words → a.most < 2 ^ 32 → no_tests C r.from.0 (next.0 - r.from.0) ≡ true → passed_over (rules_of a) r total (record { visits = next.0 - r.from.0; depths = none }) ≡ Some o
    → m' ≡ mark_all m r.from.0 (next.0 - r.from.0) → ScansBoth C (rules_of a) r next total m (Ok o) m' costs depths
untested_both C a few r next total p m {o = o} y h within b plain e marked =
    let size = next.0 - r.from.0 in
    let (fits_b, left) = some_if _ _ o e in
    let fits = (fits_known C (rules_of a) r total (record { visits = size; depths = none }) m fits_b).fits in
    let n = r.to.0 - r.from.0 in
    let k = next.0 - r.to.0 in
    let ahead = h.ahead in
    let order : r.to.0 ≤ next.0 = omega (arith, h.to, h.end) in
    let both-sizes : size ≡ n + k = omega arith in
    let at : r.from.0 + n ≡ r.to.0 = omega arith in
    let sum : total + r.weight * size ≡ total + r.weight * n + r.weight * k = rw both-sizes (omega arith) in
    let (first, second) = untested_split C r.from.0 n k (rw both-sizes at plain) in
    let f = untested_scans C a few r total n {o = record { total = total + r.weight * n; depths = r.opens.depths }} y b at (omega (arith, sum)) first refl refl in
    let g = untested_scans C a few (after_part r next) (total + r.weight * n) k {o = record { total = total + r.weight * n + r.weight * k; depths = r.opens.depths }} (ready_second next y f within) b (omega arith) (omega (arith, sum)) (rw at at second) refl refl in
    let deep : r.opens.depths ≡ deepest r.opens.depths r.opens.depths = rw (max_self r.opens.depths.calls, max_self r.opens.depths.ifs, max_self r.opens.depths.loops) in
    let marks : mark_all (mark_all m r.from.0 n) r.to.0 k ≡ mark_all m r.from.0 size = rw both-sizes (rw at at (mark_split m r.from.0 n k)) in
    rw (← left, marked, ← marks) (both_passed y total p h f refl g refl deep (rw sum) (opened_none r.opens.depths))
