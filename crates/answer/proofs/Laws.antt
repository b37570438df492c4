-- Laws of the first fault in order. Assumes nothing.
use mathlib.Core.Path.{◌≡◌, refl, sym, ◌∙◌}
use Prim.Native.Nat.{ℕ, zero, suc, ◌+◌, ◌-◌, ◌≤◌, ◌<◌}
use native.Mathlib.Omega.{arith}
use Rattle.answer.specs.Faults.{Fault, Nothing, At, or_else, first_in}

pub or_assoc : (a b c : Fault) → or_else (or_else a b) c ≡ or_else a (or_else b c)
or_assoc (At n p) b c = refl
or_assoc Nothing b c = refl

pub or_nothing : (a : Fault) → or_else a Nothing ≡ a
or_nothing (At n p) = refl
or_nothing Nothing = refl

-- no fault: neither here nor after
pub or_none : (a b : Fault) → or_else a b ≡ Nothing → (a ≡ Nothing) × (b ≡ Nothing)
or_none (At n p) b e = absurd (let z : ◌≡◌ {A = ℕ} 0 1 = cc in omega arith)
or_none Nothing b e = (refl, e)

-- of an answer that is a fault, and then `rest`: the fault is there; it is not
pub stop : (f rest : Fault) {A : Fault} {n p : ℕ} → A ≡ or_else f rest → f ≡ At n p → At n p ≡ A
stop f rest e k = sym (e ∙ rw k)

pub pass : (f rest : Fault) {A : Fault} → A ≡ or_else f rest → f ≡ Nothing → A ≡ rest
pass f rest e k = e ∙ rw k

-- what is left of m at j, and then `rest`: the fault at j, or what is left after it
pub here : (f : ℕ → Fault) (j m : ℕ) (rest : Fault) → j < m
    → or_else (first_in f j (m - j)) rest ≡ or_else (f j) (or_else (first_in f (j + 1) (m - (j + 1))) rest)
unfolding first_in
here f j m rest h =
    let e : m - j ≡ suc (m - (j + 1)) = omega arith in
    rw (e, first_in, or_assoc)

-- nothing is left
pub none_left : (f : ℕ → Fault) (j m : ℕ) (rest : Fault) → m ≤ j → or_else (first_in f j (m - j)) rest ≡ rest
unfolding first_in
none_left f j m rest h =
    let e : m - j ≡ 0 = omega arith in
    rw e

-- all are left
pub all_left : (f : ℕ → Fault) (m : ℕ) (rest : Fault) {A : Fault} → A ≡ or_else (first_in f 0 m) rest → A ≡ or_else (first_in f 0 (m - 0)) rest
all_left f m rest e =
    let z : m - 0 ≡ m = omega arith in
    rw z e

-- of an answer that is what is left at j, and then `rest`: j has a fault; j has none; nothing is left
module _ (f : ℕ → Fault) (A rest : Fault) (j m : ℕ) (e : A ≡ or_else (first_in f j (m - j)) rest) where
  pub hit : {n p : ℕ} → j < m → f j ≡ At n p → At n p ≡ A
  hit h k = sym (e ∙ here f j m rest h ∙ rw k)

  pub miss : j < m → f j ≡ Nothing → A ≡ or_else (first_in f (j + 1) (m - (j + 1))) rest
  miss h k = e ∙ here f j m rest h ∙ rw k

  pub over : m ≤ j → A ≡ rest
  over h = e ∙ none_left f j m rest h

-- there is a first fault exactly if there is one
pub none_at : (f : ℕ → Fault) (i n : ℕ) → first_in f i n ≡ Nothing → (k : ℕ) → k < n → f (i + k) ≡ Nothing
unfolding first_in
none_at f i zero e k h = absurd (omega arith)
none_at f i (suc n) e zero h =
    let z : i + 0 ≡ i = omega arith in
    rw z (or_none (f i) (first_in f (i + 1) n) e).0
none_at f i (suc n) e (suc k) h =
    let z : i + suc k ≡ i + 1 + k = omega arith in
    rw z (none_at f (i + 1) n (or_none (f i) (first_in f (i + 1) n) e).1 k (omega arith))

pub none_first : (f : ℕ → Fault) (i n : ℕ) → ((k : ℕ) → k < n → f (i + k) ≡ Nothing) → first_in f i n ≡ Nothing
unfolding first_in
none_first f i zero g = refl
none_first f i (suc n) g =
    let z : i + 0 ≡ i = omega arith in
    let first : f i ≡ Nothing = rw z at (g 0 (omega arith)) in
    rw first (none_first f (i + 1) n (λ k h. let y : i + suc k ≡ i + 1 + k = omega arith in rw y at (g (suc k) (omega arith))))
