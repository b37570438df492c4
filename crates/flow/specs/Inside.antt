-- What the functions inside this crate compute, for their contracts: the steps of the check, one word at a
-- time. The rules are in Own and Visits.
-- Assumes nothing.
use Rattle.std.specs.Prelude.{◌≡◌, ℕ, zero, suc, ◌+◌, ◌*◌, ◌-◌, ◌/◌, ◌%◌, ◌^◌, ◌≤◌, ◌<◌, max, Bool, true, false, not, ◌&&◌, List, [], ◌∷◌, Option, Some, None, Result, Ok, leb, ltb, length, get_or, set}
use Rattle.std.specs.Bool.{then_some}
use Rattle.answer.specs.Answers.{Answer, given, refused, map_answer, answered}
use Rattle.answer.specs.Faults.{Fault, Nothing, At, fault_if, or_else}
use Rattle.answer.specs.declared.Refusal.{Refusal}
use Rattle.binary.specs.Addresses.{word_address}
use Rattle.binary.specs.declared.WordAddress.{WordAddress}
use Rattle.instruction.specs.Control.{is_untested}
use Rattle.instruction.specs.declared.flow_control.Condition.{Condition}
use Rattle.instruction.specs.declared.flow_control.Control.{Control}
use Rattle.instruction.specs.declared.flow_control.Control.TheVariants.{Unknown, Plain, Emit, End, Break, If, Loop, Call, Jump}
use Rattle.flow.specs.Own.{next_of, spans, own_words, has}
use Rattle.flow.specs.Rules.{Code, Rules, in_if, in_loop, in_call, pick}
use Rattle.flow.specs.Visits.{Visit, fault_at, trace}
use Rattle.flow.specs.declared.limits.Allowed.{Allowed}
use Rattle.flow.specs.declared.look.Look.{Look}
use Rattle.flow.specs.declared.look.Look.TheVariants.{Next, One, Two}
use Rattle.flow.specs.declared.look.Opens.{Opens}
use Rattle.flow.specs.declared.look.Part.{Part}
use Rattle.flow.specs.declared.scan.Cost.{Cost}
use Rattle.flow.specs.declared.depths.Depths.{Depths}
use Rattle.flow.specs.declared.scan.Kept.{Kept}
use Rattle.flow.specs.declared.scan.Outcome.{Outcome}

-- the own word after the one at p, in a region that ends at E; none where bounds are bad
abbrev pub after_if : ℕ → ℕ → ℕ → ℕ → Option ℕ
after_if p E dst num = pick (leb (p + 2) dst && leb (dst + num) E) (Some (dst + num)) None

abbrev pub after_loop : ℕ → ℕ → ℕ → Option ℕ
after_loop p E dst = pick (leb (p + 1) dst && ltb dst E) (Some (dst + 1)) None

abbrev pub after_of : Control → ℕ → ℕ → Option ℕ
after_of i p E = pick (spans i p E) (Some (next_of i p)) None

-- the rules of the code's limits: every LOOP is counted as 256 turns
abbrev pub rules_of : Allowed → Rules
rules_of a = record { calls = a.depths.calls; ifs = a.depths.ifs; loops = a.depths.loops; most = a.most; turns = λ r. 256; emits = a.emits }

abbrev pub part_of : Opens → ℕ → ℕ → ℕ → Part
part_of x w p E = record { opens = x; weight = w; from = word_address p; to = word_address E }

-- a fault is refused at its word; else what follows
abbrev pub unless : Fault → Look → Answer Look
unless (At number word) look = refused number word
unless Nothing look = given look

-- the tests of the words that have bounds or a target, in the order 24, 25 or 26, and their parts
unfoldable pub look_if : Rules → Opens → ℕ → ℕ → ℕ → ℕ → ℕ → Answer Look
look_if R x w p E dst num =
    unless (or_else (fault_if (not (leb (p + 2) dst && leb (dst + num) E)) 24 p) (fault_if (leb R.ifs x.depths.ifs) 25 p))
    (Two (part_of (in_if x) w (p + 1) dst) (word_address (dst + num)))

unfoldable pub look_loop : Rules → Opens → ℕ → ℕ → ℕ → ℕ → Answer Look
look_loop R x w p E dst =
    unless (or_else (fault_if (not (leb (p + 1) dst && ltb dst E)) 24 p) (fault_if (leb R.loops x.depths.loops) 25 p))
    (One (part_of (in_loop x) (w * 256) (p + 1) (dst + 1)) (word_address (dst + 1)))

unfoldable pub look_call : Rules → Opens → ℕ → ℕ → ℕ → ℕ → ℕ → Answer Look
look_call R x w p words dst num =
    unless (or_else (fault_if (not (leb 1 num && leb (dst + num) words)) 24 p) (fault_if (leb R.calls x.depths.calls) 25 p))
    (One (part_of (in_call x) w dst (dst + num)) (word_address (p + 1)))

unfoldable pub look_jump : Code → ℕ → ℕ → ℕ → Answer Look
look_jump C p E dst = unless (fault_if (not (ltb p dst && (ltb dst E && has (own_words C (p + 1) E) dst))) 26 p) Next

-- the parts of a word without a fault
abbrev pub parts_of : Rules → Control → Opens → ℕ → ℕ → Look
parts_of R Unknown x w p = Next
parts_of R Plain x w p = Next
parts_of R Emit x w p = Next
parts_of R End x w p = Next
parts_of R (Break c) x w p = Next
parts_of R (If c dst num) x w p = Two (part_of (in_if x) w (p + 1) dst.0) (word_address (dst.0 + num))
parts_of R (Loop r dst) x w p = One (part_of (in_loop x) (w * R.turns r) (p + 1) (dst.0 + 1)) (word_address (dst.0 + 1))
parts_of R (Call c dst num) x w p = One (part_of (in_call x) w dst.0 (dst.0 + num)) (word_address (p + 1))
parts_of R (Jump c dst num) x w p = Next

-- a visited word: its fault, or its parts
unfoldable pub look_of : Code → Rules → Opens → ℕ → ℕ → ℕ → Answer Look
look_of C R x w p E = unless (fault_at C R x p E) (parts_of R (C.control p) x w p)

-- a region weighs 256 for each LOOP open, multiplied
abbrev pub Weighs : Part → Type 0
Weighs r = r.weight ≡ 256 ^ r.opens.depths.loops

-- what scanning visits leaves: the total, or the first fault's number and word; and the marks
pub record Scanned : Type 0 where
  pub flow : Answer ℕ
  pub marks : List Bool

abbrev pub scanned : Answer ℕ → List Bool → Scanned
scanned f m = record { flow = f; marks = m }

abbrev pub stop_or : Fault → List Bool → Scanned → Scanned
stop_or (At number word) m next = scanned (refused number word) m
stop_or Nothing m next = next

-- visits one after another, with a total and marks before them: 27, the mark, then 22 to 26
module _ (C : Code) (R : Rules) where
  unfoldable pub replay : List Visit → ℕ → List Bool → Scanned
  replay [] t m = scanned (given t) m
  replay (v ∷ vs) t m =
      let m' = set m v.word true in
      let rest = replay vs (t + v.weight) m' in
      let on = stop_or (fault_at C R v.opens v.word v.end) m' rest in
      pick (ltb R.most (t + v.weight)) (scanned (refused 27 v.word) m) on

-- how many of the first n have a property
unfoldable pub count_to : ℕ → (ℕ → Bool) → ℕ
count_to zero f = 0
count_to (suc n) f = count_to n f + pick (f n) 1 0

-- the visits of a part
abbrev pub scan_of : Code → Rules → Part → ℕ → List Bool → Scanned
scan_of C R r t m = replay C R (trace C R r.opens r.weight r.from.0 r.to.0).visits t m

-- more visits after some: none after a stop
abbrev pub and_after : Code → Rules → Answer ℕ → List Bool → List Visit → Scanned
and_after C R (given t) m us = replay C R us t m
and_after C R (refused n q) m us = scanned (refused n q) m

abbrev pub replay_then : Code → Rules → Scanned → List Visit → Scanned
replay_then C R s us = and_after C R s.flow s.marks us

-- the part after another, with the same open, and the visits of both
abbrev pub after_part : Part → WordAddress → Part
after_part r next = part_of r.opens r.weight r.to.0 next.0

abbrev pub scan_both : Code → Rules → Part → WordAddress → ℕ → List Bool → Scanned
scan_both C R r next t m = replay_then C R (scan_of C R r t m) (trace C R r.opens r.weight r.to.0 next.0).visits

-- the depths of a region without what is open around it. Over: what is open is within them
abbrev pub beyond : Depths → Depths → Depths
beyond d x = record { calls = d.calls - x.calls; ifs = d.ifs - x.ifs; loops = d.loops - x.loops }

abbrev pub Over : Depths → Depths → Type 0
Over d x = (x.calls ≤ d.calls) × (x.ifs ≤ d.ifs) × (x.loops ≤ d.loops)

-- no more than is allowed
abbrev pub Under : Rules → Depths → Type 0
Under R d = (d.calls ≤ R.calls) × (d.ifs ≤ R.ifs) × (d.loops ≤ R.loops)

-- what is open, with so much more, is allowed
abbrev pub Room : Rules → Depths → Depths → Type 0
Room R x d = (x.calls + d.calls ≤ R.calls) × (x.ifs + d.ifs ≤ R.ifs) × (x.loops + d.loops ≤ R.loops)

-- every word that is marked in m is marked in m'
pub record Covers (m m' : List Bool) : Type 0 where
  pub marked : (q : ℕ) → get_or m q false ≡ true → get_or m' q false ≡ true

-- the region from p to E, with a LOOP open in the same main or called region or with none, costs k without
-- the weight, needs room for d at most, and its words are marked in m:
-- where it fits, visiting it adds weight × cost to the total and no mark
pub record Passes (C : Code) (R : Rules) (looped : Bool) (p E k : ℕ) (d : Depths) (m : List Bool) : Type 0 where
  pub again : (x : Opens) (w t : ℕ) (m' : List Bool) → x.looped ≡ looped → Room R x.depths d → t + w * k ≤ R.most → Covers m m' → scan_of C R (part_of x w p E) t m' ≡ scanned (given (t + w * k)) m'

-- .. and the regions from p to q and from q to E, which cost k together
pub record PassesBoth (C : Code) (R : Rules) (looped : Bool) (p q E k : ℕ) (d : Depths) (m : List Bool) : Type 0 where
  pub first : ℕ
  pub second : ℕ
  pub sum : k ≡ first + second
  pub before : Passes C R looped p q first d m
  pub after : Passes C R looped q E second d m

-- what a part that was passed leaves: its cost in the total, depths that are enough for it, and that it is
-- passed wherever these fit
pub record Left (C : Code) (R : Rules) (r : Part) (before after : ℕ) (d : Depths) (m : List Bool) : Type 0 where
  pub cost : ℕ
  pub adds : after ≡ before + r.weight * cost
  pub over : Over d r.opens.depths
  pub under : Under R d
  pub passes : Passes C R r.opens.looped r.from.0 r.to.0 cost (beyond d r.opens.depths) m

pub record LeftBoth (C : Code) (R : Rules) (r : Part) (next : WordAddress) (before after : ℕ) (d : Depths) (m : List Bool) : Type 0 where
  pub cost : ℕ
  pub adds : after ≡ before + r.weight * cost
  pub over : Over d r.opens.depths
  pub under : Under R d
  pub passes : PassesBoth C R r.opens.looped r.from.0 r.to.0 next.0 cost (beyond d r.opens.depths) m

abbrev pub deepest : Depths → Depths → Depths
deepest d e = record { calls = max d.calls e.calls; ifs = max d.ifs e.ifs; loops = max d.loops e.loops }

-- no more than the most
abbrev pub within : Depths → Depths → Bool
within d most = (leb d.calls most.calls && leb d.ifs most.ifs) && leb d.loops most.loops

-- what is open, and so much more
abbrev pub opened : Depths → Depths → Depths
opened x d = record { calls = x.calls + d.calls; ifs = x.ifs + d.ifs; loops = x.loops + d.loops }

-- the part that a LOOP or a CALL at p asks for: its region, and whether a LOOP is open in it
abbrev pub Asks : Control → ℕ → Part → Type 0
Asks Unknown p r = ⊥
Asks Plain p r = ⊥
Asks Emit p r = ⊥
Asks End p r = ⊥
Asks (Break c) p r = ⊥
Asks (If c dst num) p r = ⊥
Asks (Loop q dst) p r = (r.opens.looped ≡ true) × (r.from.0 ≡ p + 1) × (r.to.0 ≡ dst.0 + 1)
Asks (Call c dst num) p r = (r.opens.looped ≡ false) × (r.from.0 ≡ dst.0) × (r.to.0 ≡ dst.0 + num)
Asks (Jump c dst num) p r = ⊥

-- the parts that an IF at p asks for: its true one, which has words, and from that on its false one up to the
-- next word
pub record AsksBoth (i : Control) (p : ℕ) (r : Part) (next : WordAddress) : Type 0 where
  pub condition : Condition
  pub dst : WordAddress
  pub num : ℕ
  pub is : i ≡ If condition dst num
  pub from : r.from.0 ≡ p + 1
  pub ahead : r.from.0 < r.to.0
  pub to : r.to.0 ≡ dst.0
  pub end : next.0 ≡ dst.0 + num

-- a jump at p whose target is ahead and, counted from the word after p, an own word up to every end past it
pub record Reaches (C : Code) (p dst : ℕ) : Type 0 where
  pub ahead : p < dst
  pub own : (E : ℕ) → dst < E → has (own_words C (p + 1) E) dst ≡ true

-- what is remembered of the word at p: of a LOOP, a CALL, and an IF with no LOOP open in the same main or
-- called region, the cost of its regions and what they open at most; of a jump, that its target is good
abbrev pub Recalled : Code → Rules → List Bool → Control → ℕ → ℕ → Depths → Type 0
Recalled C R m Unknown p k d = Unit {0}
Recalled C R m Plain p k d = Unit {0}
Recalled C R m Emit p k d = Unit {0}
Recalled C R m End p k d = Unit {0}
Recalled C R m (Break c) p k d = Unit {0}
Recalled C R m (If c dst num) p k d = PassesBoth C R false (p + 1) dst.0 (dst.0 + num) k d m
Recalled C R m (Loop q dst) p k d = Passes C R true (p + 1) (dst.0 + 1) k d m
Recalled C R m (Call c dst num) p k d = Passes C R false dst.0 (dst.0 + num) k d m
Recalled C R m (Jump c dst num) p k d = Reaches C p dst.0

-- what a part costs that left an outcome, with a total before it
abbrev pub cost_of : Part → ℕ → Outcome → Cost
cost_of r before u = record { visits = (u.total - before) / r.weight; depths = beyond u.depths r.opens.depths }

-- three depths in one number, each below 256
abbrev pub packed : Depths → ℕ
packed d = d.calls * 65536 + d.ifs * 256 + d.loops

abbrev pub unpacked : ℕ → Depths
unpacked n = record { calls = n / 65536; ifs = n / 256 % 256; loops = n % 256 }

-- two arrays: the costs, 0 where nothing is remembered, and the depths
abbrev pub cost_at : List ℕ → List ℕ → ℕ → Option Cost
cost_at costs depths p = then_some (ltb 0 (get_or costs p 0)) (record { visits = get_or costs p 0; depths = unpacked (get_or depths p 0) })

-- what is kept of the word at p, and a cost kept
abbrev pub recalled : Kept → ℕ → Option Cost
recalled k p = cost_at k.costs k.depths p

abbrev pub remember : Kept → ℕ → Cost → Kept
remember k p c = record { marks = k.marks; costs = set k.costs p c.visits; depths = set k.depths p (packed c.depths) }

-- what the arrays tell is so. Of a jump whose target was found, and of EMIT and BREAK, any cost may be kept
pub record Memory (C : Code) (R : Rules) (m : List Bool) (costs depths : List ℕ) : Type 0 where
  pub costs_long : length costs ≡ 512
  pub depths_long : length depths ≡ 512
  pub recalls : (p : ℕ) (c : Cost) → cost_at costs depths p ≡ Some c → Recalled C R m (C.control p) p c.visits c.depths

-- a region of this cost fits; one that costs nothing is none that was visited
unfoldable pub fits_here : Rules → Part → ℕ → Cost → Bool
fits_here R r t c =
    (((ltb 0 c.visits && leb (r.opens.depths.calls + c.depths.calls) R.calls) && leb (r.opens.depths.ifs + c.depths.ifs) R.ifs) && leb (r.opens.depths.loops + c.depths.loops) R.loops) && leb (t + r.weight * c.visits) R.most

-- what a part of this cost leaves; only where it fits
abbrev pub after_passing : Part → ℕ → Cost → Outcome
after_passing r t c = record { total = t + r.weight * c.visits; depths = opened r.opens.depths c.depths }

abbrev pub passed_over : Rules → Part → ℕ → Cost → Option Outcome
passed_over R r t c = then_some (fits_here R r t c) (after_passing r t c)

-- true where a visited word is known to go on without its tests: it has none, or it is a jump whose target
-- was found and lies in the region. Else they are made
abbrev pub goes_on : Control → Bool → ℕ → Bool
goes_on Unknown found E = true
goes_on Plain found E = true
goes_on End found E = true
goes_on (Jump c dst num) found E = found && ltb dst.0 E
goes_on Emit found E = false
goes_on (Break c) found E = false
goes_on (If c dst num) found E = false
goes_on (Loop q dst) found E = false
goes_on (Call c dst num) found E = false

-- the n words from p on have none of the tests 22 to 26: none is an EMIT, a BREAK, an IF, a LOOP, a CALL or a
-- jump
unfoldable pub no_tests : Code → ℕ → ℕ → Bool
no_tests C p zero = true
no_tests C p (suc n) = is_untested (C.control p) && no_tests C (p + 1) n

-- .. and are marked
unfoldable pub mark_all : List Bool → ℕ → ℕ → List Bool
mark_all m p zero = m
mark_all m p (suc n) = mark_all (set m p true) (p + 1) n

-- the code's answer to a scan, but for the depths
abbrev pub counted : Result Outcome Refusal → Answer ℕ
counted o = map_answer (λ (u : Outcome). u.total) (answered o)

-- what scanning a part relies on, and what it leaves
pub record Ready (C : Code) (a : Allowed) (r : Part) (m : List Bool) (costs depths : List ℕ) : Type 0 where
  pub within : r.to.0 ≤ C.words
  pub weighs : Weighs r
  pub under : Under (rules_of a) r.opens.depths
  pub long : length m ≡ 512
  pub memory : Memory C (rules_of a) m costs depths

pub record Scans (C : Code) (R : Rules) (r : Part) (before : ℕ) (m₀ : List Bool) (o : Result Outcome Refusal) (m : List Bool) (costs depths : List ℕ) : Type 0 where
  pub flow : scanned (counted o) m ≡ scan_of C R r before m₀
  pub grown : Covers m₀ m
  pub long : length m ≡ 512
  pub memory : Memory C R m costs depths
  pub left : (u : Outcome) → o ≡ Ok u → Left C R r before u.total u.depths m

-- .. and of two, one after the other up to next
pub record ScansBoth (C : Code) (R : Rules) (r : Part) (next : WordAddress) (before : ℕ) (m₀ : List Bool) (o : Result Outcome Refusal) (m : List Bool) (costs depths : List ℕ) : Type 0 where
  pub flow : scanned (counted o) m ≡ scan_both C R r next before m₀
  pub grown : Covers m₀ m
  pub long : length m ≡ 512
  pub memory : Memory C R m costs depths
  pub left : (u : Outcome) → o ≡ Ok u → LeftBoth C R r next before u.total u.depths m

-- these, of what is kept
abbrev pub ReadyFor : Code → Allowed → Part → Kept → Type 0
ReadyFor C a r k = Ready C a r k.marks k.costs k.depths

abbrev pub ScansTo : Code → Rules → Part → ℕ → Kept → Result Outcome Refusal → Kept → Type 0
ScansTo C R r before k o k' = Scans C R r before k.marks o k'.marks k'.costs k'.depths

abbrev pub ScansBothTo : Code → Rules → Part → WordAddress → ℕ → Kept → Result Outcome Refusal → Kept → Type 0
ScansBothTo C R r next before k o k' = ScansBoth C R r next before k.marks o k'.marks k'.costs k'.depths
