-- Own words of a region (document 01, 'The flow check', first paragraph).
-- Assumes nothing.
use Rattle.std.specs.Prelude.{ℕ, zero, suc, ◌+◌, ◌-◌, Bool, true, false, ◌&&◌, ◌||◌, List, [], ◌∷◌, leb, ltb, eqb}
use Rattle.instruction.specs.declared.flow_control.Control.{Control}
use Rattle.instruction.specs.declared.flow_control.Control.TheVariants.{Unknown, Plain, Emit, End, Break, If, Loop, Call, Jump}
use Rattle.flow.specs.Rules.{Code, pick}

-- 'after an IF the word DST+NUM, after a LOOP DST+1, else the next word'
abbrev pub next_of : Control → ℕ → ℕ
next_of Unknown p = p + 1
next_of Plain p = p + 1
next_of Emit p = p + 1
next_of End p = p + 1
next_of (Break c) p = p + 1
next_of (If c dst num) p = dst.0 + num
next_of (Loop r dst) p = dst.0 + 1
next_of (Call c dst num) p = p + 1
next_of (Jump c dst num) p = p + 1

-- good bounds of an IF or LOOP at p in a region that ends at E: 'IF unless DST ≥ p+2 and DST+NUM ≤ E; LOOP
-- unless p+1 ≤ DST < E'
abbrev pub spans : Control → ℕ → ℕ → Bool
spans Unknown p E = true
spans Plain p E = true
spans Emit p E = true
spans End p E = true
spans (Break c) p E = true
spans (If c dst num) p E = leb (p + 2) dst.0 && leb (dst.0 + num) E
spans (Loop r dst) p E = leb (p + 1) dst.0 && ltb dst.0 E
spans (Call c dst num) p E = true
spans (Jump c dst num) p E = true

module _ (C : Code) where
  -- the own words from p on, 'up to the region's end. It stops at an IF or LOOP with bad bounds, the last own
  -- word then'; each is further on, so E - p are enough
  unfoldable pub own_from : ℕ → ℕ → ℕ → List ℕ
  own_from zero p E = []
  own_from (suc n) p E =
      let more = own_from n (next_of (C.control p) p) E in
      let rest = pick (spans (C.control p) p E) more [] in
      pick (ltb p E) (p ∷ rest) []

  unfoldable pub own_words : ℕ → ℕ → List ℕ
  own_words p E = own_from (E - p) p E

-- an own word
abbrev pub has : List ℕ → ℕ → Bool
has [] d = false
has (p ∷ ps) d = eqb p d || has ps d
