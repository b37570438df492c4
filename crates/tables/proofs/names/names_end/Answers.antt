-- `names::names_end` meets its contract: no byte after the last 00 byte is 00. Assumes nothing.
use mathlib.Core.Path.{◌≡◌, refl, sym, ◌∙◌}
use Prim.Native.Nat.{ℕ, ◌+◌}
use borrow.Author.Rules.{rules}
use Rattle.std.proofs.Common.{Option, Some, None}
use Rattle.tables.specs.Names.{names_end}
use Rattle.tables.proofs.Laws.{last_zero, no_zero}
use Rattle.tables.proofs.names.names_end.Goals as goal

pub returns : goal.returns
returns c = by c.rposition.result refl
  where
    by : (found : Option ℕ) → c.rposition.result ≡ found → c.map_or.result ≡ names_end c.args.symbols.now
    by (Some last) e =
        let end : c.map_or.result ≡ last + 1 = search rules in
        end ∙ sym (last_zero c.args.symbols.now last (search rules) (search rules) (search rules))
    by None e =
        let end : c.map_or.result ≡ 0 = search rules in
        end ∙ sym (no_zero c.args.symbols.now (search rules))
