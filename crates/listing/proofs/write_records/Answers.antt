-- `write_records` meets its contract. Before each turn the records below index are written. Assumes nothing.
use Rattle.std.proofs.Common.{◌∙◌, arith, rules}
use Rattle.listing.proofs.Laws.{written_none, written_next, has_room}
use Rattle.listing.proofs.write_records.Goals as goal

pub loop-index-init : goal.loop-index-init
loop-index-init g c = record { in_range = omega arith; written = λ f k. written_none f _ }

pub loop-index-preserved : goal.loop-index-preserved
loop-index-preserved g c =
    let line = c.copy_from_slice.ensures.after in
    record {
      in_range = omega arith;
      written = λ f k. written_next f _ c.loop-index.index (c.loop-index.invariant.written f k) (line ∙ k _ _ c.loop-index-test.true c.record_at.ensures) (search rules) (omega (arith, has_room _ _ (rw c.in_ok-size.was at c.room_for.ensures)));
    }
