use Rattle.std.proofs.Common.{◌≤◌, ◌++◌, length, take, arith, rules, length-append, length-take-le}
use Rattle.std.proofs.KnownBytes.{Consumes-trans}
use Rattle.stream.proofs.read_library.Goals as goal
use Rattle.stream.proofs.read_library.Goals.{then-count-eq65537+in_ok-got, else-count-eq65537}

pub returns-then-got-length-clause-next : goal.returns-then-got-length-clause-next
returns-then-got-length-clause-next g c =
    let count = c.in_ok-count.count in
    let bytes = c.read_some.new.bytes in
    let within : count ≤ length bytes = search rules in
    elim c.if-count-eq65537.branch [
      | then-count-eq65537+in_ok-got w ↦
          let (less, (gone, counted, consumed)) = w.in_ok-got.ensures.next in
          record {
            left = take count bytes ++ gone;
            short = omega (arith, length-append (take count bytes) gone, length-take-le count bytes within);
            taken = rw w.input-is (Consumes-trans _ _ _ _ _ c.in_ok-count.ensures.next consumed);
            over = rw w.input-is (w.in_ok-got.ensures.ended (omega arith));
          }
      | else-count-eq65537 w ↦ record {
        left = take count bytes;
        short = omega (arith, length-take-le count bytes within);
        taken = rw w.input-is c.in_ok-count.ensures.next;
        over = rw w.input-is (c.in_ok-count.ensures.ended (omega arith) (omega arith));
      }
    ]
