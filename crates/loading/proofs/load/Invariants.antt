-- `loading::load` meets its contract. The loop's invariant: the live rows, and then the rows that are left from here on, are the image's.
use Rattle.loading.proofs.Rows.{Loading}
use Rattle.loading.proofs.load.Given as goal

abbrev pub invariant-loop : goal.invariant-loop
invariant-loop l = Loading l.s l.initial.room l.room l.fn.head.count l.counter l.here
