-- `transition::draw` meets its contract: before each turn the four tables show what the effects before this one show, and there is room
-- for what this one does; then what waited is emptied.
use Rattle.room.specs.Room.{watch_rule}
use Rattle.transition.proofs.Drawing.{Drawing}
use Rattle.transition.proofs.draw.Given as goal

abbrev pub invariant-loop-i : goal.invariant-loop-i
invariant-loop-i l = Drawing (watch_rule l.rule) l.k l.initial.room l.room l.i
