-- A server that goes on may be about to end.
use Rattle.std.specs.Prelude.{ℕ, List}
use Rattle.machine.specs.States.{State}
use Rattle.server_core.specs.declared.server.ServerCore.{ServerCore}
use Rattle.server_core.specs.Standing.{Beside, Stands, Leaves}
use Rattle.server_core.specs.Driving.{serves_in, departs_in}
use Prim.{search}

leaves_from : (b : Beside) (core : ServerCore) (s : State) → Stands b core s → Leaves b core s
leaves_from b core s h = search

pub departs_too : (core : ServerCore) (front : List ℕ) (s : State) → serves_in core front s
    → departs_in core front s
departs_too core front s h =
    record {
      beside = h.beside;
      front_is = h.front_is;
      rests = h.rests;
      leaves = leaves_from h.beside core s h.stands;
    }
