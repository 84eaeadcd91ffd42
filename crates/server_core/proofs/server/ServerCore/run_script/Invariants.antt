use Rattle.server_core.proofs.ScriptTurns.{Runs}
use Rattle.server_core.proofs.server.ServerCore.run_script.Given as goal

abbrev pub invariant-loop-turn : goal.invariant-loop-turn
invariant-loop-turn l = Runs l.fn.self l.self l.turn
