use Rattle.server_core.proofs.server.ServerCore.way_at_cursor.Goals as goal

pub returns-clause-way : goal.returns-clause-way
returns-clause-way c = λ b s h. c.way_at_cursor.ensures.way s (c.surroundings.ensures.around b s h)
