use Rattle.server_core.proofs.server.ServerCore.first_way.Goals as goal

pub returns-clause-way : goal.returns-clause-way
returns-clause-way c = λ b s h. c.first_way.ensures.way s (c.surroundings.ensures.around b s h)
