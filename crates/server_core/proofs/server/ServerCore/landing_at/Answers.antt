use Rattle.server_core.proofs.server.ServerCore.landing_at.Goals as goal

pub returns-clause-landing : goal.returns-clause-landing
returns-clause-landing c = λ b s h. c.landing_at_cursor.ensures.landing s (c.surroundings.ensures.around b s h)
