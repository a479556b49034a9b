use Rattle.ae_parser.proofs.program.parse.Goals as goal

pub returns-in-Err-clause-only : goal.returns-in-Err-clause-only
returns-in-Err-clause-only c p d w = c.deny.ensures.memory (c.in-Err.ensures.only p d w)
