use Rattle.std.proofs.Common.{◌∙◌}
use Rattle.ae_parser.proofs.ProgramLemmas.{program_derives, left_for_memory}
use Rattle.ae_parser.proofs.program.program.Goals as goal

pub returns-in-Err-clause-only : goal.returns-in-Err-clause-only
returns-in-Err-clause-only c p d w =
    c.placed.ensures.memory (left_for_memory c.args.tokens.now _ _
    (c.as_slice.ensures ∙ c.in_ok-names.ensures.lexemes) c.in-Err.ensures p d w)

pub returns-clause-ok : goal.returns-clause-ok
returns-clause-ok c = program_derives c.args.tokens.now _ _ _ c.in_ok-names.ensures.names
    (c.as_slice.ensures ∙ c.in_ok-names.ensures.lexemes) c.in-Ok.ensures c.requires.whole
