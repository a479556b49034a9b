use Rattle.ae_parser.proofs.PlaceLemmas.{left_index, refused_at}
use Rattle.ae_parser.proofs.program.refusal.Goals as goal

pub bounds-tokens-tokens : goal.bounds-tokens-tokens
bounds-tokens-tokens c = left_index c.args.why c.args.tokens.now c.args.left c.requires.refused c.requires.whole

pub returns : goal.returns
returns c =
    refused_at c.args.why c.args.tokens.now c.args.left c.index-tokens-tokens.result c.broken_rule.result
    c.requires.refused c.requires.whole c.index-tokens-tokens.is c.broken_rule.ensures
