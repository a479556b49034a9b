use Rattle.ae_text.specs.declared.token.Sign.TheVariants as sign
use Rattle.ae_tree.specs.declared.lexeme.Lexical.TheVariants as tok
use Rattle.ae_reading.specs.Reads.{itself, Free, Isnt}
use Rattle.ae_statements.proofs.from_reading.ReadsLemmas.{exits}
use Rattle.ae_statements.specs.Blocks.{split_groups}
use Rattle.ae_statements.proofs.DeepLemmas.{split_took, split_first, split_second}
use Rattle.ae_statements.proofs.deep.split_groups.Goals as goal

pub returns-in_err-at : goal.returns-in_err-at
returns-in_err-at c = exits itself split_groups Free (Isnt (tok.Sign sign.Comma)) _ _ _
    (split_first c.in_err-at.ensures) c.from_residual.ensures.1

pub returns-in_err-groups : goal.returns-in_err-groups
returns-in_err-groups c = exits itself split_groups Free (Isnt (tok.Sign sign.Comma)) _ _ _
    (split_second c.in_ok-at.ensures c.in_err-groups.ensures) c.from_residual-in_err-groups.ensures.1

pub returns : goal.returns
returns c = split_took c.in_ok-at.ensures c.in_ok-groups.ensures
