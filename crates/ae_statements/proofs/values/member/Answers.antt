use Rattle.std.proofs.Common.{refl}
use Rattle.ae_text.specs.declared.token.Sign.TheVariants as sign
use Rattle.ae_tree.specs.declared.lexeme.Lexical.TheVariants as tok
use Rattle.ae_reading.specs.Reads.{itself, Free, Isnt}
use Rattle.ae_statements.proofs.from_reading.ReadsLemmas.{exits}
use Rattle.ae_statements.specs.Productions.{member}
use Rattle.ae_statements.proofs.MadeLemmas.{member_took, member_refused, member_failed}
use Rattle.ae_statements.proofs.values.member.Goals as goal

pub returns-in_err-path : goal.returns-in_err-path
returns-in_err-path c = exits itself member Free (Isnt (tok.Sign sign.Dot)) _ _ _
    (member_failed _ _ c.in_err-path.ensures) c.from_residual.ensures.1

pub returns-then-is_empty : goal.returns-then-is_empty
returns-then-is_empty c = member_refused _ _ _ _ c.unexpected.ensures
    (c.if-is_empty.ensures.0 refl) c.in_ok-path.ensures

pub returns : goal.returns
returns c = member_took _ _ _ (λ e. let h = c.if-is_empty.ensures.1 e in cc) c.in_ok-path.ensures
