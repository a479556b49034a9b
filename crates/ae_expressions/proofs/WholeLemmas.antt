-- A whole expression and its limit.
use Rattle.std.proofs.Common.{refl}
use Rattle.ae_tree.specs.declared.limits.Limit.{Limit}
use Rattle.ae_tree.specs.declared.limits.Limit.TheVariants.{Statements, Depth, Levels, Params}
use Rattle.ae_tree.specs.Plain.{Expression}
use Rattle.ae_tree.specs.Grammar.{Tokens, whole_expression}
use Rattle.ae_tree.specs.Limits.{KeepsDepth}
use Rattle.ae_reading.specs.declared.fail.Fail.{Fail}
use Rattle.ae_reading.specs.Reads.{Took, Failed}
use Rattle.ae_expressions.proofs.from_reading.ReadsLemmas.{Along, took_as, failed_as}
use Rattle.ae_expressions.specs.Ends.{Ends}
use Rattle.ae_expressions.specs.Productions.{AtMostMarks, at_level}

keeps : (l : Limit) (e : Expression) → AtMostMarks 256 l e → KeepsDepth l e
keeps Statements e v = tt
keeps Depth e v = v refl
keeps Levels e v = tt
keeps Params e v = tt

at_most : (l : Limit) (e : Expression) → KeepsDepth l e → AtMostMarks 256 l e
at_most Statements e k = λ q. cc
at_most Depth e k = λ q. k
at_most Levels e k = λ q. cc
at_most Params e k = λ q. cc

whole_along : (ts : Tokens) → Along whole_expression (at_level 0) KeepsDepth (AtMostMarks 256) ts (λ e. e)
whole_along ts = record {
  intro = λ e us d. d;
  cases = λ y us r d h. (y, refl, d);
  to =
      λ e us d l v. keeps l e v;
  from = λ e us d l k. at_most l e k;
}

pub whole_took : (ts rest : Tokens) (e : Expression) → Took (at_level 0) (AtMostMarks 256) (Ends 0) ts e rest
    → Took whole_expression KeepsDepth (Ends 0) ts e rest
whole_took ts rest e t = took_as whole_expression (at_level 0) (λ e. e) (whole_along ts) t

pub whole_failed : (ts : Tokens) (e : Fail) → Failed (at_level 0) (AtMostMarks 256) (Ends 0) ts e
    → Failed whole_expression KeepsDepth (Ends 0) ts e
whole_failed ts e f = failed_as whole_expression (at_level 0) (λ e. e) (whole_along ts) f
