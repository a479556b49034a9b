use Rattle.ae_tree.specs.Shown as shown
use Rattle.ae_tree.specs.Grammar.{right_of_equals}
use Rattle.ae_tree.specs.Limits.{KeepsRight}
use Rattle.ae_reading.specs.Reads.{Always}
use Rattle.ae_statements.proofs.from_reading.ReadsLemmas.{exits, first, second, both, free, took_as, failed_as}
use Rattle.ae_statements.specs.Productions.{with_semicolon, member}
use Rattle.ae_statements.proofs.ShapeLemmas.{suf_first, suf_second, took_suf}
use Rattle.ae_statements.proofs.MadeLemmas.{taking, taken, take_along, ended_member, no_dot}
use Rattle.ae_statements.proofs.values.taking.Goals as goal

pub returns-in_err-at : goal.returns-in_err-at
returns-in_err-at c = exits shown.right_side (with_semicolon right_of_equals) KeepsRight Always _ _ _
    (failed_as (with_semicolon right_of_equals) taking taken (take_along _ c.requires)
    (first (free (with_semicolon member) Always) ended_member c.in_err-at.ensures)) c.from_residual.ensures.1

pub returns-in_err-path : goal.returns-in_err-path
returns-in_err-path c = exits shown.right_side (with_semicolon right_of_equals) KeepsRight Always _ _ _
    (failed_as (with_semicolon right_of_equals) taking taken (take_along _ c.requires)
    (second (free (with_semicolon member) Always) c.in_ok-at.ensures
    (suf_first member no_dot tt c.in_err-path.ensures))) c.from_residual-in_err-path.ensures.1

pub returns-in_err-rest : goal.returns-in_err-rest
returns-in_err-rest c = exits shown.right_side (with_semicolon right_of_equals) KeepsRight Always _ _ _
    (failed_as (with_semicolon right_of_equals) taking taken (take_along _ c.requires)
    (second (free (with_semicolon member) Always) c.in_ok-at.ensures
    (suf_second member no_dot c.in_ok-path.ensures c.in_err-rest.ensures))) c.from_residual-in_err-rest.ensures.1

pub returns : goal.returns
returns c = took_as (with_semicolon right_of_equals) taking taken (take_along _ c.requires)
    (both (free (with_semicolon member) Always) c.in_ok-at.ensures
    (took_suf member no_dot c.in_ok-path.ensures c.in_ok-rest.ensures))
