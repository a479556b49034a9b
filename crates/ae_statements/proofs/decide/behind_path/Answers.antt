use Rattle.ae_statements.proofs.DecidedLemmas.{path_none, path_dot, path_less, path_value, path_neither}
use Rattle.ae_statements.proofs.decide.behind_path.Goals as goal

pub returns-in_default : goal.returns-in_default
returns-in_default c = path_none _ c.in_default.ensures

pub returns-then-is_sign_next : goal.returns-then-is_sign_next
returns-then-is_sign_next c = path_dot _ _ _ c.in-Some.ensures c.if-is_sign_next.ensures

pub returns-then-is_sign_next-3 : goal.returns-then-is_sign_next-3
returns-then-is_sign_next-3 c = path_less _ _ _ _ c.in-Some.ensures c.if-is_sign_next.ensures
    c.if-is_sign_next-3.ensures c.behind_less.ensures

pub returns-then-follows_path : goal.returns-then-follows_path
returns-then-follows_path c = path_value _ _ _ c.in-Some.ensures c.if-is_sign_next.ensures c.if-is_sign_next-2.ensures
    c.if-is_sign_next-3.ensures c.if-follows_path.ensures

pub returns-else-follows_path : goal.returns-else-follows_path
returns-else-follows_path c = path_neither _ _ _ c.in-Some.ensures c.if-is_sign_next.ensures
    c.if-is_sign_next-2.ensures c.if-is_sign_next-3.ensures c.if-follows_path.ensures
