use Rattle.std.proofs.Common.{sym, ap, subst, ◌∙◌}
use Rattle.std.specs.Prelude.{⊤}
use Rattle.ae_rules.specs.Answers.{Answers, done}
use Rattle.ae_rules.specs.Verdict.{Verdict, each}
use Rattle.ae_rules.specs.Judges.{param_comes_back}
use Rattle.ae_scope.specs.Scope.{context_of}
use Rattle.ae_check.proofs.MethodLemmas.{after_two_that_hold}
use Rattle.ae_check.proofs.methods.end_method.Goals as goal

pub returns : goal.returns
returns c =
    subst (λ (v : Verdict ⊤). Answers v done c.params_come_back.result)
    (ap (each (param_comes_back (context_of c.args.scope.now))) c.as_slice.ensures
    ∙ sym (after_two_that_hold _ _ _ c.in_ok-returns.ensures c.in_ok-receiver_comes_back.ensures))
    c.params_come_back.ensures
