use Rattle.std.proofs.Common.{ℕ, Option, None, ap, sym, ◌∙◌}
use Rattle.ae_rules.specs.Verdict.{given}
use Rattle.ae_semantics.specs.Places.{other_name}
use Rattle.ae_values.specs.declared.env.Bound.{Bound}
use Rattle.ae_values.specs.Environments.{group_bound}
use Rattle.ae_values.proofs.env.Env.holder.Goals as goal

pub returns-in-Some : goal.returns-in-Some
returns-in-Some c = λ cells r.
    let g = c.args.group in
    sym (ap (λ (o : Option Bound). other_name g (given o None (group_bound cells))) (sym c.get.ensures.bound)
    ∙ c.elsewhere.ensures cells g
    ∙ ap (λ (o : Option ℕ). given o g (λ h. h)) c.in-Some.is)

pub returns-in-None : goal.returns-in-None
returns-in-None c = λ cells r.
    let g = c.args.group in
    sym (ap (λ (o : Option Bound). other_name g (given o None (group_bound cells))) (sym c.get.ensures.bound)
    ∙ c.elsewhere.ensures cells g
    ∙ ap (λ (o : Option ℕ). given o g (λ h. h)) c.in-None.is)
