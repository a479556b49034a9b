use Rattle.std.proofs.Common.{◌≡◌, ℕ, Option, None, ap, sym, ◌∙◌}
use Rattle.ae_rules.specs.Verdict.{given}
use Rattle.ae_semantics.specs.Places.{members, other_name}
use Rattle.ae_values.specs.declared.env.Bound.{Bound}
use Rattle.ae_values.specs.Environments.{bound_under, group_bound, groups_in}
use Rattle.ae_values.proofs.env.Env.store.Goals as goal

pub returns-in-Some : goal.returns-in-Some
returns-in-Some c = λ cells r.
    let g = c.args.group in
    let f = bound_under c.args.self.now in
    let name : other_name g (groups_in cells f g) ≡ c.in-Some.other =
    ap (λ (o : Option Bound). other_name g (given o None (group_bound cells))) (sym c.get-found.ensures.bound)
    ∙ c.elsewhere.ensures cells g
    ∙ ap (λ (o : Option ℕ). given o g (λ h. h)) c.in-Some.is in
    c.whole.ensures cells
    ∙ ap (λ (o : Option Bound). members (given o None (group_bound cells))) c.get.ensures.bound
    ∙ ap (λ h. members (groups_in cells f h)) (sym name)

pub returns-in-None : goal.returns-in-None
returns-in-None c = λ cells r.
    let g = c.args.group in
    let f = bound_under c.args.self.now in
    let name : other_name g (groups_in cells f g) ≡ g =
    ap (λ (o : Option Bound). other_name g (given o None (group_bound cells))) (sym c.get-found.ensures.bound)
    ∙ c.elsewhere.ensures cells g
    ∙ ap (λ (o : Option ℕ). given o g (λ h. h)) c.in-None.is in
    c.whole-in-None.ensures cells
    ∙ ap (λ (o : Option Bound). members (given o None (group_bound cells))) c.get-found.ensures.bound
    ∙ ap (λ h. members (groups_in cells f h)) (sym name)
