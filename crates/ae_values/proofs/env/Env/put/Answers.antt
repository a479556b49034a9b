use Rattle.std.proofs.Common.{◌≡◌, None, drop, subst, sym, ◌∙◌}
use Rattle.std.proofs.lemmas.Option.{none-some}
use Rattle.ae_values.specs.Binding.{IsNamedAt, bound_in}
use Rattle.ae_values.proofs.ShapeLemmas.{shapes_put}
use Rattle.ae_values.proofs.env.Env.put.Goals as goal

pub returns-in-Some-clause-shapes : goal.returns-in-Some-clause-shapes
returns-in-Some-clause-shapes c = λ b there keeps.
    let e = c.args.self.now in
    let named : IsNamedAt e.binds.items c.in-Some.at c.args.name =
    subst (λ bs. IsNamedAt bs c.in-Some.at c.args.name) c.as_slice.ensures.value c.in-Some.ensures.1 in
    shapes_put e c.exchange.new.self c.args.name c.args.bound b c.exchange.ensures.stays.heads_stay there
    (c.exchange.ensures.bound c.args.name named) keeps

pub returns-in-Some-clause-shapes_besides : goal.returns-in-Some-clause-shapes_besides
returns-in-Some-clause-shapes_besides c = λ none.
    let e = c.args.self.now in
    let named : IsNamedAt e.binds.items c.in-Some.at c.args.name =
    subst (λ bs. IsNamedAt bs c.in-Some.at c.args.name) c.as_slice.ensures.value c.in-Some.ensures.1 in
    absurd (none-some c.exchange.result (sym none ∙ sym (c.exchange.ensures.was c.args.name named)))

pub returns-in-None-clause-shapes : goal.returns-in-None-clause-shapes
returns-in-None-clause-shapes c = λ b there keeps.
    let none : bound_in (drop c.args.self.now.base c.args.self.now.binds.items) c.args.name ≡ None =
    subst (λ bs. bound_in (drop c.args.self.now.base bs) c.args.name ≡ None) c.as_slice.ensures.value
    c.in-None.ensures in
    absurd (none-some b (sym none ∙ there))
