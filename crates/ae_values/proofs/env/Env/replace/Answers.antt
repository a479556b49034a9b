use Rattle.std.proofs.Common.{subst}
use Rattle.ae_values.specs.Binding.{IsNamedAt}
use Rattle.ae_values.proofs.ShapeLemmas.{shapes_put}
use Rattle.ae_values.proofs.env.Env.replace.Goals as goal

pub returns-in-Some-clause-shapes : goal.returns-in-Some-clause-shapes
returns-in-Some-clause-shapes c = λ b there keeps.
    let e = c.args.self.now in
    let named : IsNamedAt e.binds.items c.in-Some.at c.args.name =
    subst (λ bs. IsNamedAt bs c.in-Some.at c.args.name) c.as_slice.ensures.value c.in-Some.ensures.1 in
    shapes_put e c.exchange.new.self c.args.name c.args.bound b c.exchange.ensures.stays.heads_stay there
    (c.exchange.ensures.bound c.args.name named) keeps
