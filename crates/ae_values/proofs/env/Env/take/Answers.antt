use Rattle.std.proofs.Common.{sym, ◌∙◌}
use Rattle.ae_values.specs.declared.env.Bound.TheVariants as bound
use Rattle.ae_values.specs.Binding.{emptied}
use Rattle.ae_values.specs.Environments.{bound_under}
use Rattle.ae_values.proofs.BindLemmas.{changed_there}
use Rattle.ae_values.proofs.BindLemmas.{nothing_put}
use Rattle.ae_values.proofs.ShapeLemmas.{shapes_changed, shapes_same, emptied_shape}
use Rattle.ae_values.proofs.env.Env.take.Goals as goal

pub returns-in-Some-clause-left : goal.returns-in-Some-clause-left
returns-in-Some-clause-left c = changed_there c.args.name (bound_under c.args.self.now) (bound_under c.replace.new.self)
    (bound_under c.replace-in-Some.new.self) c.in-Some.bound (bound.Cell 0) c.emptied-left.result.0 emptied
    (sym c.replace.ensures.was ∙ c.in-Some.is) c.replace.ensures.bound c.replace-in-Some.ensures.bound
    c.emptied-left.ensures.left

pub returns-in-Some-clause-shapes : goal.returns-in-Some-clause-shapes
returns-in-Some-clause-shapes c = shapes_changed c.args.self.now c.replace-in-Some.new.self c.args.name (emptied)
    (c.replace-in-Some.ensures.stays.heads_stay ∙ c.replace.ensures.stays.heads_stay)
    (returns-in-Some-clause-left c) (emptied_shape)

pub returns-in-None-clause-shapes : goal.returns-in-None-clause-shapes
returns-in-None-clause-shapes c = shapes_same c.args.self.now c.replace.new.self c.replace.ensures.stays.heads_stay
    (nothing_put c.args.name (bound_under c.args.self.now) (bound_under c.replace.new.self) (bound.Cell 0)
    (sym c.replace.ensures.was ∙ c.in-None.is) c.replace.ensures.bound)
