use Rattle.std.proofs.Common.{◌∙◌, ap, sym, Some}
use Rattle.std.specs.Prelude.{option_map}
use Rattle.ae_semantics.specs.Places.{Fine, with}
use Rattle.ae_values.specs.declared.env.Bound.TheVariants as bound
use Rattle.ae_values.specs.declared.env.Image.TheVariants as image
use Rattle.ae_values.specs.Environments.{running_binds, bound_under}
use Rattle.ae_values.specs.Shown.{shown}
use Rattle.ae_acts.proofs.from_names.AfterLemmas.{nothing_bound}
use Rattle.ae_acts.proofs.ShareLemmas.{group_declared}
use Rattle.ae_acts.proofs.groups.declares_group.Goals as goal

pub declare_group-requires-clause-new : goal.declare_group-requires-clause-new
declare_group-requires-clause-new c = nothing_bound (running_binds c.args.run.now.env) c.args.name c.requires.free

pub returns-in-Ok-clause-done : goal.returns-in-Ok-clause-done
returns-in-Ok-clause-done c = ap Fine (sym (group_declared (option_map shown c.args.run.now.result)
    c.args.run.now.env c.declare_group.new.self c.args.name
    (nothing_bound (running_binds c.args.run.now.env) c.args.name c.requires.free)
    (c.in-Ok.ensures.bound ∙ ap (λ st. with c.args.name (Some (bound.Whole (image.Store st)))
    (bound_under c.args.run.now.env)) c.new.ensures)))
