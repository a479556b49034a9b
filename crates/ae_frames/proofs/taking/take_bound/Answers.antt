use Rattle.std.proofs.Common.{◌∙◌, ap, sym, refl}
use Rattle.std.specs.Prelude.{None}
use Rattle.ae_semantics.specs.Places.{State}
use Rattle.ae_values.specs.declared.env.Bound.TheVariants as bound
use Rattle.ae_frames.proofs.GroupLemmas.{group_is_put, group_is_taken, taken_is_group, groups_are_shaped_alike}
use Rattle.ae_frames.proofs.GroupLemmas.{group_is_there}
use Rattle.ae_frames.proofs.taking.take_bound.Goals as goal

pub returns-clause-grouped : goal.returns-clause-grouped
returns-clause-grouped c = taken_is_group c.args.env.now c.args.group c.replace.result c.in-Some.bound c.requires
    c.replace.ensures.was c.in-Some.is

pub returns-clause-taken : goal.returns-clause-taken
returns-clause-taken c = group_is_taken c.args.env.now c.args.group c.replace.result c.in-Some.bound
    c.replace.ensures.was c.in-Some.is

pub returns-clause-groups : goal.returns-clause-groups
returns-clause-groups c = ap (λ (s : State). s.groups)
    (group_is_put None c.args.env.now c.replace.new.self c.args.group (bound.Cell 0) c.requires refl
    c.replace.ensures.bound)

pub returns-clause-shapes : goal.returns-clause-shapes
returns-clause-shapes c = c.replace.ensures.shapes c.in-Some.bound (sym c.replace.ensures.was ∙ c.in-Some.is)
    (λ q. groups_are_shaped_alike c.args.env.now c.args.group (bound.Cell 0) c.in-Some.bound q c.requires refl
    (sym c.replace.ensures.was ∙ c.in-Some.is))

pub returns-in-None-clause-taken : goal.returns-in-None-clause-taken
returns-in-None-clause-taken c =
    absurd (group_is_there c.args.env.now c.args.group c.requires (sym c.replace.ensures.was ∙ c.in-None.is))

pub returns-in-None-clause-groups : goal.returns-in-None-clause-groups
returns-in-None-clause-groups c =
    absurd (group_is_there c.args.env.now c.args.group c.requires (sym c.replace.ensures.was ∙ c.in-None.is))

pub returns-in-None-clause-shapes : goal.returns-in-None-clause-shapes
returns-in-None-clause-shapes c =
    absurd (group_is_there c.args.env.now c.args.group c.requires (sym c.replace.ensures.was ∙ c.in-None.is))
