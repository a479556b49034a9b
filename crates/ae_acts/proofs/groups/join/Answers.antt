use Rattle.std.proofs.Common.{◌∙◌, ap, sym, Some}
use Rattle.std.specs.Prelude.{option_map}
use Rattle.ae_tree.specs.declared.form.Perm.TheVariants as perm
use Rattle.ae_semantics.specs.Places.{with_bound}
use Rattle.ae_values.specs.declared.value.Val.TheVariants as v
use Rattle.ae_values.specs.Environments.{state_in}
use Rattle.ae_values.specs.Shown.{ShownValue, shown, shown_tree, shown-Ref}
use Rattle.ae_names.specs.Known.{form_in}
use Rattle.ae_reads.specs.Answers.{one_name}
use Rattle.ae_running.specs.Seen.{seen}
use Rattle.ae_acts.specs.Doing.{forms_of}
use Rattle.ae_acts.proofs.ChangeLemmas.{local_assigned, local_permitted}
use Rattle.ae_acts.proofs.ShareLemmas.{member_joined, joined_nowhere}
use Rattle.ae_acts.proofs.groups.join.Goals as goal

pub returns-in-Ok-Some-clause-done : goal.returns-in-Ok-Some-clause-done
returns-in-Ok-Some-clause-done c =
    let r = option_map shown c.args.run.now.result in
    let x = c.args.name in
    let n = c.in-Ok-Some.number in
    let a = state_in one_name r c.add_member.new.self in
    member_joined (forms_of c.args.run.now) x c.args.group n (shown_tree c.args.object) c.in-Some.field-0
    (seen c.args.run.now) a (state_in one_name r c.assign.new.self) (state_in one_name r c.set_perm.new.self)
    c.in-Some.ensures (sym c.in-Ok-Some.field-0-is ∙ c.in-Ok-Some.ensures.number one_name r)
    (λ st here. c.in-Ok-Some.ensures.added one_name r st here)
    (λ form is. local_assigned r c.add_member.new.self c.assign.new.self x (v.Ref n) form
    (ap (λ names. form_in names x) c.in-Ok-Some.ensures.shapes ∙ is) c.assign.ensures.bound
    ∙ ap (λ (w : ShownValue). with_bound x (Some (record { form = form; value = w.value })) a) (shown-Ref n))
    (local_permitted r c.assign.new.self c.set_perm.new.self x (perm.Shared c.args.group) c.set_perm.ensures.bound)

pub returns-in-Ok-None-clause-done : goal.returns-in-Ok-None-clause-done
returns-in-Ok-None-clause-done c = joined_nowhere (forms_of c.args.run.now) c.args.name c.args.group
    (shown_tree c.args.object) c.in-Some.field-0 (seen c.args.run.now) c.in-Some.ensures
    (sym c.in-Ok-None.field-0-is ∙ c.in-Ok-None.ensures.number one_name (option_map shown c.args.run.now.result))
