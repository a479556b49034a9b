use Rattle.std.proofs.Common.{List, length, ap, ◌∙◌}
use Rattle.ae_tree.specs.declared.tree.Method.{Method}
use Rattle.ae_tree.specs.Plain.{Definition}
use Rattle.ae_tree.specs.Shown.{code}
use Rattle.ae_rules.specs.Judges.{start}
use Rattle.std.proofs.Common.{get_or}
use Rattle.ae_groups.specs.Contexts.{known_groups}
use Rattle.ae_groups.proofs.MethodLemmas.{method_is_named, method_at_gives}
use Rattle.ae_groups.proofs.context.GroupContext.of.Goals as goal

pub start-requires-clause-named : goal.start-requires-clause-named
start-requires-clause-named c =
    let x = c.index-as_slice-method.result in
    method_is_named (length c.args.p.now.names) c.args.p.now.methods c.args.method x c.requires.within
    (c.index-as_slice-method.is ∙ ap (λ (ms : List Method). get_or ms c.args.method x) c.as_slice.ensures)
    c.requires.shaped.method_names

pub returns-in-Ok-clause-groups : goal.returns-in-Ok-clause-groups
returns-in-Ok-clause-groups c =
    let x = c.index-as_slice-method.result in
    method_at_gives (λ (m : Definition). (start (code c.args.p.now) m).group) c.args.p.now.methods c.args.method x
    (known_groups c.in-Ok.groups) c.requires.within
    (c.index-as_slice-method.is ∙ ap (λ (ms : List Method). get_or ms c.args.method x) c.as_slice.ensures)
    c.in-Ok.ensures.groups
