use Rattle.std.proofs.Common.{sym, ap, ◌∙◌}
use Rattle.std.proofs.lemmas.Option.{same_Some}
use Rattle.ae_rules.specs.Lookups.{method_at}
use Rattle.ae_tree.specs.Names.{main}
use Rattle.ae_machine.specs.Tasks.{code_in}
use Rattle.ae_machine.proofs.begin.begin.Goals as goal

pub unreachable-requires : goal.unreachable-requires
unreachable-requires c =
    let b = c.main_begins.ensures (code_in c.args.task.now) c.requires.sound.shaped c.requires.sound.free
    c.requires.sound.accepted in
    absurd (cc (sym c.in-None.is ∙ c.top.ensures ∙ c.args.task.now.tabled.stands.tops main ∙ b.has.number))

pub unreachable-requires-in-None-method_at : goal.unreachable-requires-in-None-method_at
unreachable-requires-in-None-method_at c =
    let p = code_in c.args.task.now in
    let b = c.main_begins.ensures p c.requires.sound.shaped c.requires.sound.free c.requires.sound.accepted in
    let same = same_Some c.in-Some.number b.number
    (sym c.in-Some.is ∙ c.top.ensures ∙ c.args.task.now.tabled.stands.tops main ∙ b.has.number) in
    absurd (cc (sym c.in-None-method_at.ensures ∙ ap (method_at p) same ∙ b.has.method))
