use Rattle.std.proofs.Common.{sym, ap, ◌∙◌, subst, List, ◌∷◌, length}
use Rattle.ae_tree.specs.Plain.{Definition}
use Rattle.ae_tree.specs.Shown.{definition}
use Rattle.ae_starts.specs.Mains.{BeginsSo}
use Rattle.ae_levels.specs.Levels.{InBlock, Level}
use Rattle.ae_machine.specs.Frames.{levels}
use Rattle.ae_machine.specs.declared.frame.Frame.{Frame}
use Rattle.ae_machine.specs.Tasks.{IsAt, code_in, names_in}
use Rattle.ae_machine.proofs.BeginLemmas.{body_begins, main_is}
use Rattle.ae_machine.proofs.begin.begin_body.Goals as goal

pub bind_ints-requires-clause-begins : goal.bind_ints-requires-clause-begins
bind_ints-requires-clause-begins c =
    let p = code_in c.args.task.now in
    let b = c.main_begins.ensures p c.requires.sound.shaped c.requires.sound.free c.requires.sound.accepted in
    subst (λ (m : Definition). BeginsSo p m) (main_is p c.args.number (definition c.args.method.now) c.requires.main b)
    b.begins

pub returns-in-Ok : goal.returns-in-Ok
returns-in-Ok c =
    let p = code_in c.args.task.now in
    let m = definition c.args.method.now in
    let top : List Level → List Level =
    λ (ls : List Level). InBlock c.args.task.now.fuel 1 m m.body (length (names_in c.bind_ints.new.run)) ∷ ls in
    subst (λ (ls : List Level). IsAt c.args.task.now c.bind_ints.new.run ls)
    (sym (c.in-Ok.ensures.opened ∙ ap (λ (fs : List Frame). top (levels fs)) c.requires.none))
    (body_begins c.runs_mean_so.ensures c.args.task.now c.args.number m c.bind_ints.new.run c.requires.sound
    c.requires.main
    (c.main_begins.ensures p c.requires.sound.shaped c.requires.sound.free c.requires.sound.accepted)
    c.in_ok-bind_ints.ensures.names c.in_ok-bind_ints.ensures.state c.in_ok-bind_ints.ensures.waiting
    (ap (λ y. y.items) c.bind_ints.ensures.out ∙ c.requires.untouched.printed))
