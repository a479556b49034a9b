use Rattle.std.proofs.Common.{◌≡◌, ap, sym, ◌∙◌, subst, ℕ, ◌∷◌, OnOk, length}
use Rattle.std.proofs.lemmas.List.{length-map}
use Rattle.ae_tree.specs.Plain.{Lines}
use Rattle.ae_tree.specs.Shown.{braced, definition, lines_from, lines-out}
use Rattle.ae_values.specs.Environments.{running_binds}
use Rattle.ae_levels.specs.Levels.{InBlock}
use Rattle.ae_machine.specs.Frames.{levels}
use Rattle.ae_machine.specs.Tasks.{names_in}
use Rattle.ae_machine.proofs.steps.open.Goals as goal

pub returns-clause-opened : goal.returns-clause-opened
returns-clause-opened c =
    let o : (braced c.args.block.now).lines ≡ lines_from c.as_slice.result.now =
    lines-out c.args.block.now ∙ ap lines_from (sym c.as_slice.ensures) in
    let k : length (names_in c.args.run.now) ≡ c.mark.result =
    length-map (running_binds c.args.run.now.env) _ ∙ sym c.mark.ensures in
    subst (λ (l : Lines). OnOk c.push.result (levels c.push.new.frames.items ≡ InBlock c.args.fuel c.args.depth
    (definition c.args.method.now) l (length (names_in c.args.run.now)) ∷ levels c.args.frames.now.items)) (sym o)
    (subst (λ (n : ℕ). OnOk c.push.result (levels c.push.new.frames.items ≡ InBlock c.args.fuel c.args.depth
    (definition c.args.method.now) (lines_from c.as_slice.result.now) n ∷ levels c.args.frames.now.items)) (sym k)
    c.push.ensures.pushed)
