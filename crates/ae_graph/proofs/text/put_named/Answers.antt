use Rattle.std.proofs.Common.{◌∙◌, ◌++◌, ap, append_assoc, List, ℕ, codes}
use Rattle.std.specs.List.{flat_map}
use Rattle.std.proofs.lemmas.Result.{on_ok_weaker}
use Rattle.ae_tree.specs.Shown.{code as plain, definition}
use Rattle.ae_graph.specs.GraphText.{written_name, in_class, text_of_block}
use Rattle.ae_graph.proofs.text.put_named.Goals as goal

pub returns : goal.returns
returns c = λ xs d.
    let p = plain c.args.program.now in
    let m = c.args.method.now in
    on_ok_weaker c.put_blocks.result (λ e. e
    ∙ ap (λ (t : List ℕ). t ++ flat_map (text_of_block (plain c.args.program.now)) xs) c.in_ok-put_head.ensures
    ∙ append_assoc c.args.text.now.items (codes "method " ++ in_class (plain c.args.program.now) (definition c.args.method.now)
    ++ written_name c.args.program.now.names c.args.method.now.name.name ++ codes "\n")
    (flat_map (text_of_block (plain c.args.program.now)) xs))
    (c.put_blocks.ensures (plain c.args.program.now) xs d)
