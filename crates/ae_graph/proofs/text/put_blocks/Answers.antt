use Rattle.std.proofs.Common.{arith, ◌∙◌, ◌++◌, ◌+◌, ap, List, ℕ, take, add-one}
use Rattle.std.specs.List.{flat_map}
use Rattle.ae_rules.specs.Blocks.{Opened}
use Rattle.ae_graph.specs.GraphText.{text_of_block}
use Rattle.ae_graph.proofs.Drawing.{drawable_at, all_are_taken, texts_one_more}
use Rattle.ae_graph.proofs.text.put_blocks.Goals as goal

pub put_opened-requires : goal.put_opened-requires
put_opened-requires c =
    let r = drawable_at c.requires.0 c.requires.1 c.args.blocks.now c.requires.2 c.loop-opened.opened-index
    c.opened-item.result c.loop-opened-test.true c.opened-item.is in
    (c.requires.0, r.0, r.1)

pub loop-opened-preserved : goal.loop-opened-preserved
loop-opened-preserved c = λ p xs d.
    let i = c.loop-opened.opened-index in
    let r = drawable_at p xs c.args.blocks.now d i c.opened-item.result c.loop-opened-test.true c.opened-item.is in
    texts_one_more p c.args.text.now.items c.loop-opened.text.items c.put_opened.new.text.items (take i xs)
    (take (i + 1) xs) r.0 (ap (λ (n : ℕ). take n xs) (add-one i) ∙ r.2) (c.loop-opened.invariant p xs d)
    (c.in_ok-put_opened.ensures p r.0 r.1)

pub returns : goal.returns
returns c = λ p xs d.
    c.loop-opened.invariant p xs d
    ∙ ap (λ (ys : List Opened). c.args.text.now.items ++ flat_map (text_of_block p) ys)
    (all_are_taken p xs c.args.blocks.now d c.loop-opened.opened-index (omega (arith, c.loop-opened-test.false)))
