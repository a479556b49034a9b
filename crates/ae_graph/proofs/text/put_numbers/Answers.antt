use Rattle.ae_graph.proofs.Texts.{spaced_more}
use Rattle.ae_graph.proofs.text.put_numbers.Goals as goal

pub loop-number-preserved : goal.loop-number-preserved
loop-number-preserved c = spaced_more c.args.text.now.items c.loop-number.text.items c.put_number.new.text.items
    c.args.numbers.now c.loop-number.number-index c.loop-number-test.true c.loop-number.invariant
    c.in_ok-put_number.ensures
