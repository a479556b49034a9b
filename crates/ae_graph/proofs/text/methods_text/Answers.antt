use Rattle.ae_judge.specs.Tabled.{code_of}
use Rattle.ae_graph.proofs.Drawing.{methods_one_more}
use Rattle.ae_graph.proofs.text.methods_text.Goals as goal

pub loop-method-preserved : goal.loop-method-preserved
loop-method-preserved c = record {
  text = methods_one_more (code_of c.args.tabled.now) c.loop-method.text.items c.put_method.new.text.items
      c.as_slice-method-items.result.now c.loop-method.method-index c.method-item.result c.loop-method-test.true
      c.method-item.is c.loop-method.invariant.text c.in_ok-put_method.ensures.text;
  empty = c.in_ok-put_method.ensures.empty;
}
