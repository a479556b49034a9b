use Rattle.ae_statements.proofs.DeepLemmas.{loop_heads, head_failed, head_read}
use Rattle.ae_statements.proofs.deep.deep_repetition.Goals as goal

pub returns-in-Err : goal.returns-in-Err
returns-in-Err c = λ n. head_failed (loop_heads c.args.ts.now n c.requires) c.in-Err.ensures

pub returns : goal.returns
returns c = λ n. record {
  why = head_read c.opening.result (loop_heads c.args.ts.now n c.requires) c.in-Ok.ensures
      c.opening.ensures;
}
