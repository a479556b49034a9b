use Rattle.ae_statements.proofs.DeepLemmas.{lock_heads, head_failed, head_read}
use Rattle.ae_statements.proofs.deep.deep_locking.Goals as goal

pub returns-in-Err : goal.returns-in-Err
returns-in-Err c = λ n. head_failed (lock_heads c.args.ts.now n c.requires) c.in-Err.ensures

pub returns : goal.returns
returns c = λ n. record {
  why = head_read c.opening.result (lock_heads c.args.ts.now n c.requires) c.in-Ok.ensures
      c.opening.ensures;
}
