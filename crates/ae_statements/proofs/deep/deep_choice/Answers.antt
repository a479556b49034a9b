use Rattle.ae_statements.proofs.DeepLemmas.{choice_heads, head_failed, head_read}
use Rattle.ae_statements.proofs.deep.deep_choice.Goals as goal

pub returns-in-Err : goal.returns-in-Err
returns-in-Err c = λ n. head_failed (choice_heads c.args.ts.now n c.requires) c.in-Err.ensures

pub returns : goal.returns
returns c = λ n. record {
  why = head_read c.opening.result (choice_heads c.args.ts.now n c.requires) c.in-Ok.ensures
      c.opening.ensures;
}
