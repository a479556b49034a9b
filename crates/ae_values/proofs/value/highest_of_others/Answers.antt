use Rattle.std.proofs.Common.{◌-◌, ◌+◌, length, arith, ◌∙◌}
use Rattle.ae_values.proofs.PutLemmas.{highest_of_both}
use Rattle.ae_values.proofs.value.highest_of_others.Goals as goal

pub returns : goal.returns
returns c all =
    c.max.ensures
    ∙ highest_of_both c.args.fields.now c.args.at (length c.args.fields.now - (c.args.at + 1)) c.highest_of.result
    c.highest_of-2.result all (omega arith) c.highest_of.ensures c.highest_of-2.ensures
