use Rattle.std.proofs.Common.{◌≡◌, ◌++◌, map, take}
use Rattle.ae_tree.specs.Shown.{definition}
use Rattle.ae_judge.specs.Tabled.{code_of}
use Rattle.ae_frames.specs.Givens.{all_takers, me_taker, param_taker}
use Rattle.ae_frames.proofs.takers.takers.Given as goal

abbrev pub invariant-loop-param : goal.invariant-loop-param
invariant-loop-param l = all_takers l.takers ≡ me_taker (code_of l.tabled) (definition l.method)
    ++ map param_taker (take l.param-index l.param-items)
