use Rattle.std.proofs.Common.{◌≡◌, drop}
use Rattle.ae_rules.specs.Forms.{same_names}
use Rattle.ae_judge.proofs.forms.is_same_names.Given as goal

-- the rest decides
abbrev pub invariant-loop-i : goal.invariant-loop-i
invariant-loop-i l = same_names l.a l.b ≡ same_names (drop l.i l.a) (drop l.i l.b)
