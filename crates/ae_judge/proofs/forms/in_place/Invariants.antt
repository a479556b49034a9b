use Rattle.std.proofs.Common.{◌≡◌, drop}
use Rattle.ae_rules.specs.Forms.{in_place}
use Rattle.ae_judge.proofs.forms.in_place.Given as goal

-- the rest decides
abbrev pub invariant-loop-i : goal.invariant-loop-i
invariant-loop-i l = in_place l.from l.to l.name ≡ in_place (drop l.i l.from) (drop l.i l.to) l.name
