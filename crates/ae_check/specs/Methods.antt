-- What a method knows at its start, step by step.
use Rattle.std.specs.Prelude.{ℕ, nat_eq, if◌then◌else◌, List, None, Some, option_map, ⊤}
use Rattle.ae_tree.specs.declared.tree.Param.{Param}
use Rattle.ae_tree.specs.declared.tree.GroupNeed.{GroupNeed}
use Rattle.ae_tree.specs.Names.{this}
use Rattle.ae_tree.specs.Plain.{Definition, Code}
use Rattle.ae_rules.specs.Verdict.{Verdict, ◌>>=◌, given}
use Rattle.ae_rules.specs.Context.{Local, Context}
use Rattle.ae_groups.specs.Contexts.{with_needed}
use Rattle.ae_rules.specs.Judges.{me_local, param_local, param_called, end_method}
use Rattle.ae_code.specs.declared.checked.Checked.{Checked}
use Rattle.ae_check.specs.Blocks.{block_verdict}

-- more groups are known, each with the permission of its need
abbrev pub with_groups_needed : List GroupNeed → List ℕ → Context → Context
with_groups_needed ns xs c = record c { group = with_needed ns xs c.group }

-- more parameters are visible: of those with one name the first, and none that is called `this`
abbrev pub with_params : List Param → Context → Context
with_params xs c = record c {
  local = λ y. given (c.local y)
      (if nat_eq this y then None else option_map param_local (param_called xs y)) (λ (l : Local). Some l);
}

-- the receiver is visible, where there is one
abbrev pub with_me : Code → Definition → Context → Context
with_me p m c = record c { local = λ y. if nat_eq this y then option_map (me_local p m) m.me else c.local y }

-- a method's body and its end, from its start
abbrev pub whole_verdict : Code → Definition → Context → Verdict ⊤
whole_verdict p m c = block_verdict p m m.body c >>= end_method p m

-- an accepted program shows nothing more
abbrev pub accepted : Checked → ⊤
accepted k = tt
