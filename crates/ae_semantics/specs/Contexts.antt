-- The contexts of the judgement, where the meaning asks for them.
use Rattle.std.specs.Prelude.{Bool, not, Option}
use Rattle.ae_text.specs.declared.refusal.Spot.{Spot}
use Rattle.ae_rules.specs.declared.uses.Mode.{Mode}
use Rattle.ae_tree.specs.Plain.{Action, Definition, Code}
use Rattle.ae_rules.specs.Verdict.{Verdict, Holds, Broken}
use Rattle.ae_rules.specs.Context.{Context}
use Rattle.ae_rules.specs.Statements.{judge_statement}
use Rattle.ae_rules.specs.EdgeLists.{is_weak}

-- the context that a verdict gives; where a rule is broken, the one before
abbrev pub or_before : Verdict Context → Context → Context
or_before (Holds c) before = c
or_before (Broken rule at) before = before

-- the context after a statement of a method
abbrev pub after : Code → Definition → Spot → Action → Context → Context
after p m at a c = or_before (judge_statement p m at a c) c

-- used so that nothing else uses it meanwhile
abbrev pub shuts_out : Option Mode → Bool
shuts_out o = not (is_weak o)
