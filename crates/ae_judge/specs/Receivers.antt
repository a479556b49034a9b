-- Which methods have a receiver.
use Rattle.std.specs.Prelude.{◌≡◌, Option, is_some}
use Rattle.ae_tree.specs.declared.tree.NameAt.{NameAt}
use Rattle.ae_tree.specs.declared.tree.Path.{Path}
use Rattle.ae_tree.specs.Plain.{Code}
use Rattle.ae_rules.specs.Verdict.{Holds}
use Rattle.ae_rules.specs.Context.{Context}
use Rattle.ae_rules.specs.Calls.{Callee, judge_callee}

-- the method that is called has a receiver exactly where the call has one
abbrev pub ReceiversFit : Code → Type 0
ReceiversFit p = (c : Context) (on : Option Path) (x : NameAt) (k : Callee) → judge_callee p c on x ≡ Holds k
    → is_some k.method.me ≡ is_some on
