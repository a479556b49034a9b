-- The method that is called, as plain data.
use Rattle.ae_tree.specs.Shown.{definition}
use Rattle.ae_rules.specs.Calls.{Callee as CalleeThere}
use Rattle.ae_calls.specs.declared.callees.Callee.{Callee}

abbrev pub callee_shown : Callee → CalleeThere
callee_shown k = record { number = k.number; method = definition k.method.now; names = k.names; groups = k.groups }
