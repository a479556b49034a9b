-- A program with its class table, as plain data.
use Rattle.ae_tree.specs.Plain.{Code}
use Rattle.ae_tree.specs.Shown.{code}
use Rattle.ae_judge.specs.declared.tabled.Tabled.{Tabled}

abbrev pub code_of : Tabled → Code
code_of t = code t.program.now
