use Rattle.std.proofs.Common.{◌≡◌, length, map, take}
use Rattle.std.specs.List.{flat_map}
use Rattle.ae_tree.specs.Shown.{definition}
use Rattle.ae_judge.specs.Tabled.{code_of}
use Rattle.ae_scope.specs.Scope.{Empty}
use Rattle.ae_graph.specs.GraphText.{text_of_method}
use Rattle.ae_graph.proofs.text.methods_text.Given as goal

-- the texts of the first methods, and nothing is known between two
abbrev pub invariant-loop-method : goal.invariant-loop-method
invariant-loop-method l = record {
  text : l.text.items ≡ flat_map (text_of_method (code_of l.tabled))
      (map definition (take l.method-index l.method-items));
  empty : Empty (length l.tabled.program.now.names) l.scope;
}
