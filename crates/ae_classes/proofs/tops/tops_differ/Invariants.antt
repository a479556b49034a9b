use Rattle.std.proofs.Common.{◌≡◌, drop, take}
use Rattle.ae_tree.specs.Shown.{code}
use Rattle.ae_rules.specs.Verdict.{in_turn}
use Rattle.ae_rules.specs.Table.{declares_new, nothing_declared}
use Rattle.ae_classes.specs.Classes.{GivesDeclared, declared_in}
use Rattle.ae_classes.proofs.tops.tops_differ.Given as goal

abbrev pub invariant-loop-decl : goal.invariant-loop-decl
invariant-loop-decl l = record {
  rest : in_turn (declares_new (code l.program)) l.program.decls nothing_declared
      ≡ in_turn (declares_new (code l.program)) (drop l.decl-index l.program.decls) (declared_in l.names);
  gives : GivesDeclared l.names (code l.program) (take l.decl-index l.program.decls);
}
