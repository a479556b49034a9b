use Rattle.std.proofs.Common.{refl, subst, sym, ap, ◌∙◌}
use Rattle.ae_tree.specs.Limits.{Within}
use Rattle.ae_tree.specs.WellShaped.{WellShaped}
use Rattle.ae_tree.specs.Shown.{code as plain}
use Rattle.ae_graph.specs.GraphText.{graph_text}
use Rattle.aem.proofs.modes.drawn.Goals as goal

pub judge-requires : goal.judge-requires
judge-requires c =
    c.derived_programs_are_well_shaped.ensures c.requires.1.tokens (plain c.args.program) c.requires.1.derives

pub graph_text-requires-clause-shaped : goal.graph_text-requires-clause-shaped
graph_text-requires-clause-shaped c = subst WellShaped (sym c.in-Ok.ensures.1)
    (c.derived_programs_are_well_shaped.ensures c.requires.1.tokens (plain c.args.program) c.requires.1.derives)

pub graph_text-requires-clause-within : goal.graph_text-requires-clause-within
graph_text-requires-clause-within c = subst Within (sym c.in-Ok.ensures.1) c.requires.1.within

pub returns-in-Ok-graph_text : goal.returns-in-Ok-graph_text
returns-in-Ok-graph_text c = (
  tt,
  c.in-Ok.ensures.0,
  (refl, c.in-Ok-graph_text.ensures ∙ ap graph_text c.in-Ok.ensures.1),
)
