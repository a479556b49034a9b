-- The laws by which a run goes on.
use Rattle.ae_rules.specs.Laws.{StatementsKeep}
use Rattle.ae_semantics.specs.Observations.{Seen}
use Rattle.std.specs.Prelude.{List}
use Rattle.ae_names.specs.Known.{DeclaredAreFree, NamesAreKnown, NamesEnd}
use Rattle.ae_steps.specs.Steps.{StacksAreDoneBy}
use Rattle.ae_acts.specs.Law.{ActsAreTheMeaning}
use Rattle.ae_frames.specs.Entries.{CallsEnterAlike}

-- what stacks do, what is known of names, and what statements and calls do
pub record Laws : Type 0 where
  pub steps : StacksAreDoneBy (List Seen)
  pub ends : NamesEnd
  pub known : NamesAreKnown
  pub free : DeclaredAreFree
  pub keeps : StatementsKeep
  pub acts : ActsAreTheMeaning (List Seen)
  pub entries : CallsEnterAlike
