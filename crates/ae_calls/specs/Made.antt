-- What the answers on new objects show, in the context before the statement.
use Rattle.ae_rules.specs.Context.{Context}
use Rattle.ae_rules.specs.Calls.{Filled as FilledThere, MadeValue}
use Rattle.ae_rules.specs.Effects.{all_moved}
use Rattle.ae_calls.specs.declared.filling.Filled.{Filled}
use Rattle.ae_calls.specs.declared.filling.Made.{Made}
use Rattle.ae_calls.specs.Roots.{roots_of}

-- the arguments so far, where those names moved
abbrev pub filled_of : Context → Filled → FilledThere
filled_of c x = record { roots = roots_of x.roots; after = all_moved x.moved.items c }

-- a new object, and the context where those names moved
abbrev pub made_of : Context → Made → MadeValue
made_of c x = record { value = x.value; after = all_moved x.moved.items c }
