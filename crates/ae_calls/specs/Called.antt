-- What the answers on calls show, in the context before the statement.
use Rattle.ae_rules.specs.Context.{Context}
use Rattle.ae_rules.specs.Calls.{Called as CalledThere}
use Rattle.ae_rules.specs.Effects.{all_moved}
use Rattle.ae_calls.specs.declared.calls.Called.{Called}

-- a call's result, and the context where those names are gone
abbrev pub called_of : Context → Called → CalledThere
called_of c x = record { result = x.result; after = all_moved x.gone.items c }
